-- The numbers of a file's conditions rise, so check, reader, writer and the list of tied rows return the lowest.
use Prim.Native.Nat.{ℕ}
use mathlib.Core.List.{List}
use lib.Dec.{lit≤}
use Rattle.numbers.specs.Lowest.{RisingFrom}
use Rattle.numbers.proofs.Lowest.{rising_from, UpTo}
use Rattle.numbers.specs.Sets.{LowestIn}
use Rattle.matrix_model.specs.Block.{Layout}
use Rattle.matrix_model.specs.File.{faults_of, row_faults_of, check_conditions_of, read_conditions_of, write_conditions_of, layout_of, check_number, read_number, write_number}
use Rattle.matrix_model.specs.Ties.{tie_conditions_of, tie_number}
use Rattle.numbers.proofs.Sets.{lowest_in}

-- 8, 9, 10, 12
pub faults_rise : (layout : Layout) (file : List ℕ) → RisingFrom 8 (faults_of layout file)
unfolding faults_of
faults_rise layout file = (lit≤ tt, (lit≤ tt, (lit≤ tt, (lit≤ tt, tt))))

pub faults_up_to : (layout : Layout) (file : List ℕ) → UpTo 12 (faults_of layout file)
unfolding faults_of
faults_up_to layout file = (lit≤ tt, (lit≤ tt, (lit≤ tt, (lit≤ tt, tt))))

-- 10, 12
row_faults_rise : (layout : Layout) (rows : List ℕ) → RisingFrom 10 (row_faults_of layout rows)
unfolding row_faults_of
row_faults_rise layout rows = (lit≤ tt, (lit≤ tt, tt))

-- ---- in each set

module _ (set : ℕ) where
  pub check-lowest : (file : List ℕ) → LowestIn set (check_conditions_of (layout_of set) file) (check_number set file)
  unfolding check_number
  check-lowest file =
      lowest_in set _ (lit≤ tt, rising_from 1 8 (faults_of (layout_of set) file) (lit≤ tt) (faults_rise (layout_of set) file))

  pub read_lowest : (file : List ℕ) (n : ℕ) → LowestIn set (read_conditions_of (layout_of set) file n) (read_number set file n)
  unfolding read_number
  read_lowest file n =
      lowest_in set _ (lit≤ tt, (lit≤ tt, rising_from 1 8 (faults_of (layout_of set) file) (lit≤ tt) (faults_rise (layout_of set) file)))

  pub write_lowest : (rows : List ℕ) (n : ℕ) → LowestIn set (write_conditions_of (layout_of set) rows n) (write_number set rows n)
  unfolding write_number
  write_lowest rows n =
      lowest_in set _ (lit≤ tt, (lit≤ tt, rising_from 1 10 (row_faults_of (layout_of set) rows) (lit≤ tt) (row_faults_rise (layout_of set) rows)))

  -- 1, 1, 8, 9, 10, 16
  pub tie_lowest : (file : List ℕ) (n : ℕ) → LowestIn set (tie_conditions_of (layout_of set) file n) (tie_number set file n)
  unfolding tie_number
  tie_lowest file n = lowest_in set _ (lit≤ tt, (lit≤ tt, (lit≤ tt, (lit≤ tt, (lit≤ tt, (lit≤ tt, tt))))))
