-- Laws of a block: its sums, and the block that is written.
use mathlib.Core.Path.{◌≡◌, refl, ap₂}
use mathlib.Core.List.{List}
use mathlib.Core.Bool.{false, and-false}
use mathlib.Core.Logic.{◌⊎◌, inl, inr}
use Prim.Native.Nat.{ℕ, zero, suc, ◌-◌, ◌*◌, ◌<◌}
use native.Mathlib.Nat.{le_refl, le_step}
use native.Mathlib.Omega.{arith}
use borrow.Author.Tests.{ne_eqb}
use lib.Dec.{eqb, lit<}
use lib.ListN.{length, get_or, take, drop, length-append}
use Rattle.linear_model.specs.Tables.{tabulate, from}
use Rattle.linear_model.proofs.Strings.{length-zeros}
use Rattle.matrix_model.specs.Block.{Layout, first_sum, second_sum, check, check_holds, rows_in, rows_end, front_of, block_of}
use Rattle.matrix_model.specs.File.{Fits, block_count, rows_size, file_byte}
use Rattle.matrix_model.proofs.Parts.{length_part, table_of}
use Rattle.matrix_model.proofs.Layouts.{before_check, next_bytes}

-- ---- sums

-- the sums of lists that agree below n are equal
pub first_sum_ext : (s t : List ℕ) (n : ℕ) → ((i : ℕ) → i < n → get_or s i 0 ≡ get_or t i 0) → first_sum s n ≡ first_sum t n
unfolding first_sum
first_sum_ext s t zero h = refl
first_sum_ext s t (suc n) h = rw (first_sum_ext s t n (λ i l. h i (le_step l)), h n (le_refl (suc n)))

pub second_sum_ext : (s t : List ℕ) (n : ℕ) → ((i : ℕ) → i < n → get_or s i 0 ≡ get_or t i 0) → second_sum s n ≡ second_sum t n
unfolding second_sum
second_sum_ext s t zero h = refl
second_sum_ext s t (suc n) h = rw (second_sum_ext s t n (λ i l. h i (le_step l)), first_sum_ext s t (suc n) h)

pub check_ext : (s t : List ℕ) → ((i : ℕ) → i < 510 → get_or s i 0 ≡ get_or t i 0) → check s ≡ check t
unfolding check
check_ext s t h = rw (first_sum_ext s t 510 h, second_sum_ext s t 510 h)

-- the sums are 0 to 254, so a stored byte of 255 is never right
pub first_sum_lt : (s : List ℕ) (n : ℕ) → first_sum s n < 255
unfolding first_sum
first_sum_lt s zero = lit< tt
first_sum_lt s (suc n) = omega arith

pub second_sum_lt : (s : List ℕ) (n : ℕ) → second_sum s n < 255
unfolding second_sum
second_sum_lt s zero = lit< tt
second_sum_lt s (suc n) = omega arith

pub never_255 : (s : List ℕ) → (get_or s 510 0 ≡ 255) ⊎ (get_or s 511 0 ≡ 255) → check_holds s ≡ false
unfolding check_holds check
never_255 s (inl e) = rw (ne_eqb (get_or s 510 0) (first_sum s 510) (λ (z : get_or s 510 0 ≡ first_sum s 510). omega (arith, first_sum_lt s 510)))
never_255 s (inr e) =
    rw (ne_eqb (get_or s 511 0) (second_sum s 510) (λ (z : get_or s 511 0 ≡ second_sum s 510). omega (arith, second_sum_lt s 510))) (and-false (eqb (get_or s 510 0) (first_sum s 510)))

-- ---- the block that is written

-- the check has two bytes
pub length-check : (s : List ℕ) → length (check s) ≡ 2
unfolding check
length-check s = refl

-- bytes 0 to 509 of a block that is written, and the whole
module _ (layout : Layout) (fits : Fits layout) (rows : List ℕ) (h : length rows ≡ rows_size layout) (b : ℕ) (l : b < block_count layout) where
  pub length_front : length (front_of layout rows b) ≡ 510
  unfolding front_of
  length_front =
      let n = layout.row_bytes * rows_in layout b in
      let at = layout.row_bytes * layout.block_rows * b in
      let e : length (take n (drop at rows)) ≡ n = length_part n at rows (omega (arith, next_bytes layout fits b l)) in
      rw (length-append, length-append, e, length-zeros (510 - rows_end layout b)) (omega (arith, before_check layout fits b))

  pub length-block : length (block_of layout rows b) ≡ 512
  unfolding block_of
  length-block = rw (length-append, length_front, length-check (front_of layout rows b))

  -- a block is the next part of the file
  pub block_part : block_of layout rows b ≡ tabulate 512 (from (512 * b) (file_byte layout rows))
  block_part =
      table_of (block_of layout rows b) 512 (from (512 * b) (file_byte layout rows)) length-block
      (λ k q. ap₂ (λ (i j : ℕ). get_or (block_of layout rows i) j 0) (omega arith) (omega arith))
