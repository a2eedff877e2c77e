-- Laws of rows: what a test of a row reads, and the rows of a block.
use mathlib.Core.Path.{◌≡◌, sym, ap, ap₂, ◌∙◌}
use mathlib.Core.List.{List}
use Prim.Native.Nat.{ℕ, ◌+◌, ◌-◌, ◌*◌, ◌<◌, ◌≤◌}
use native.Mathlib.Omega.{arith}
use lib.Dec.{eqb, ltb}
use lib.ListN.{length, take}
use Rattle.linear_model.specs.Tables.{tabulate, from}
use Rattle.linear_model.specs.Trits.{trit, fit_trit, fit_trits, zero_trit, zero_trits}
use Rattle.linear_model.proofs.Tables.{every_ext}
use Rattle.linear_model.proofs.Strings.{bit-take}
use Rattle.matrix_model.specs.Block.{Layout, rows_in}
use Rattle.matrix_model.specs.File.{Fits, block_count, file_size, rows_size, row_byte}
use Rattle.matrix_model.specs.Internal.Rows.{rows_in_file, rows_for_block}
use Rattle.matrix_model.proofs.Parts.{length_part, get_d_part, table_of}
use Rattle.matrix_model.proofs.Layouts.{before_check, next_bytes, row_byte_lem, full}

-- ---- a test of a row reads no more than the row

pub trit-take : (m : ℕ) (s : List ℕ) (j : ℕ) → j < 8 * m → trit m (take (2 * m) s) j ≡ trit m s j
unfolding trit
trit-take m s j l =
    ap₂ (λ (x y : ℕ). x + 2 * y) (bit-take (2 * m) s j (omega arith)) (bit-take (2 * m) s (8 * m + j) (omega arith))

pub fit_take : (m t : ℕ) (s : List ℕ) → t ≤ 8 * m → fit_trits m t (take (2 * m) s) ≡ fit_trits m t s
unfolding fit_trits
fit_take m t s h =
    every_ext t (fit_trit m (take (2 * m) s)) (fit_trit m s) (λ j l. ap (λ (x : ℕ). ltb x 3) (trit-take m s j (omega arith)))

pub zero-take : (m : ℕ) (s : List ℕ) → zero_trits m 0 (take (2 * m) s) ≡ zero_trits m 0 s
unfolding zero_trits
zero-take m s =
    every_ext (8 * m - 0) (zero_trit m 0 (take (2 * m) s)) (zero_trit m 0 s)
    (λ j l. ap (λ (x : ℕ). eqb x 0) (trit-take m s (0 + j) (omega arith)))

-- ---- the rows of a block

module _ (layout : Layout) (fits : Fits layout) (file : List ℕ) (b : ℕ) (h : length file ≡ file_size layout) (l : b < block_count layout) where
  -- they are within the file
  pub within_file : 512 * b + 4 + layout.row_bytes * rows_in layout b ≤ length file
  within_file = omega (arith, before_check layout fits b)

  -- the rows in block b are the next of the rows
  pub rows_part : rows_in_file layout file b ≡ tabulate (layout.row_bytes * rows_in layout b) (from (layout.row_bytes * layout.block_rows * b) (row_byte layout file))
  rows_part =
      let n = layout.row_bytes * rows_in layout b in
      table_of (rows_in_file layout file b) n (from (layout.row_bytes * layout.block_rows * b) (row_byte layout file))
      (length_part n (512 * b + 4) file within_file)
      (λ k q. get_d_part n (512 * b + 4) file k q ∙ sym (row_byte_lem layout fits file b k (full layout fits b k q)))

  pub long_part : (part : List ℕ) → part ≡ rows_in_file layout file b → length part ≡ layout.row_bytes * rows_in layout b
  long_part part e = rw e (length_part (layout.row_bytes * rows_in layout b) (512 * b + 4) file within_file)

-- and those of a set
module _ (layout : Layout) (fits : Fits layout) (set : List ℕ) (b : ℕ) (h : length set ≡ rows_size layout) (l : b < block_count layout) where
  pub within_set : layout.row_bytes * layout.block_rows * b + layout.row_bytes * rows_in layout b ≤ length set
  within_set = omega (arith, next_bytes layout fits b l)

  pub long_set : (part : List ℕ) → part ≡ rows_for_block layout set b → length part ≡ layout.row_bytes * rows_in layout b
  long_set part e = rw e (length_part (layout.row_bytes * rows_in layout b) (layout.row_bytes * layout.block_rows * b) set within_set)
