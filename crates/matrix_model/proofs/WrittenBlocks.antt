-- The bytes of a block that is written: its check holds, and it is laid out as stated.
use mathlib.Core.Path.{◌≡◌, sym, ap, ◌∙◌}
use mathlib.Core.List.{List, ◌++◌}
use mathlib.Core.Bool.{true}
use Prim.Native.Nat.{ℕ, ◌+◌, ◌-◌, ◌*◌, ◌<◌}
use native.Mathlib.Decide.{dec_lt}
use native.Mathlib.Omega.{arith}
use borrow.Author.Tests.{eq-eqb}
use lib.ListN.{length, get_or, take, drop, get_or-replicate, get_or-append}
use lib.Seq.{get_or-append-add}
use Rattle.linear_model.specs.Tables.{tabulate, from}
use Rattle.linear_model.specs.Bits.{zeros}
use Rattle.linear_model.proofs.Tables.{length-tabulate, get_d_tabulate}
use Rattle.matrix_model.specs.Block.{Layout, rows_in, rows_end, head, head_byte, unused_byte, laid_out, check, check_holds, front_of, block_of}
use Rattle.matrix_model.specs.File.{Fits, block_count, file_size, rows_size, block, file_byte, file_from}
use Rattle.matrix_model.proofs.Tests.{every_true, both_true}
use Rattle.matrix_model.proofs.Parts.{length_part, get_d_part, table_of}
use Rattle.matrix_model.proofs.Layouts.{next_bytes}
use Rattle.matrix_model.proofs.Blocks.{check_ext, length_front, block_part}

module _ (layout : Layout) (fits : Fits layout) (set : List ℕ) (h : length set ≡ rows_size layout) (b : ℕ) (l : b < block_count layout) where
  part : List ℕ
  part = take (layout.row_bytes * rows_in layout b) (drop (layout.row_bytes * layout.block_rows * b) set)

  long_part : length part ≡ layout.row_bytes * rows_in layout b
  unfolding part
  long_part = length_part (layout.row_bytes * rows_in layout b) (layout.row_bytes * layout.block_rows * b) set (omega (arith, next_bytes layout fits b l))

  -- those of its front, but for the check
  pub front_byte : (j : ℕ) → j < 510 → get_or (block_of layout set b) j 0 ≡ get_or (front_of layout set b) j 0
  unfolding block_of
  front_byte j q =
      get_or-append (front_of layout set b) (check (front_of layout set b)) 0 j (rw (length_front layout fits set h b l) q)

  head_byte_lem : (j : ℕ) → j < 4 → get_or (front_of layout set b) j 0 ≡ get_or (head layout b) j 0
  unfolding front_of part
  head_byte_lem j q = get_or-append (head layout b) (part ++ zeros (510 - rows_end layout b)) 0 j q

  pub row_byte_of : (j : ℕ) → j < layout.row_bytes * rows_in layout b → get_or (front_of layout set b) (4 + j) 0 ≡ get_or set (layout.row_bytes * layout.block_rows * b + j) 0
  unfolding front_of part
  row_byte_of j q =
      get_or-append-add (head layout b) (part ++ zeros (510 - rows_end layout b)) j 0
      ∙ get_or-append part (zeros (510 - rows_end layout b)) 0 j (rw long_part q)
      ∙ get_d_part (layout.row_bytes * rows_in layout b) (layout.row_bytes * layout.block_rows * b) set j q

  unused_byte_lem : (k : ℕ) → k < 510 - rows_end layout b → get_or (front_of layout set b) (rows_end layout b + k) 0 ≡ 0
  unfolding front_of part
  unused_byte_lem k q =
      let e : rows_end layout b + k ≡ 4 + (layout.row_bytes * rows_in layout b + k) = omega arith in
      ap (λ (i : ℕ). get_or (front_of layout set b) i 0) e
      ∙ get_or-append-add (head layout b) (part ++ zeros (510 - rows_end layout b)) (layout.row_bytes * rows_in layout b + k) 0
      ∙ ap (λ (i : ℕ). get_or (part ++ zeros (510 - rows_end layout b)) (i + k) 0) (sym long_part)
      ∙ get_or-append-add part (zeros (510 - rows_end layout b)) k 0
      ∙ get_or-replicate (510 - rows_end layout b) k 0 0 q

  -- bytes that are those of the head, of the rows and zero are those of the front
  pub front_is : (f : ℕ → ℕ) → ((j : ℕ) → j < 4 → f j ≡ get_or (head layout b) j 0) → ((j : ℕ) → j < layout.row_bytes * rows_in layout b → f (4 + j) ≡ get_or set (layout.row_bytes * layout.block_rows * b + j) 0)
      → ((k : ℕ) → k < 510 - rows_end layout b → f (rows_end layout b + k) ≡ 0) → (j : ℕ) → j < 510 → f j ≡ get_or (front_of layout set b) j 0
  front_is f start middle end j q = go (dec_lt j 4) (dec_lt j (rows_end layout b))
    where
      go : Dec (j < 4) → Dec (j < rows_end layout b) → f j ≡ get_or (front_of layout set b) j 0
      go (yes p) d = start j p ∙ sym (head_byte_lem j p)
      go (no n) (yes p) =
          let e : 4 + (j - 4) ≡ j = omega arith in
          ap f (sym e) ∙ middle (j - 4) (omega arith) ∙ sym (row_byte_of (j - 4) (omega arith)) ∙ ap (λ (i : ℕ). get_or (front_of layout set b) i 0) e
      go (no n) (no m) =
          let e : rows_end layout b + (j - rows_end layout b) ≡ j = omega arith in
          ap f (sym e) ∙ end (j - rows_end layout b) (omega arith) ∙ sym (unused_byte_lem (j - rows_end layout b) (omega arith))
          ∙ ap (λ (i : ℕ). get_or (front_of layout set b) i 0) e

  -- block b of the file that is written
  pub block_of_file : block (file_from layout set) b ≡ block_of layout set b
  unfolding file_from
  block_of_file =
      let n : length (tabulate (file_size layout) (file_byte layout set)) ≡ file_size layout = length-tabulate (file_size layout) (file_byte layout set) in
      table_of (block (tabulate (file_size layout) (file_byte layout set)) b) 512 (from (512 * b) (file_byte layout set))
      (length_part 512 (512 * b) (tabulate (file_size layout) (file_byte layout set)) (omega (arith, n)))
      (λ k q. get_d_part 512 (512 * b) (tabulate (file_size layout) (file_byte layout set)) k q
      ∙ get_d_tabulate (file_size layout) (file_byte layout set) (512 * b + k) (omega arith))
      ∙ sym (block_part layout fits set h b l)

  -- its check holds
  pub check_byte : (i : ℕ) → get_or (block_of layout set b) (510 + i) 0 ≡ get_or (check (front_of layout set b)) i 0
  unfolding block_of
  check_byte i =
      let front = front_of layout set b in
      ap (λ (m : ℕ). get_or (front ++ check front) (m + i) 0) (sym (length_front layout fits set h b l)) ∙ get_or-append-add front (check front) i 0

  check_same : check (block_of layout set b) ≡ check (front_of layout set b)
  check_same = check_ext (block_of layout set b) (front_of layout set b) front_byte

  pub written-check : check_holds (block_of layout set b) ≡ true
  unfolding check_holds
  written-check = both_true (eq-eqb _ _ (check_byte 0 ∙ rw check_same)) (eq-eqb _ _ (check_byte 1 ∙ rw check_same))

  -- and it is laid out as stated
  pub written_layout : laid_out layout b (block_of layout set b) ≡ true
  unfolding laid_out
  written_layout =
      both_true
      (every_true 4 (head_byte layout b (block_of layout set b)) (λ j q. eq-eqb _ _ (front_byte j (omega arith) ∙ head_byte_lem j q)))
      (every_true (510 - rows_end layout b) (unused_byte layout b (block_of layout set b))
      (λ k q. eq-eqb _ _ (front_byte (rows_end layout b + k) (omega arith) ∙ unused_byte_lem k q)))
