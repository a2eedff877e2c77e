-- The round trip: the rows of the file of fit rows are those rows, and the file of the rows of a fit file is that file.
use mathlib.Core.Path.{◌≡◌, sym, ap, ◌∙◌}
use mathlib.Core.List.{List, ◌∷◌}
use mathlib.Core.Bool.{Bool, true, false, not}
use Prim.Native.Nat.{ℕ, zero, suc, ◌+◌, ◌-◌, ◌*◌, ◌/◌, ◌%◌, ◌<◌}
use native.Mathlib.Nat.{div-add-mod}
use native.Mathlib.Decide.{dec_lt}
use native.Mathlib.Omega.{arith}
use borrow.Author.Tests.{eq-eqb, eqb-true, not-false, le-ltb}
use lib.Dec.{eqb}
use lib.ListN.{length, get_or}
use Rattle.linear_model.specs.Tables.{every}
use Rattle.linear_model.proofs.Tables.{length-tabulate}
use Rattle.numbers.specs.Number.{◌when◌, first}
use Rattle.numbers.proofs.Numbers.{first-none}
use Rattle.matrix_model.specs.Block.{Layout, rows_in, rows_end, head_byte, unused_byte, laid_out, check, check_holds, front_of, block_of}
use Rattle.matrix_model.specs.File.{Fits, block_count, file_size, rows_size, block, row_byte, rows_of, file_byte, file_from, checked_block, laid_out_block, bad_check_of, bad_layout_of, faults_of, row_faults_of, check_number_of, SurvivesOf, RestoresOf}
use Rattle.matrix_model.proofs.Tests.{every_true, every_holds, left_true, right_true}
use Rattle.matrix_model.proofs.Parts.{get_d_part, table_of}
use Rattle.matrix_model.proofs.Blocks.{check_ext}
use Rattle.matrix_model.proofs.Layouts.{before_check, next_bytes, row_byte_lem, byte_block, byte_place, full}
use Rattle.matrix_model.proofs.Rows.{length_rows, get_d_rows}
use Rattle.matrix_model.proofs.WrittenBlocks.{front_byte, row_byte_of, front_is, block_of_file, check_byte, written-check, written_layout}

-- ---- rows that are written

-- byte j of block b of a file
block_byte : (file : List ℕ) (b j : ℕ) → j < 512 → get_or (block file b) j 0 ≡ get_or file (512 * b + j) 0
block_byte file b j q = get_d_part 512 (512 * b) file j q

module _ (layout : Layout) (fits : Fits layout) (set : List ℕ) (h : length set ≡ rows_size layout) where
  -- the rows of the file of these rows
  pub rows_of_file : rows_of layout (file_from layout set) ≡ set
  unfolding rows_of
  rows_of_file = sym (table_of set (rows_size layout) (row_byte layout (file_from layout set)) h (λ k q. byte k q))
    where
      byte : (k : ℕ) → k < rows_size layout → get_or set k 0 ≡ row_byte layout (file_from layout set) k
      byte k q =
          let n = layout.row_bytes * layout.block_rows in
          let b = k / n in
          let j = k % n in
          let l : b < block_count layout = byte_block layout fits k q in
          let m : j < layout.row_bytes * rows_in layout b = byte_place layout fits k q in
          let room = before_check layout fits b in
          let e : n * b + j ≡ k = div-add-mod k n in
          ap (λ (i : ℕ). get_or set i 0) (sym e)
          ∙ sym (row_byte_of layout fits set h b l j m)
          ∙ sym (front_byte layout fits set h b l (4 + j) (omega arith))
          ∙ ap (λ (s : List ℕ). get_or s (4 + j) 0) (sym (block_of_file layout fits set h b l))
          ∙ block_byte (file_from layout set) b (4 + j) (omega arith)
          ∙ ap (λ (i : ℕ). get_or (file_from layout set) i 0) {y = 512 * b + 4 + j} (omega arith)
          ∙ sym (row_byte_lem layout fits (file_from layout set) b j (full layout fits b j m))
          ∙ ap (row_byte layout (file_from layout set)) e

  pub length_file : length (file_from layout set) ≡ file_size layout
  unfolding file_from
  length_file = length-tabulate (file_size layout) (file_byte layout set)

  pub no_bad_check : bad_check_of layout (file_from layout set) ≡ false
  unfolding bad_check_of
  no_bad_check =
      ap not (every_true (block_count layout) (checked_block (file_from layout set))
      (λ b l. ap check_holds (block_of_file layout fits set h b l) ∙ written-check layout fits set h b l))

  pub no_bad_layout : bad_layout_of layout (file_from layout set) ≡ false
  unfolding bad_layout_of
  no_bad_layout =
      ap not (every_true (block_count layout) (laid_out_block layout (file_from layout set))
      (λ b l. ap (laid_out layout b) (block_of_file layout fits set h b l) ∙ written_layout layout fits set h b l))

  -- the number of that file is the number of the rows
  pub number_of_file : check_number_of layout (file_from layout set) ≡ first (row_faults_of layout set)
  unfolding first faults_of row_faults_of
  number_of_file = rw (eq-eqb (length (file_from layout set)) (file_size layout) length_file, no_bad_check, no_bad_layout, rows_of_file)

  -- so fit rows survive
  pub survives : first (row_faults_of layout set) ≡ 0 → SurvivesOf layout set (file_from layout set)
  survives e = record { fit = number_of_file ∙ e; same = rows_of_file }

-- ---- a fit file

module _ (layout : Layout) (fits : Fits layout) (file : List ℕ) (h : length file ≡ file_size layout)
    (checked : bad_check_of layout file ≡ false) (laid : bad_layout_of layout file ≡ false) where
  set : List ℕ
  set = rows_of layout file

  long : length set ≡ rows_size layout
  unfolding set
  long = length_rows layout file

  checked_at : (b : ℕ) → b < block_count layout → check_holds (block file b) ≡ true
  unfolding bad_check_of
  checked_at = every_holds (block_count layout) (checked_block file) (not-false _ checked)

  laid-at : (b : ℕ) → b < block_count layout → laid_out layout b (block file b) ≡ true
  unfolding bad_layout_of
  laid-at = every_holds (block_count layout) (laid_out_block layout file) (not-false _ laid)

  front_same : (b : ℕ) → b < block_count layout → (j : ℕ) → j < 510 → get_or (block file b) j 0 ≡ get_or (front_of layout set b) j 0
  unfolding laid_out set
  front_same b l =
      let start = every 4 (head_byte layout b (block file b)) in
      let end = every (510 - rows_end layout b) (unused_byte layout b (block file b)) in
      let room = before_check layout fits b in
      front_is layout fits set long b l (λ j. get_or (block file b) j 0)
      (λ j q. eqb-true _ _ (every_holds 4 (head_byte layout b (block file b)) (left_true start end (laid-at b l)) j q))
      (λ j q. block_byte file b (4 + j) (omega arith) ∙ ap (λ (i : ℕ). get_or file i 0) {y = 512 * b + 4 + j} (omega arith)
      ∙ sym (get_d_rows layout fits file b j (full layout fits b j q) (omega (arith, next_bytes layout fits b l))))
      (λ k q. eqb-true _ _ (every_holds (510 - rows_end layout b) (unused_byte layout b (block file b)) (right_true start end (laid-at b l)) k q))

  checks_same : (b : ℕ) → b < block_count layout → (i : ℕ) → i < 2 → get_or (block file b) (510 + i) 0 ≡ get_or (check (front_of layout set b)) i 0
  unfolding check_holds
  checks_same b l i q = pick i q ∙ ap (λ (s : List ℕ). get_or s i 0) (check_ext (block file b) (front_of layout set b) (front_same b l))
    where
      one : Bool
      one = eqb (get_or (block file b) 510 0) (get_or (check (block file b)) 0 0)

      two : Bool
      two = eqb (get_or (block file b) 511 0) (get_or (check (block file b)) 1 0)

      pick : (i : ℕ) → i < 2 → get_or (block file b) (510 + i) 0 ≡ get_or (check (block file b)) i 0
      pick zero q = eqb-true _ _ (left_true one two (checked_at b l))
      pick (suc zero) q = eqb-true _ _ (right_true one two (checked_at b l))
      pick (suc (suc i)) q = absurd (omega arith)

  -- the file of its rows is that file
  pub file_of_rows : file_from layout (rows_of layout file) ≡ file
  unfolding file_from set
  file_of_rows = sym (table_of file (file_size layout) (file_byte layout set) h (λ i q. byte i q))
    where
      at : (b : ℕ) → b < block_count layout → (j : ℕ) → j < 512 → Dec (j < 510) → get_or (block file b) j 0 ≡ get_or (block_of layout set b) j 0
      at b l j q (yes p) = front_same b l j p ∙ sym (front_byte layout fits set long b l j p)
      at b l j q (no m) =
          let e : 510 + (j - 510) ≡ j = omega arith in
          ap (λ (i : ℕ). get_or (block file b) i 0) (sym e) ∙ checks_same b l (j - 510) (omega arith) ∙ sym (check_byte layout fits set long b l (j - 510))
          ∙ ap (λ (i : ℕ). get_or (block_of layout set b) i 0) e

      byte : (i : ℕ) → i < file_size layout → get_or file i 0 ≡ file_byte layout set i
      byte i q =
          let b = i / 512 in
          let j = i % 512 in
          ap (λ (m : ℕ). get_or file m 0) {y = 512 * b + j} (omega arith) ∙ sym (block_byte file b j (omega arith)) ∙ at b (omega arith) j (omega arith) (dec_lt j 510)

-- ---- by numbers

module _ (layout : Layout) (file : List ℕ) where
  -- a fit file has its length, and no fault
  pub long_where_fit : check_number_of layout file ≡ 0 → length file ≡ file_size layout
  long_where_fit e = eqb-true (length file) (file_size layout) (not-false _ (first-none 1 _ (faults_of layout file) (omega arith) e).0)

  faults_where_fit : check_number_of layout file ≡ 0 → first (faults_of layout file) ≡ 0
  faults_where_fit e = (first-none 1 _ (faults_of layout file) (omega arith) e).1

  -- a file whose faults give 0 has neither a bad check nor a bad layout
  module _ (e : first (faults_of layout file) ≡ 0) where
    no_check : (bad_check_of layout file ≡ false) × (first ((9 when bad_layout_of layout file) ∷ row_faults_of layout (rows_of layout file)) ≡ 0)
    unfolding faults_of row_faults_of
    no_check = first-none 8 _ _ (omega arith) e

    no_layout : (bad_layout_of layout file ≡ false) × (first (row_faults_of layout (rows_of layout file)) ≡ 0)
    no_layout = first-none 9 _ _ (omega arith) no_check.1

    -- so its rows restore it
    restores : Fits layout → length file ≡ file_size layout → RestoresOf layout (rows_of layout file) file
    unfolding first row_faults_of
    restores fits h =
        record {
          fit = rw (eq-eqb (length (rows_of layout file)) (rows_size layout) (length_rows layout file), le-ltb (file_size layout) (file_size layout) (omega arith)) no_layout.1;
          same = file_of_rows layout fits file h no_check.0 no_layout.0;
        }

  -- a fit file is restored by its rows
  pub restored : Fits layout → check_number_of layout file ≡ 0 → RestoresOf layout (rows_of layout file) file
  restored fits e = restores (faults_where_fit e) fits (long_where_fit e)
