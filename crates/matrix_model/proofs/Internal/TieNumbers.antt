-- The number of the call that lists tied rows, by what is judged one after the other.
use mathlib.Core.Path.{◌≡◌, refl, sym, ap, ◌∙◌}
use mathlib.Core.List.{List, [], ◌∷◌}
use mathlib.Core.Bool.{Bool, true, false, cond, not}
use Rattle.std.specs.Prelude.{Result, Ok, Err, IfOk}
use Prim.Native.Nat.{ℕ, ◌*◌, ◌<◌, ◌≤◌}
use native.Mathlib.Omega.{arith}
use borrow.Author.Tests.{eq-eqb, ne_eqb, lt-ltb, le-ltb}
use lib.Dec.{eqb, lit<}
use lib.ListN.{length, take}
use lib.Seq.{take_at}
use Rattle.linear_model.specs.Tables.{every}
use Rattle.elimination_model.specs.Independence.{trit_at}
use Rattle.elimination_model.specs.Tie.{entry_count}
use Rattle.elimination_model.proofs.TieBytes.{tie_only, untied_empty, tie_bytes_some, tie_bytes_even}
use Rattle.numbers.specs.Number.{◌when◌, first, at_front, output}
use Rattle.numbers.proofs.Numbers.{first_before, first-after}
use Rattle.numbers.specs.Refusals.{number_of, answer_number}
use Rattle.numbers.specs.declared.refusal.Refusal.{Refusal}
use Rattle.numbers.specs.declared.refusal.Refusal.TheVariants.{NotTied}
use Rattle.numbers.proofs.Outputs.{output-refused, output-done}
use Rattle.numbers.proofs.Refusals.{refused as refused_some}
use Rattle.matrix_model.specs.Block.{Layout}
use Rattle.matrix_model.specs.File.{file_size, row_plane_of, rows_of, fit_row, faults_of, row_faults_of, bad_check_of, bad_layout_of, bad_trit_of, tied_rows_of}
use Rattle.matrix_model.specs.Ties.{tie_of, tie_of_file, OnlyTieOfFile, tie_size, tie_number_of}
use Rattle.matrix_model.specs.Internal.Rows.{rows_answer, block_number_of, form_number_of, Listed}
use Rattle.matrix_model.proofs.Internal.RowNumbers.{accepted, refused}

-- ---- the form of a file

-- by two tests of a file's blocks, and else x
abbrev blocks_by : Bool → Bool → ℕ → ℕ
blocks_by a b x = cond a 8 (cond b 9 x)

module _ (layout : Layout) (file : List ℕ) (h : block_number_of layout file ≡ 0) where
  -- where its blocks are as they must be, its rows decide
  form_rows : form_number_of layout file ≡ cond (bad_trit_of layout (rows_of layout file)) 10 0
  unfolding first
  form_rows = by (bad_check_of layout file) (bad_layout_of layout file) (bad_trit_of layout (rows_of layout file)) h
    where
      by : (a b c : Bool) → blocks_by a b 0 ≡ 0 → blocks_by a b (cond c 10 0) ≡ cond c 10 0
      by true b c e = absurd (omega arith)
      by false true c e = absurd (omega arith)
      by false false c e = refl

  pub form_unfit : {refusal : Refusal} → rows_answer layout layout.row_count (rows_of layout file) ≡ Err refusal → number_of refusal ≡ form_number_of layout file
  unfolding rows_answer bad_trit_of
  form_unfit {refusal} e =
      let r = refused (every layout.row_count (fit_row layout (rows_of layout file))) _ refusal e in
      rw (form_rows, r.0, ← r.1)

  pub form_fit : {zero : Bool} → rows_answer layout layout.row_count (rows_of layout file) ≡ Ok zero → form_number_of layout file ≡ 0
  unfolding rows_answer bad_trit_of
  form_fit {zero} e = rw (form_rows, (accepted (every layout.row_count (fit_row layout (rows_of layout file))) _ zero e).0)

-- and where they are not, they are refused for that
pub form_blocks : (layout : Layout) (file : List ℕ) (number : ℕ) → number ≡ block_number_of layout file → (number ≡ 0 → ⊥) → number ≡ form_number_of layout file
unfolding first
form_blocks layout file number e z =
    e ∙ by (bad_check_of layout file) (bad_layout_of layout file) (bad_trit_of layout (rows_of layout file)) (λ q. z (e ∙ q))
  where
    by : (a b c : Bool) → (blocks_by a b 0 ≡ 0 → ⊥) → blocks_by a b 0 ≡ blocks_by a b (cond c 10 0)
    by true b c z = refl
    by false true c z = refl
    by false false c z = absurd (z refl)

-- ---- the list of a file

module _ (layout : Layout) (file : List ℕ) where
  tied_some : tied_rows_of layout (rows_of layout file) ≡ true → 0 < entry_count (tie_of_file layout file)
  unfolding tied_rows_of tie_of
  tied_some t = tie_bytes_some (8 * row_plane_of layout) layout.row_count (trit_at (row_plane_of layout) (rows_of layout file)) t

  untied_none : tied_rows_of layout (rows_of layout file) ≡ false → tie_of_file layout file ≡ []
  unfolding tied_rows_of tie_of
  untied_none t = untied_empty (8 * row_plane_of layout) layout.row_count (trit_at (row_plane_of layout) (rows_of layout file)) t

  tie_even : 2 * entry_count (tie_of_file layout file) ≡ length (tie_of_file layout file)
  unfolding tie_of
  tie_even = tie_bytes_even (8 * row_plane_of layout) layout.row_count (trit_at (row_plane_of layout) (rows_of layout file))

  only_tie : tied_rows_of layout (rows_of layout file) ≡ true → OnlyTieOfFile layout file (tie_of_file layout file)
  unfolding tied_rows_of tie_of
  only_tie t = tie_only (8 * row_plane_of layout) layout.row_count (trit_at (row_plane_of layout) (rows_of layout file)) t

-- ---- the number

-- by three tests of a file's form, and else x
abbrev form_by : Bool → Bool → Bool → ℕ → ℕ
form_by a b c x = blocks_by a b (cond c 10 x)

module _ (layout : Layout) (file : List ℕ) (n : ℕ) where
  -- where the slice is too short
  pub short_tie : n < tie_size layout → 1 ≡ tie_number_of layout file n
  unfolding first
  short_tie h = rw (lt-ltb n (tie_size layout) h) (either (not (eqb (length file) (file_size layout))))
    where
      either : (b : Bool) → ◌≡◌ {A = ℕ} 1 (cond b 1 1)
      either true = refl
      either false = refl

  -- where the file has another length
  pub other_tie : (length file ≡ file_size layout → ⊥) → 1 ≡ tie_number_of layout file n
  unfolding first
  other_tie h = rw (ne_eqb (length file) (file_size layout) h)

  module _ (e : length file ≡ file_size layout) (h : tie_size layout ≤ n) where
    -- where the file is refused for its form
    pub form_tie : (number : ℕ) → number ≡ form_number_of layout file → (number ≡ 0 → ⊥) → number ≡ tie_number_of layout file n
    unfolding first
    form_tie number p z =
        p ∙ rw (eq-eqb (length file) (file_size layout) e, le-ltb n (tie_size layout) h)
        (by (bad_check_of layout file) (bad_layout_of layout file) (bad_trit_of layout (rows_of layout file)) (cond (not (tied_rows_of layout (rows_of layout file))) 16 0) (λ q. z (p ∙ q)))
      where
        by : (a b c : Bool) (x : ℕ) → (form_by a b c 0 ≡ 0 → ⊥) → form_by a b c 0 ≡ form_by a b c x
        by true b c x z = refl
        by false true c x z = refl
        by false false true x z = refl
        by false false false x z = absurd (z refl)

    -- and where not, ties decide
    listed_tie : form_number_of layout file ≡ 0 → tie_number_of layout file n ≡ cond (tied_rows_of layout (rows_of layout file)) 0 16
    unfolding first
    listed_tie p =
        rw (eq-eqb (length file) (file_size layout) e, le-ltb n (tie_size layout) h)
        (by (bad_check_of layout file) (bad_layout_of layout file) (bad_trit_of layout (rows_of layout file)) (tied_rows_of layout (rows_of layout file)) p)
      where
        by : (a b c t : Bool) → form_by a b c 0 ≡ 0 → form_by a b c (cond (not t) 16 0) ≡ cond t 0 16
        by true b c t p = absurd (omega arith)
        by false true c t p = absurd (omega arith)
        by false false true t p = absurd (omega arith)
        by false false false true p = refl
        by false false false false p = refl

-- ---- the answer

-- what is returned, and the slice afterwards
abbrev pub Answered : Layout → List ℕ → List ℕ → Result ℕ Refusal → List ℕ → Type 0
Answered layout file old answer new =
    record {
      result : answer_number answer ≡ tie_number_of layout file (length old);
      count : IfOk answer (λ count. count ≡ entry_count (tie_of_file layout file));
      output : new ≡ output (answer_number answer) (tie_of_file layout file) old;
      only_tie : IfOk answer (λ count. OnlyTieOfFile layout file (take (2 * count) new));
    }

module _ (layout : Layout) (file old : List ℕ) where
  -- a refusal leaves the slice
  pub tie_refused : (refusal : Refusal) {new : List ℕ} → number_of refusal ≡ tie_number_of layout file (length old) → new ≡ old
      → Answered layout file old (Err refusal) new
  tie_refused refusal e same =
      record {
        result = e;
        count = tt;
        output = same ∙ output-refused (number_of refusal) (tie_of_file layout file) old (refused_some refusal refl);
        only_tie = tt;
      }

  -- after a list is written
  module _ (e : length file ≡ file_size layout) (h : tie_size layout ≤ length old) (p : form_number_of layout file ≡ 0) {new : List ℕ} {count : ℕ}
      (w : Listed layout file old new count) where
    -- an empty one: the rows are not tied
    pub none_listed : count ≡ 0 → Answered layout file old (Err NotTied) new
    none_listed z = go (tied_rows_of layout (rows_of layout file)) refl
      where
        go : (b : Bool) → tied_rows_of layout (rows_of layout file) ≡ b → Answered layout file old (Err NotTied) new
        go true t = absurd (omega (arith, w.0, tied_some layout file t))
        go false t =
            tie_refused NotTied (sym (listed_tie layout file (length old) e h p ∙ ap (λ (b : Bool). cond b 0 16) t))
            (w.1 ∙ ap (λ (list : List ℕ). at_front list old) (untied_none layout file t))

    -- another: they are, and it is the only such list
    pub some_listed : (count ≡ 0 → ⊥) → Answered layout file old (Ok count) new
    some_listed z = go (tied_rows_of layout (rows_of layout file)) refl
      where
        front : take (2 * count) new ≡ tie_of_file layout file
        front =
            ap (take (2 * count)) w.1
            ∙ take_at (tie_of_file layout file) _ (2 * count) (sym (tie_even layout file) ∙ ap (λ (m : ℕ). 2 * m) (sym w.0))

        go : (b : Bool) → tied_rows_of layout (rows_of layout file) ≡ b → Answered layout file old (Ok count) new
        go true t =
            record {
              result = sym (listed_tie layout file (length old) e h p ∙ ap (λ (b : Bool). cond b 0 16) t);
              count = w.0;
              output = w.1 ∙ output-done 0 (tie_of_file layout file) old refl;
              only_tie = rw front (only_tie layout file t);
            }
        go false t = absurd (z (w.0 ∙ ap entry_count (untied_none layout file t)))

-- ---- a file of the right length

module _ (layout : Layout) (file : List ℕ) where
  -- its blocks are judged before its rows
  pub faulty_blocks : {number : ℕ} → number ≡ block_number_of layout file → (number ≡ 0 → ⊥) → number ≡ first (faults_of layout file)
  unfolding faults_of row_faults_of
  faulty_blocks e z =
      e ∙ sym (first_before ((8 when bad_check_of layout file) ∷ (9 when bad_layout_of layout file) ∷ []) (row_faults_of layout (rows_of layout file)) (λ q. z (e ∙ q)))

  pub faulty_rows : block_number_of layout file ≡ 0 → first (row_faults_of layout (rows_of layout file)) ≡ first (faults_of layout file)
  unfolding faults_of row_faults_of
  faulty_rows e =
      sym (first-after ((8 when bad_check_of layout file) ∷ (9 when bad_layout_of layout file) ∷ []) (row_faults_of layout (rows_of layout file)) (lit< tt, (lit< tt, tt)) e)
