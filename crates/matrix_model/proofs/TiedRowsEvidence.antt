-- What shows that the list of tied rows is the one that is asked for: rows of the diagonal and a combination of them, and all of the evidence.
use Prim.Native.Nat.{ℕ, suc, ◌+◌, ◌*◌, ◌%◌, ◌<◌, ◌≤◌, zero-le}
use mathlib.Core.Path.{◌≡◌, refl, sym, ap, ap₂, ◌∙◌}
use mathlib.Core.List.{List, [], ◌∷◌}
use mathlib.Core.Bool.{Bool, true, false, cond, not}
use mathlib.Core.Logic.{◌≢◌}
use native.Mathlib.Nat.{le_refl, mul-zero}
use native.Mathlib.Decide.{dec_lt}
use native.Mathlib.Omega.{arith}
use borrow.Author.Tests.{eq-eqb, ne_eqb, le-ltb}
use lib.Dec.{eqb, ltb, lit<, lit≤}
use lib.ListN.{length, drop, get_or}
use Rattle.linear_model.specs.Tables.{sum, every, tabulate, one_at}
use Rattle.linear_model.proofs.Tables.{every-at, one_elsewhere}
use Rattle.linear_model.proofs.Sums.{sum_ext, sum-zero}
use Rattle.elimination_model.specs.Independence.{multiple, some_choice, tied, AddsToZero}
use Rattle.elimination_model.specs.Tie.{least_passing, leading_digit, entries_from, tie_bytes, entry_count, none, entry, digit_for, TieEntries}
use Rattle.elimination_model.proofs.Independence.{combined-one, tied_congr}
use Rattle.elimination_model.proofs.Elimination.{diagonal_untied}
use Rattle.elimination_model.proofs.TieBytes.{combination_tie}
use Rattle.matrix_model.specs.Block.{Layout}
use Rattle.matrix_model.specs.File.{Fits, file_size, file_from, row_plane_of, layout_of, matrix_b}
use Rattle.matrix_model.specs.Sample.{packed_rows}
use Rattle.matrix_model.specs.Ties.{tie_of, tie_size}
use Rattle.matrix_model.specs.TieEvidence.{with_row, Combination, times_row_three, sum_before, last_row_tied}
use Rattle.matrix_model.specs.TiedRowsEvidence.{with_two, entries_with, tie_number_of_rows, ListedRow, row_one_and_six, rows_zero_and160, two_ties, TiedRowsEvidence}
use Rattle.numbers.specs.Number.{first}
use Rattle.matrix_model.proofs.Layouts.{first_fits, second_fits, third_fits}
use Rattle.matrix_model.proofs.RoundTrip.{rows_of_file, length_file, no_bad_check, no_bad_layout}
use Rattle.matrix_model.proofs.PackedRows.{length_packed, packed_fit, packed_tied, packed_tie}
use Rattle.matrix_model.proofs.Sample.{one_at-small}
use Rattle.matrix_model.proofs.TieEvidence.{diagonal_combined, with_row-small, with_row-own, with_row-other, with_row-tied, row_three, all_before}

-- ---- rows of any digits

-- rows of the diagonal, then row r: digits that make them add to zero, not 0 at row r, are the list, each multiplied by the first other than 0
diagonal_list : (n t r : ℕ) (a : ℕ → ℕ → ℕ) (d : ℕ → ℕ) → r < t → r ≤ n → ((i j : ℕ) → i < r → a i j ≡ one_at i j)
    → AddsToZero n (suc r) a d → d r % 3 ≢ 0
    → tie_bytes n t a ≡ entries_from 0 (tabulate (suc r) (λ i. leading_digit (suc r) d * d i % 3))
diagonal_list n t r a d l m same adds h = sym (combination_tie n t r a d l free adds h)
  where
    free : tied n r a ≡ false
    free = tied_congr n r a one_at (λ i j u _. ap (λ (x : ℕ). x % 3) (same i j u)) ∙ diagonal_untied n r m

-- ---- a combination of the rows before row r

module _ (r : ℕ) (digits : ℕ → ℕ) where
  -- the digit of row r
  two-own : with_two r digits r ≡ 2
  two-own = ap (λ (b : Bool). cond b 2 (digits r)) (eq-eqb r r refl)

  -- and of the others
  two-other : (i : ℕ) → i ≢ r → with_two r digits i ≡ digits i
  two-other i h = ap (λ (b : Bool). cond b 2 (digits i)) (ne_eqb i r h)

  -- the rows before row r add to its digits, and twice row r gives twice these
  two_adds : (n : ℕ) → Combination r r digits → AddsToZero n (suc r) (with_row r digits) (with_two r digits)
  unfolding sum
  two_adds n c j _ =
      omega (
        arith,
        sum_ext r (multiple (with_row r digits) (with_two r digits) j) (multiple one_at digits j)
            (λ i l. ap₂ ◌*◌ (two-other i (omega arith)) (with_row-other r digits i j (omega arith)))
            ∙ diagonal_combined r digits c.within j,
        ap₂ ◌*◌ two-own (with_row-own r digits j),
      )

-- ---- files

module _ (layout : Layout) (fits : Fits layout) where
  -- ties decide the number of the file of rows of any digits
  number_by-ties : (f : ℕ → ℕ → ℕ) → ((i j : ℕ) → f i j < 3)
      → tie_number_of_rows layout f ≡ cond (not (tied (8 * row_plane_of layout) layout.row_count f)) 16 0
  unfolding first
  number_by-ties f small =
      let rows = packed_rows layout f in
      let long = length_packed layout f in
      rw (eq-eqb (length (file_from layout rows)) (file_size layout) (length_file layout fits rows long), le-ltb (tie_size layout) (tie_size layout) (le_refl (tie_size layout)), no_bad_check layout fits rows long, no_bad_layout layout fits rows long, rows_of_file layout fits rows long, packed_fit layout fits.two_planes f small, packed_tied layout fits.two_planes f small)

  module _ (columns : layout.row_count ≤ 8 * row_plane_of layout) where
    -- so that of the diagonal is 16
    fit_number : tie_number_of_rows layout one_at ≡ 16
    fit_number =
        number_by-ties one_at one_at-small
        ∙ ap (λ (b : Bool). cond (not b) 16 0) (diagonal_untied (8 * row_plane_of layout) layout.row_count columns)

    -- and with a combination of the rows before it in place of row r it is 0, and these digits are the list
    listed_row : ListedRow layout
    listed_row r digits l c = (
      number_by-ties (with_row r digits) small
          ∙ ap (λ (b : Bool). cond (not b) 16 0)
          (with_row-tied (8 * row_plane_of layout) layout.row_count r digits l
          (record { small = c.small; others = c.others; within = λ j u. c.within j (omega arith) })),
      packed_tie layout fits.two_planes (with_row r digits) small
          ∙ diagonal_list (8 * row_plane_of layout) layout.row_count r (with_row r digits) (with_two r digits) l (omega arith)
          (λ i j u. with_row-other r digits i j (omega arith)) (two_adds r digits (8 * row_plane_of layout) c) (λ z. omega (arith, two-own r digits)),
    )
      where
        small : (i j : ℕ) → with_row r digits i j < 3
        small = with_row-small r digits c.small

-- as in set 1
first_listed : ListedRow matrix_b
first_listed = listed_row matrix_b first_fits (lit≤ tt)

-- ---- its examples

-- row 1 plus twice row 6 is a combination of the rows before row 7
one-and_six : Combination 7 7 row_one_and_six
unfolding every
one-and_six = record { small = λ j. small j (dec_lt j 7); others = refl; within = after }
  where
    after : (j : ℕ) → 7 ≤ j → row_one_and_six j ≡ 0
    after j u = ap₂ (λ (x y : ℕ). x + 2 * y) (one_elsewhere 1 j (omega arith)) (one_elsewhere 6 j (omega arith))

    small : (j : ℕ) → Dec (j < 7) → row_one_and_six j < 3
    small j (yes l) = lit< (every-at 7 (λ i. ltb (row_one_and_six i) 3) tt j l)
    small j (no l) = omega (arith, after j (omega arith))

-- row 0 plus row 160 is one of the rows before row 161
zero-and_160 : Combination 161 161 rows_zero_and160
unfolding every
zero-and_160 = record { small = λ j. small j (dec_lt j 161); others = refl; within = after }
  where
    after : (j : ℕ) → 161 ≤ j → rows_zero_and160 j ≡ 0
    after j u = ap₂ ◌+◌ (one_elsewhere 0 j (omega arith)) (one_elsewhere 160 j (omega arith))

    small : (j : ℕ) → Dec (j < 161) → rows_zero_and160 j < 3
    small j (yes l) = lit< (every-at 161 (λ i. ltb (rows_zero_and160 i) 3) tt j l)
    small j (no l) = omega (arith, after j (omega arith))

-- row 0 is one of the rows before row 20
zero_before : Combination 20 20 (one_at 0)
zero_before = record { small = one_at-small 0; others = refl; within = λ j u. one_elsewhere 0 j (omega arith) }

-- a zero row is a combination, with the digits 0
zero_combination : Combination 4 4 (λ _. 0)
zero_combination = record { small = λ j. lit< tt; others = refl; within = λ j u. refl }

-- row 80 the sum of all before it
last_listed : tie_of matrix_b last_row_tied ≡ entries_with 80 sum_before
last_listed = (first_listed 80 sum_before (lit< tt) (all_before 80 (lit≤ tt))).1

-- rows 0 and 1 are the diagonal's and row 2 is zero, so row 2 alone is the tie
shorter_list : tie_of matrix_b (packed_rows matrix_b two_ties) ≡ 2 ∷ 1 ∷ []
unfolding entries_from tabulate least_passing
shorter_list =
    packed_tie matrix_b refl two_ties (λ i j. small i j (eqb i 2))
    ∙ diagonal_list 256 81 2 two_ties (one_at 2) (lit< tt) (lit≤ tt) same
    (λ j _. ap (λ (x : ℕ). x % 3) (combined-one 3 2 two_ties j (lit< tt))) (λ z. omega arith)
  where
    small : (i j : ℕ) (b : Bool) → cond b 0 (with_row 5 (one_at 3) i j) < 3
    small i j true = lit< tt
    small i j false = with_row-small 5 (one_at 3) (one_at-small 3) i j

    same : (i j : ℕ) → i < 2 → two_ties i j ≡ one_at i j
    same i j l =
        ap (λ (b : Bool). cond b 0 (with_row 5 (one_at 3) i j)) (ne_eqb i 2 (omega arith)) ∙ with_row-other 5 (one_at 3) i j (omega arith)

-- ---- with less asked

-- zero rows
abbrev zero_rows : ℕ → ℕ → ℕ
zero_rows i j = 0

-- add to zero with any digits
zero_rows_add : (n t : ℕ) (d : ℕ → ℕ) → AddsToZero n t zero_rows d
zero_rows_add n t d j l = ap (λ (x : ℕ). x % 3) (sum-zero t (multiple zero_rows d j) (λ i _. mul-zero (d i)))

-- so each of two such rows is a tie
zero_rows-entries : (i : ℕ) → i < 2 → TieEntries 1 2 zero_rows (i ∷ 1 ∷ [])
zero_rows-entries i l =
    record { rising = entry zero-le l (lit< tt) (lit< tt) none; first_one = refl; adds = zero_rows_add 1 2 (digit_for (i ∷ 1 ∷ [])) }

-- all of the evidence
pub tied_rows_evidence : TiedRowsEvidence
unfolding entries_from tabulate least_passing tied some_choice every
tied_rows_evidence =
    record {
      listed1 = first_listed;
      listed2 = listed_row (layout_of 2) second_fits (lit≤ tt);
      listed3 = listed_row (layout_of 3) third_fits (lit≤ tt);
      twice = (first_listed 5 (times_row_three 2) (lit< tt) (row_three 5 2 (lit< tt) (lit< tt))).1;
      once = (first_listed 5 (times_row_three 1) (lit< tt) (row_three 5 1 (lit< tt) (lit< tt))).1;
      three = (first_listed 7 row_one_and_six (lit< tt) one-and_six).1;
      zero_row = (first_listed 4 (λ _. 0) (lit< tt) zero_combination).1;
      second = (listed_row (layout_of 2) second_fits (lit≤ tt) 20 (one_at 0) (lit< tt) zero_before).1;
      third = (listed_row (layout_of 3) third_fits (lit≤ tt) 161 rows_zero_and160 (lit< tt) zero-and_160).1;
      fit1 = fit_number (layout_of 1) first_fits (lit≤ tt);
      fit2 = fit_number (layout_of 2) second_fits (lit≤ tt);
      fit3 = fit_number (layout_of 3) third_fits (lit≤ tt);
      count = ap entry_count last_listed;
      end = ap (drop 158) last_listed;
      shorter = shorter_list;
      any_first = λ h.
          let e =
          h 1 1 zero_rows (0 ∷ 1 ∷ []) (0 ∷ 2 ∷ [])
          (entry (lit≤ tt) (lit< tt) (lit< tt) (lit< tt) none) (entry (lit≤ tt) (lit< tt) (lit< tt) (lit< tt) none)
          (zero_rows_add 1 1 (digit_for (0 ∷ 1 ∷ []))) (zero_rows_add 1 1 (digit_for (0 ∷ 2 ∷ []))) (lit< tt) (lit< tt) in
          omega (arith, ap (λ (list : List ℕ). get_or list 1 0) e);
      any_rows = λ h.
          omega (arith, ap (λ (list : List ℕ). get_or list 0 0) (h 1 2 zero_rows (0 ∷ 1 ∷ []) (1 ∷ 1 ∷ []) (zero_rows-entries 0 (lit< tt)) (zero_rows-entries 1 (lit< tt))));
    }
