-- What shows that 12 says what it must: a combination of other rows in place of a row, and all of the evidence.
use Prim.Native.Nat.{ℕ, zero, suc, ◌+◌, ◌-◌, ◌*◌, ◌%◌, ◌<◌, ◌≤◌}
use mathlib.Core.Path.{◌≡◌, refl, sym, ap, ap₂, ◌∙◌}
use mathlib.Core.List.{List}
use mathlib.Core.Bool.{Bool, true, false, cond, true≢false}
use mathlib.Core.Logic.{◌≢◌}
use native.Mathlib.Nat.{le_refl, zero-mul, mul-zero, mul-one, zero-add}
use native.Mathlib.Decide.{ℕ_discrete, dec_lt}
use native.Mathlib.Omega.{arith}
use borrow.Author.Tests.{eq-eqb, ne_eqb, le-ltb}
use lib.Dec.{T, not_T, eqb, eqb→eq, ltb, lit<, lit≤}
use Rattle.linear_model.specs.Tables.{sum, every, one_at}
use Rattle.linear_model.specs.Trits.{trit, zero_trit, zero_trits}
use Rattle.linear_model.specs.Products.{rows_from}
use Rattle.linear_model.proofs.Tables.{every-at, one_there, one_elsewhere}
use Rattle.linear_model.proofs.Sums.{sum_ext, sum-zero, sum_one}
use Rattle.elimination_model.specs.Independence.{multiple, combined, AddsToZero, tied, trit_at}
use Rattle.elimination_model.proofs.Multiples.{combined_plus, combined-times}
use Rattle.elimination_model.proofs.Independence.{combined-one, tie_of_lem, tie_tied, zero_row_tie, untied_independent, tied_more, tied_narrower}
use Rattle.elimination_model.proofs.Elimination.{diagonal_untied}
use Rattle.elimination_model.proofs.Packed.{tied_choice, choice_tied, zero_row_tied}
use Rattle.numbers.proofs.Numbers.{is_false}
use Rattle.matrix_model.specs.Block.{Layout}
use Rattle.matrix_model.specs.File.{row_plane_of, layout_of, matrix_b}
use Rattle.matrix_model.specs.TieEvidence.{with_row, Combination, TiedRow, times_row_three, row_five_tied, sum_before, TieEvidence}
use Rattle.matrix_model.proofs.Layouts.{first_fits, second_fits, third_fits}
use Rattle.matrix_model.proofs.PackedRows.{packed_trit, packed_refused}
use Rattle.matrix_model.proofs.Sample.{one-small, one_at-small, diagonal_survives}

-- ---- rows of any digits

-- row r is a combination of the others: it and twice the others so multiplied add to zero
combination_tied : (n t r : ℕ) (a : ℕ → ℕ → ℕ) (d : ℕ → ℕ) → r < t → d r ≡ 0 → ((k : ℕ) → k < n → a r k % 3 ≡ combined t a d k) → tied n t a ≡ true
combination_tied n t r a d l z e = tie_tied n t a (tie_of_lem n t a digits adds r l nonzero)
  where
    digits : ℕ → ℕ
    digits i = one_at r i + 2 * d i

    total : (k : ℕ) → sum t (multiple a digits k) ≡ a r k + 2 * sum t (multiple a d k)
    total k =
        combined_plus t (one_at r) (λ i. 2 * d i) a k
        ∙ ap₂ ◌+◌ (combined-one t r a k l) (combined-times t 2 d a k)

    adds : AddsToZero n t a digits
    adds k m = ap (λ (x : ℕ). x % 3) (total k) ∙ omega (arith, e k m)

    nonzero : digits r % 3 ≢ 0
    nonzero q = let s : digits r ≡ 1 = ap₂ (λ (x y : ℕ). x + 2 * y) (one_there r) z in omega arith

-- in column k the rows of the diagonal, so multiplied, add to digit k
pub diagonal_combined : (t : ℕ) (d : ℕ → ℕ) → ((j : ℕ) → t ≤ j → d j ≡ 0) → (k : ℕ) → sum t (multiple one_at d k) ≡ d k
diagonal_combined t d w k = go (dec_lt k t)
  where
    off : (i : ℕ) → i ≢ k → d i * one_at i k ≡ 0
    off i h = ap (λ (x : ℕ). d i * x) (one_elsewhere i k (λ e. h (sym e))) ∙ mul-zero (d i)

    go : Dec (k < t) → sum t (multiple one_at d k) ≡ d k
    go (yes l) = sum_one t (multiple one_at d k) k l (λ i _ h. off i h) ∙ ap (λ (x : ℕ). d k * x) (one_there k) ∙ mul-one (d k)
    go (no l) = sum-zero t (multiple one_at d k) (λ i m. off i (omega arith)) ∙ sym (w k (omega arith))

-- two rows of the diagonal are tied in one column
one_column : tied 1 2 one_at ≡ true
one_column = tie_tied 1 2 one_at (zero_row_tie 1 2 one_at 1 (lit< tt) at)
  where
    at : (j : ℕ) → j < 1 → one_at 1 j % 3 ≡ 0
    at zero l = refl
    at (suc j) l = absurd (omega arith)

-- ---- packed rows

-- the diagonal with another row r has small digits, if this row has
pub with_row-small : (r : ℕ) (row : ℕ → ℕ) → ((j : ℕ) → row j < 3) → (i j : ℕ) → with_row r row i j < 3
with_row-small r row h i j = go (eqb i r)
  where
    go : (b : Bool) → cond b (row j) (one_at i j) < 3
    go true = h j
    go false = one_at-small i j

-- row r is this row
pub with_row-own : (r : ℕ) (row : ℕ → ℕ) (j : ℕ) → with_row r row r j ≡ row j
with_row-own r row j = ap (λ (b : Bool). cond b (row j) (one_at r j)) (eq-eqb r r refl)

-- the others are the diagonal's
pub with_row-other : (r : ℕ) (row : ℕ → ℕ) (i j : ℕ) → i ≢ r → with_row r row i j ≡ one_at i j
with_row-other r row i j h = ap (λ (b : Bool). cond b (row j) (one_at i j)) (ne_eqb i r h)

-- the diagonal with a combination of the other rows in place of row r is tied
pub with_row-tied : (n t r : ℕ) (d : ℕ → ℕ) → r < t → Combination t r d → tied n t (with_row r d) ≡ true
with_row-tied n t r d l c = combination_tied n t r (with_row r d) d l c.others (λ k _. ap (λ (x : ℕ). x % 3) (with_row-own r d k ∙ sym (total k)))
  where
    -- row r counts for nothing, since its digit is 0
    same : (k i : ℕ) → multiple (with_row r d) d k i ≡ multiple one_at d k i
    same k i = go (ℕ_discrete i r)
      where
        none : (x : ℕ) → d i ≡ 0 → d i * x ≡ 0
        none x z = ap (λ (y : ℕ). y * x) z ∙ zero-mul x

        go : Dec (i ≡ r) → d i * with_row r d i k ≡ d i * one_at i k
        go (yes e) = none (with_row r d i k) (ap d e ∙ c.others) ∙ sym (none (one_at i k) (ap d e ∙ c.others))
        go (no h) = ap (λ (x : ℕ). d i * x) (with_row-other r d i k h)

    total : (k : ℕ) → sum t (multiple (with_row r d) d k) ≡ d k
    total k = sum_ext t (multiple (with_row r d) d k) (multiple one_at d k) (λ i _. same k i) ∙ diagonal_combined t d c.within k

-- so the number is 12
tied_row : (layout : Layout) → layout.row_bytes % 2 ≡ 0 → TiedRow layout
tied_row layout e r d l c =
    packed_refused layout e (with_row r d) (with_row-small r d c.small) (with_row-tied (8 * row_plane_of layout) layout.row_count r d l c)

-- a multiple of row 3 is a combination of the rows but row 5
pub row_three : (t c : ℕ) → 3 < t → c < 3 → Combination t 5 (times_row_three c)
row_three t c h l = record { small = λ j. small (eqb 3 j); others = mul-zero c; within = λ j u. ap (λ (x : ℕ). c * x) (one_elsewhere 3 j (omega arith)) ∙ mul-zero c }
  where
    small : (b : Bool) → c * cond b 1 0 < 3
    small true = omega arith
    small false = omega arith

-- the sum of rows 0 to 79 is one of the rows but row 80
pub all_before : (t : ℕ) → 80 ≤ t → Combination t 80 sum_before
all_before t h = record { small = λ j. one-small (ltb j 80); others = refl; within = λ j u. ap (λ (b : Bool). cond b 1 0) (le-ltb j 80 (omega arith)) }

-- a row with a trit other than 0 is no zero row
not-zero : (m : ℕ) (v : List ℕ) (j : ℕ) → j < 8 * m → trit m v j ≢ 0 → zero_trits m 0 v ≡ false
unfolding zero_trits
not-zero m v j l h = is_false (every (8 * m - 0) (zero_trit m 0 v)) (not_T (every (8 * m - 0) (zero_trit m 0 v)) (λ t. h (at t)))
  where
    at : T (every (8 * m - 0) (zero_trit m 0 v)) → trit m v j ≡ 0
    at t = ap (trit m v) (sym (zero-add j)) ∙ eqb→eq (trit m v (0 + j)) 0 (every-at (8 * m - 0) (zero_trit m 0 v) t j (omega arith))

-- rows 0 to 80 with row 5 twice row 3 have such a trit: row 5 in column 3, row i in column i
no_zero_row_lem : (i : ℕ) → i < 81 → zero_trits 32 0 (rows_from 32 (row_five_tied 2) i) ≡ false
no_zero_row_lem i l = go (ℕ_discrete i 5)
  where
    f : ℕ → ℕ → ℕ
    f = with_row 5 (times_row_three 2)

    trits : (j : ℕ) → j < 256 → trit 32 (rows_from 32 (row_five_tied 2) i) j ≡ f i j
    trits = packed_trit matrix_b refl f (with_row-small 5 (times_row_three 2) (row_three 81 2 (lit< tt) (lit< tt)).small) i l

    go : Dec (i ≡ 5) → zero_trits 32 0 (rows_from 32 (row_five_tied 2) i) ≡ false
    go (yes e) = not-zero 32 (rows_from 32 (row_five_tied 2) i) 3 (lit< tt) (λ z. omega (arith, sym (trits 3 (lit< tt) ∙ ap (λ (r : ℕ). f r 3) e) ∙ z))
    go (no n) =
        not-zero 32 (rows_from 32 (row_five_tied 2) i) i (omega arith)
        (λ z. omega (arith, sym (trits i (omega arith) ∙ with_row-other 5 (times_row_three 2) i i n ∙ one_there i) ∙ z))

pub tie_evidence : TieEvidence
tie_evidence =
    record {
      choice = tied_choice;
      found = choice_tied;
      independent = λ m t rows. untied_independent (8 * m) t (trit_at m rows);
      zero_row = zero_row_tied;
      set1 = diagonal_survives (layout_of 1) first_fits (lit≤ tt);
      set2 = diagonal_survives (layout_of 2) second_fits (lit≤ tt);
      set3 = diagonal_survives (layout_of 3) third_fits (lit≤ tt);
      tied1 = tied_row (layout_of 1) refl;
      tied2 = tied_row (layout_of 2) refl;
      tied3 = tied_row (layout_of 3) refl;
      once = tied_row matrix_b refl 5 (times_row_three 1) (lit< tt) (row_three 81 1 (lit< tt) (lit< tt));
      twice = tied_row matrix_b refl 5 (times_row_three 2) (lit< tt) (row_three 81 2 (lit< tt) (lit< tt));
      sum_of_all = tied_row matrix_b refl 80 sum_before (lit< tt) (all_before 81 (lit≤ tt));
      no_zero_row = no_zero_row_lem;
      more_rows = tied_more;
      first_columns = tied_narrower;
      some_columns = λ h. true≢false (sym one_column ∙ h 1 2 2 one_at ∙ diagonal_untied 2 2 (le_refl 2));
      some_rows = λ h. true≢false (sym one_column ∙ h 1 2 1 one_at ∙ diagonal_untied 1 1 (le_refl 1));
    }
