-- What shows that the list of tied rows is the one that W-205 asks for: examples, and what it would be with less asked.
use Rattle.std.specs.Prelude.{ℕ, suc, ◌+◌, ◌*◌, ◌%◌, ◌<◌, ◌≡◌, List, [], ◌∷◌, cond, eqb, drop}
use Rattle.linear_model.specs.Tables.{tabulate, one_at}
use Rattle.elimination_model.specs.Independence.{AddsToZero}
use Rattle.elimination_model.specs.Tie.{shortest, leading_digit, entries_from, entry_count, RisingRows, digit_for, TieEntries}
use Rattle.matrix_model.specs.Block.{Layout}
use Rattle.matrix_model.specs.File.{file_from, layout_of, matrix_b}
use Rattle.matrix_model.specs.Sample.{packed_rows}
use Rattle.matrix_model.specs.Ties.{tie_of, tie_size, tie_number_of}
use Rattle.matrix_model.specs.TieEvidence.{with_row, Combination, row_five_tied, last_row_tied}

-- digits of the rows before row r, and 2 for row r: where row r is the sum of those so multiplied, all these add to zero
abbrev pub with_two : ℕ → (ℕ → ℕ) → ℕ → ℕ
with_two r digits i = cond (eqb i r) 2 (digits i)

-- the entries of these digits, each digit multiplied by the first other than 0
abbrev pub entries_with : ℕ → (ℕ → ℕ) → List ℕ
entries_with r digits = entries_from 0 (tabulate (suc r) (λ i. leading_digit (suc r) (with_two r digits) * with_two r digits i % 3))

-- the number of the file of these rows, with an output slice that is just long enough
abbrev pub tie_number_of_rows : Layout → (ℕ → ℕ → ℕ) → ℕ
tie_number_of_rows layout f = tie_number_of layout (file_from layout (packed_rows layout f)) (tie_size layout)

-- with a combination of the rows before it in place of row r of the diagonal, the file gets 0, and these are the list
abbrev pub ListedRow : Layout → Type 0
ListedRow layout =
    (r : ℕ) (digits : ℕ → ℕ) → r < layout.row_count → Combination r r digits
    → (tie_number_of_rows layout (with_row r digits) ≡ 0) × (tie_of layout (packed_rows layout (with_row r digits)) ≡ entries_with r digits)

-- row 1 plus twice row 6 of the diagonal
abbrev pub row_one_and_six : ℕ → ℕ
row_one_and_six j = one_at 1 j + 2 * one_at 6 j

-- row 0 plus row 160 of the diagonal
abbrev pub rows_zero_and160 : ℕ → ℕ
rows_zero_and160 j = one_at 0 j + one_at 160 j

-- the diagonal with a zero row 2, and row 5 equal to row 3
abbrev pub two_ties : ℕ → ℕ → ℕ
two_ties i j = cond (eqb i 2) 0 (with_row 5 (one_at 3) i j)

pub record TiedRowsEvidence : Type 0 where
  -- any combination of rows before row r in place of row r of the diagonal, in each set
  pub listed1 : ListedRow (layout_of 1)
  pub listed2 : ListedRow (layout_of 2)
  pub listed3 : ListedRow (layout_of 3)
  -- so row 5 twice row 3, and equal to row 3; row 7 row 1 plus twice row 6; a zero row 4
  pub twice : tie_of matrix_b (row_five_tied 2) ≡ 3 ∷ 1 ∷ 5 ∷ 1 ∷ []
  pub once : tie_of matrix_b (row_five_tied 1) ≡ 3 ∷ 1 ∷ 5 ∷ 2 ∷ []
  pub three : tie_of matrix_b (packed_rows matrix_b (with_row 7 row_one_and_six)) ≡ 1 ∷ 1 ∷ 6 ∷ 2 ∷ 7 ∷ 2 ∷ []
  pub zero_row : tie_of matrix_b (packed_rows matrix_b (with_row 4 (λ _. 0))) ≡ 4 ∷ 1 ∷ []
  -- in set 2 row 20 equal to row 0, in set 3 row 161 row 0 plus row 160
  pub second : tie_of (layout_of 2) (packed_rows (layout_of 2) (with_row 20 (one_at 0))) ≡ 0 ∷ 1 ∷ 20 ∷ 2 ∷ []
  pub third : tie_of (layout_of 3) (packed_rows (layout_of 3) (with_row 161 rows_zero_and160)) ≡ 0 ∷ 1 ∷ 160 ∷ 1 ∷ 161 ∷ 2 ∷ []
  -- the diagonal itself is fit, and its file gets 16
  pub fit1 : tie_number_of_rows (layout_of 1) one_at ≡ 16
  pub fit2 : tie_number_of_rows (layout_of 2) one_at ≡ 16
  pub fit3 : tie_number_of_rows (layout_of 3) one_at ≡ 16
  -- row 80 the sum of all before it
  pub count : entry_count (tie_of matrix_b last_row_tied) ≡ 81
  pub end : drop 158 (tie_of matrix_b last_row_tied) ≡ 79 ∷ 1 ∷ 80 ∷ 2 ∷ []
  -- of two ties that of the shortest beginning
  pub shorter : tie_of matrix_b (packed_rows matrix_b two_ties) ≡ 2 ∷ 1 ∷ []
  -- with any first digit there would be two lists, and so there would be with rows past the shortest beginning
  pub any_first : ¬ ((n t : ℕ) (a : ℕ → ℕ → ℕ) (list other : List ℕ) → RisingRows (shortest n t a) 0 list → RisingRows (shortest n t a) 0 other
      → AddsToZero n (shortest n t a) a (digit_for list) → AddsToZero n (shortest n t a) a (digit_for other)
      → 0 < entry_count list → 0 < entry_count other → list ≡ other)
  pub any_rows : ¬ ((n t : ℕ) (a : ℕ → ℕ → ℕ) (list other : List ℕ) → TieEntries n t a list → TieEntries n t a other → list ≡ other)
