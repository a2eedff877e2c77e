-- What shows that number 12 says what W-204 says: that it is neither empty nor too weak.
use Rattle.std.specs.Prelude.{ℕ, ◌*◌, ◌<◌, ◌≤◌, ◌≡◌, List, true, false, cond, eqb}
use Rattle.linear_model.specs.Tables.{below, one_at}
use Rattle.linear_model.specs.Trits.{zero_trits}
use Rattle.linear_model.specs.Products.{rows_from}
use Rattle.numbers.specs.Number.{first}
use Rattle.elimination_model.specs.Independence.{tied, TieList, Independent, trit_at, tied_rows}
use Rattle.matrix_model.specs.Block.{Layout}
use Rattle.matrix_model.specs.File.{row_faults_of, file_from, SurvivesOf, layout_of, matrix_b}
use Rattle.matrix_model.specs.Sample.{packed_rows, diagonal_rows}

-- the diagonal with another row r
abbrev pub with_row : ℕ → (ℕ → ℕ) → ℕ → ℕ → ℕ
with_row r row i j = cond (eqb i r) (row j) (one_at i j)

-- digits of the t rows but row r; of the diagonal's rows, the row of these digits is the sum of the rows so multiplied
pub record Combination (t r : ℕ) (digits : ℕ → ℕ) : Type 0 where
  pub small : (j : ℕ) → digits j < 3
  pub others : digits r ≡ 0
  pub within : (j : ℕ) → t ≤ j → digits j ≡ 0

-- with such a row in place of row r the number is 12
abbrev pub TiedRow : Layout → Type 0
TiedRow layout =
    (r : ℕ) (digits : ℕ → ℕ) → r < layout.row_count → Combination layout.row_count r digits
    → first (row_faults_of layout (packed_rows layout (with_row r digits))) ≡ 12

-- c times row 3 of the diagonal
abbrev pub times_row_three : ℕ → ℕ → ℕ
times_row_three c j = c * one_at 3 j

-- the diagonal of set 1, but with c times row 3 for row 5
abbrev pub row_five_tied : ℕ → List ℕ
row_five_tied c = packed_rows matrix_b (with_row 5 (times_row_three c))

-- the sum of rows 0 to 79 of the diagonal
abbrev pub sum_before : ℕ → ℕ
sum_before = below 80 (λ _. 1)

-- the diagonal of set 1, but with that sum for row 80, the last
abbrev pub last_row_tied : List ℕ
last_row_tied = packed_rows matrix_b (with_row 80 sum_before)

-- the diagonal of a set survives its file
abbrev pub DiagonalSurvives : Layout → Type 0
DiagonalSurvives layout = SurvivesOf layout (diagonal_rows layout) (file_from layout (diagonal_rows layout))

pub record TieEvidence : Type 0 where
  -- rows are tied exactly if a choice of digits, not all 0, makes the rows so multiplied add to the zero row; else they are independent
  pub choice : (m t : ℕ) (rows : List ℕ) → tied_rows m t rows ≡ true → TieList (8 * m) t (trit_at m rows)
  pub found : (m t : ℕ) (rows : List ℕ) → TieList (8 * m) t (trit_at m rows) → tied_rows m t rows ≡ true
  pub independent : (m t : ℕ) (rows : List ℕ) → tied_rows m t rows ≡ false → Independent (8 * m) t (trit_at m rows)
  -- a zero row is a case of it
  pub zero_row : (m t : ℕ) (rows : List ℕ) (i : ℕ) → i < t → zero_trits m 0 (rows_from m rows i) ≡ true → tied_rows m t rows ≡ true
  -- each set has a matrix that is fit
  pub set1 : DiagonalSurvives (layout_of 1)
  pub set2 : DiagonalSurvives (layout_of 2)
  pub set3 : DiagonalSurvives (layout_of 3)
  -- any combination of the other rows in place of a row of the diagonal is refused, in each set
  pub tied1 : TiedRow (layout_of 1)
  pub tied2 : TiedRow (layout_of 2)
  pub tied3 : TiedRow (layout_of 3)
  -- so are row 5 equal to row 3, or twice row 3, and a last row that is the sum of all others
  pub once : first (row_faults_of matrix_b (row_five_tied 1)) ≡ 12
  pub twice : first (row_faults_of matrix_b (row_five_tied 2)) ≡ 12
  pub sum_of_all : first (row_faults_of matrix_b last_row_tied) ≡ 12
  -- a test of zero rows finds none there
  pub no_zero_row : (i : ℕ) → i < 81 → zero_trits 32 0 (rows_from 32 (row_five_tied 2) i) ≡ false
  -- tied rows stay so with more rows, and in the first columns alone
  pub more_rows : (n t u : ℕ) (a : ℕ → ℕ → ℕ) → t ≤ u → tied n t a ≡ true → tied n u a ≡ true
  pub first_columns : (n m t : ℕ) (a : ℕ → ℕ → ℕ) → n ≤ m → tied m t a ≡ true → tied n t a ≡ true
  -- but some columns or some rows do not decide for all: two rows are tied in one column and not in two, and the first alone is not tied
  pub some_columns : ¬ ((n m t : ℕ) (a : ℕ → ℕ → ℕ) → tied n t a ≡ tied m t a)
  pub some_rows : ¬ ((n t u : ℕ) (a : ℕ → ℕ → ℕ) → tied n t a ≡ tied n u a)
