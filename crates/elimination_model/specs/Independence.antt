-- Rows of digits modulo 3 that are tied: a choice of digits, not all 0, makes the rows so multiplied add to the zero row.
use Rattle.std.specs.Prelude.{ℕ, zero, suc, ◌*◌, ◌%◌, ◌<◌, ◌≡◌, ◌≢◌, List, [], ◌∷◌, Bool, not, ◌&&◌, ◌||◌, eqb, length, get_or}
use Rattle.linear_model.specs.Tables.{sum, every}
use Rattle.linear_model.specs.Trits.{trit}
use Rattle.linear_model.specs.Products.{rows_from}

-- ---- choices

-- whether some list of t digits, each 0, 1 or 2, passes a test; a definition to reason with, not to compute
unfoldable pub some_choice : ℕ → (List ℕ → Bool) → Bool
some_choice zero test = test []
some_choice (suc t) test = some_choice t (λ d. test (0 ∷ d)) || (some_choice t (λ d. test (1 ∷ d)) || some_choice t (λ d. test (2 ∷ d)))

-- digit i of a choice
abbrev pub digit_of : List ℕ → ℕ → ℕ
digit_of choice i = get_or choice i 0

-- digit i is 0
abbrev pub zero_at : (ℕ → ℕ) → ℕ → Bool
zero_at d i = eqb (d i) 0

-- the first t digits are not all 0
abbrev pub not_all_zero : ℕ → (ℕ → ℕ) → Bool
not_all_zero t d = not (every t (zero_at d))

-- ---- rows: a i j is the digit of row i in column j

-- row i multiplied by digit i, in column j
abbrev pub multiple : (ℕ → ℕ → ℕ) → (ℕ → ℕ) → ℕ → ℕ → ℕ
multiple a d j i = d i * a i j

-- column j of the sum modulo 3 of the first t rows so multiplied
abbrev pub combined : ℕ → (ℕ → ℕ → ℕ) → (ℕ → ℕ) → ℕ → ℕ
combined t a d j = sum t (multiple a d j) % 3

-- the first t rows so multiplied add to the zero row of n columns
abbrev pub zero_sum : ℕ → ℕ → (ℕ → ℕ → ℕ) → (ℕ → ℕ) → Bool
zero_sum n t a d = every n (zero_at (combined t a d))

-- the choice ties the first t rows
abbrev pub ties : ℕ → ℕ → (ℕ → ℕ → ℕ) → List ℕ → Bool
ties n t a choice = not_all_zero t (digit_of choice) && zero_sum n t a (digit_of choice)

-- the first t rows, of n columns, are tied
unfoldable pub tied : ℕ → ℕ → (ℕ → ℕ → ℕ) → Bool
tied n t a = some_choice t (ties n t a)

-- the first t rows so multiplied add to the zero row, as a fact
abbrev pub AddsToZero : ℕ → ℕ → (ℕ → ℕ → ℕ) → (ℕ → ℕ) → Type 0
AddsToZero n t a d = (j : ℕ) → j < n → combined t a d j ≡ 0

-- digits that tie the first t rows, as a fact: each is 0, 1 or 2, one of them is not 0, and the rows so multiplied add to zero
pub record TiedBy (n t : ℕ) (a : ℕ → ℕ → ℕ) (digits : ℕ → ℕ) : Type 0 where
  pub small : (i : ℕ) → digits i < 3
  pub place : ℕ
  pub within : place < t
  pub nonzero : digits place ≢ 0
  pub adds : AddsToZero n t a digits

-- such digits
abbrev pub Tie : ℕ → ℕ → (ℕ → ℕ → ℕ) → Type 0
Tie n t a = (digits : ℕ → ℕ) × TiedBy n t a digits

-- and such a list of t digits
abbrev pub TieList : ℕ → ℕ → (ℕ → ℕ → ℕ) → Type 0
TieList n t a = (choice : List ℕ) × (length choice ≡ t) × TiedBy n t a (digit_of choice)

-- the first t rows are independent: whatever numbers make them add to zero, all are 0 modulo 3
abbrev pub Independent : ℕ → ℕ → (ℕ → ℕ → ℕ) → Type 0
Independent n t a = (d : ℕ → ℕ) → AddsToZero n t a d → (i : ℕ) → i < t → d i % 3 ≡ 0

-- ---- packed rows: two planes of m bytes each, a row after the other

-- the digit of row i in column j
abbrev pub trit_at : ℕ → List ℕ → ℕ → ℕ → ℕ
trit_at m rows i j = trit m (rows_from m rows i) j

-- the first t of these rows are tied
abbrev pub tied_rows : ℕ → ℕ → List ℕ → Bool
tied_rows m t rows = tied (8 * m) t (trit_at m rows)
