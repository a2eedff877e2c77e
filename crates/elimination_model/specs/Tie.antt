-- The tie of the shortest tied beginning of some rows, as a choice of digits and as the list of W-205, and what is asked of such a list.
use Rattle.std.specs.Prelude.{ℕ, zero, suc, ◌-◌, ◌*◌, ◌/◌, ◌%◌, ◌<◌, ◌≤◌, ◌≡◌, ◌≢◌, List, [], ◌∷◌, Bool, false, cond, not, ◌&&◌, eqb, ltb, length, get_or}
use Rattle.elimination_model.specs.Independence.{some_choice, digit_of, zero_sum, tied, AddsToZero}

-- ---- the choice of digits

-- the least i below n that passes a test; n if none does
unfoldable pub least_passing : ℕ → (ℕ → Bool) → ℕ
least_passing zero test = 0
least_passing (suc n) test = cond (test 0) 0 (suc (least_passing n (λ i. test (suc i))))

-- the first list of t digits that passes a test, in the order in which `some_choice` tries them; an empty one if none does
unfoldable pub first_choice : ℕ → (List ℕ → Bool) → List ℕ
first_choice zero test = []
first_choice (suc t) test =
    cond (some_choice t (λ d. test (0 ∷ d))) (0 ∷ first_choice t (λ d. test (0 ∷ d)))
    (cond (some_choice t (λ d. test (1 ∷ d))) (1 ∷ first_choice t (λ d. test (1 ∷ d)))
    (cond (some_choice t (λ d. test (2 ∷ d))) (2 ∷ first_choice t (λ d. test (2 ∷ d))) []))

-- the least k for which the first k rows are tied; t where no fewer are
abbrev pub shortest : ℕ → ℕ → (ℕ → ℕ → ℕ) → ℕ
shortest n t a = least_passing t (λ k. tied n k a)

-- digit i is not 0 modulo 3 (`zero_at` is of the number itself)
abbrev pub nonzero_at : (ℕ → ℕ) → ℕ → Bool
nonzero_at d i = not (eqb (d i % 3) 0)

-- the first of k digits that is not 0 modulo 3; digit k if there is none
abbrev pub leading_digit : ℕ → (ℕ → ℕ) → ℕ
leading_digit k d = d (least_passing k (nonzero_at d))

-- the first digit other than 0 of a choice is 1, and the first k rows so multiplied add to the zero row
abbrev pub ties_from_one : ℕ → ℕ → (ℕ → ℕ → ℕ) → List ℕ → Bool
ties_from_one n k a choice = eqb (leading_digit k (digit_of choice)) 1 && zero_sum n k a (digit_of choice)

-- the choice of digits that ties the shortest tied beginning of t rows; empty where they are not tied
unfoldable pub tie_digits : ℕ → ℕ → (ℕ → ℕ → ℕ) → List ℕ
tie_digits n t a = first_choice (shortest n t a) (ties_from_one n (shortest n t a) a)

-- ---- the list

-- for each digit that is not 0, of rows i, i + 1 and so on, an entry: row number, then digit
unfoldable pub entries_from : ℕ → List ℕ → List ℕ
entries_from i [] = []
entries_from i (zero ∷ d) = entries_from (suc i) d
entries_from i (suc x ∷ d) = i ∷ suc x ∷ entries_from (suc i) d

-- the tie as a list of bytes
unfoldable pub tie_bytes : ℕ → ℕ → (ℕ → ℕ → ℕ) → List ℕ
tie_bytes n t a = entries_from 0 (tie_digits n t a)

-- how many entries a list has
abbrev pub entry_count : List ℕ → ℕ
entry_count list = length list / 2

-- ---- what is asked of a list

-- a list of entries, the row numbers rising, from f on and below k, the digits 1 or 2
pub data RisingRows (k : ℕ) : ℕ → List ℕ → Type 0 where
  none : {f : ℕ} → RisingRows k f []
  entry : {f i x : ℕ} {list : List ℕ} → f ≤ i → i < k → 0 < x → x < 3 → RisingRows k (suc i) list → RisingRows k f (i ∷ x ∷ list)

-- the digit that a list gives row i; 0 where it does not name it
unfoldable pub digit_for : List ℕ → ℕ → ℕ
digit_for [] i = 0
digit_for (row ∷ []) i = 0
digit_for (row ∷ x ∷ list) i = cond (eqb row i) x (digit_for list i)

-- a list names rows below k, rising, and digits 1 or 2, the first being 1, and the rows so multiplied add to the zero row
pub record TieEntries (n k : ℕ) (a : ℕ → ℕ → ℕ) (list : List ℕ) : Type 0 where
  pub rising : RisingRows k 0 list
  pub first_one : get_or list 1 0 ≡ 1
  pub adds : AddsToZero n k a (digit_for list)

-- the rows that a list names, but for that of entry e
abbrev pub other_rows : (ℕ → ℕ → ℕ) → List ℕ → ℕ → ℕ → ℕ → ℕ
other_rows a list e i = a (get_or list (2 * cond (ltb i e) i (suc i)) 0)

-- a list of rows of the shortest tied beginning that add to zero; without any one of these rows the others are not tied
pub record TieOf (n t : ℕ) (a : ℕ → ℕ → ℕ) (list : List ℕ) : Type 0 where
  pub entries : TieEntries n (shortest n t a) a list
  pub needed : (e : ℕ) → e < entry_count list → tied n (entry_count list - 1) (other_rows a list e) ≡ false

-- it is such a list, and no other list adds so to zero: there is just one, and the last row of the beginning is in it
pub record OnlyTie (n t : ℕ) (a : ℕ → ℕ → ℕ) (list : List ℕ) : Type 0 where
  pub is : TieOf n t a list
  pub last : digit_for list (shortest n t a - 1) ≢ 0
  pub only : (other : List ℕ) → TieEntries n (shortest n t a) a other → other ≡ list
