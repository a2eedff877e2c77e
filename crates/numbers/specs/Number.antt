-- The number that a call returns: the first of the table whose condition holds.
use Rattle.std.specs.Prelude.{ℕ, List, [], ◌∷◌, ◌++◌, Bool, cond, eqb, ltb, length, drop}

infix 68 ◌when◌
-- a number of the table and whether its condition holds
pub data Condition : Type 0 where
  ◌when◌ : ℕ → Bool → Condition

-- the first number whose condition holds; 0 where none does
unfoldable pub first : List Condition → ℕ
first [] = 0
first ((number when holds) ∷ rest) = cond holds number (first rest)

-- conditions on what is read only then
unfoldable pub only_if : Bool → List Condition → List Condition
only_if read conditions = cond read conditions []

-- a condition put before the first of a higher number or of its own
unfoldable pub insert : Condition → List Condition → List Condition
insert c [] = c ∷ []
insert (number when holds) ((other when present) ∷ rest) =
    cond (ltb other number) ((other when present) ∷ insert (number when holds) rest) ((number when holds) ∷ (other when present) ∷ rest)

-- two lists of conditions whose numbers rise as one, in the table's order
unfoldable pub merge : List Condition → List Condition → List Condition
merge [] conditions = conditions
merge (c ∷ rest) conditions = insert c (merge rest conditions)

-- a slice with these bytes written to its front: those past them stay
abbrev pub at_front : List ℕ → List ℕ → List ℕ
at_front bytes old = bytes ++ drop (length bytes) old

-- an output slice afterwards: a refusal leaves all
unfoldable pub output : ℕ → List ℕ → List ℕ → List ℕ
output number bytes old = cond (eqb number 0) (at_front bytes old) old

-- a count that is reported: a refusal's is 0
unfoldable pub reported : ℕ → ℕ → ℕ
reported number count = cond (eqb number 0) count 0
