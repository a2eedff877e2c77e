-- The lowest number whose condition holds, and the lists of conditions of which `first` is that number.
use Rattle.std.specs.Prelude.{ℕ, ◌≤◌, ◌≡◌, ◌≢◌, ◌⊎◌, List, [], ◌∷◌, T}
use Rattle.numbers.specs.Number.{Condition, ◌when◌}

-- a condition of number n holds
abbrev pub Holds : ℕ → List Condition → Type 0
Holds n [] = ⊥
Holds n (number when holds ∷ rest) = ((number ≡ n) × T holds) ⊎ Holds n rest

-- a number is the lowest whose condition holds, and 0 where none does
pub record Lowest (conditions : List Condition) (number : ℕ) : Type 0 where
  -- but for 0 it is the number of a condition that holds
  pub holds : number ≢ 0 → Holds number conditions
  -- where a condition holds, it is not 0 and no higher than that condition's number
  pub lowest : (n : ℕ) → Holds n conditions → (number ≢ 0) × (number ≤ n)

-- the first number is at least n, and each is at least the one before: equal neighbours are allowed
abbrev pub RisingFrom : ℕ → List Condition → Type 0
RisingFrom n [] = Unit {0}
RisingFrom n (number when holds ∷ rest) = (n ≤ number) × RisingFrom number rest

-- the numbers of a list are above 0 and rise
abbrev pub Rising : List Condition → Type 0
Rising conditions = RisingFrom 1 conditions
