-- The three sets: the bits of a key, a label and an inner vector, the digits of a code, and the rows of a full block of the matrix file.
use Rattle.std.specs.Prelude.{ℕ, ◌≡◌, List, [], ◌∷◌, Bool, true, false, cond, not, ◌||◌, eqb, get_or}
use Rattle.numbers.specs.Number.{Condition, ◌when◌, first}
use Rattle.numbers.specs.Lowest.{Lowest}

-- whether a number is a set's
abbrev pub is_set : ℕ → Bool
is_set set = eqb set 1 || (eqb set 2 || eqb set 3)

-- of sets 1, 2 and 3; no other number has bits, digits or rows
abbrev pub set_bits : ℕ → ℕ
set_bits set = get_or (0 ∷ 256 ∷ 64 ∷ 512 ∷ []) set 0

abbrev pub set_digits : ℕ → ℕ
set_digits set = get_or (0 ∷ 81 ∷ 21 ∷ 162 ∷ []) set 0

abbrev pub block_rows : ℕ → ℕ
block_rows set = get_or (0 ∷ 7 ∷ 28 ∷ 3 ∷ []) set 0

-- the set of a state that no beginning made: a number that is no set counts as 1
abbrev pub counted : ℕ → ℕ
counted set = cond (is_set set) set 1

-- a call names a set
abbrev pub named : ℕ → Condition
named set = 14 when not (is_set set)

-- the number of a call that does: this is looked at before all its other conditions
unfoldable pub number_in : ℕ → List Condition → ℕ
number_in set conditions = first (named set ∷ conditions)

-- it is 14 where no set is named, and else the lowest
pub record LowestIn (set : ℕ) (conditions : List Condition) (number : ℕ) : Type 0 where
  pub none : is_set set ≡ false → number ≡ 14
  pub lowest : is_set set ≡ true → Lowest conditions number
