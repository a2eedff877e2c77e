-- What `printed` says: numbers in decimal, and an input of another length.
use mathlib.Core.Path.{◌≡◌, refl}
use mathlib.Core.List.{List, [], ◌∷◌, ◌++◌}
use Prim.Native.Nat.{ℕ}
use borrow.Author.Tests.{ne_eqb}
use lib.ListN.{length}
use Rattle.numbers.specs.Number.{first}
use Rattle.pair_model.specs.WholeRun.{run_conditions}
use Rattle.service_pair.specs.Printed.{ascii, last_places, decimal, result_word, line_feed, result_line, printed}

-- the digits of 0, and of 120
pub decimal_0 : decimal 0 ≡ ascii 0 ∷ []
unfolding last_places
decimal_0 = refl

pub decimal_120 : decimal 120 ≡ ascii 1 ∷ ascii 2 ∷ ascii 0 ∷ []
unfolding last_places
decimal_120 = refl

-- "another length: 1", a shorter input and a longer one
pub other_length : (input : List ℕ) → (length input ≡ 6528 → ⊥) → printed input ≡ result_word ++ (ascii 1 ∷ []) ++ line_feed
unfolding first run_conditions printed result_line last_places
other_length input h = simp (ne_eqb (length input) 6528 h)
