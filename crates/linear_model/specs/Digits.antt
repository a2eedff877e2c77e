-- The products of two digits modulo 3, in a table.
use Rattle.std.specs.Prelude.{ℕ, List, [], ◌∷◌, get_or}

-- three rows of three: row a has the products of digit a with 0, 1 and 2
abbrev pub digit_products : List (List ℕ)
digit_products = (0 ∷ 0 ∷ 0 ∷ []) ∷ (0 ∷ 1 ∷ 2 ∷ []) ∷ (0 ∷ 2 ∷ 1 ∷ []) ∷ []

-- the entry in row a and column b
unfoldable pub digit_product : ℕ → ℕ → ℕ
digit_product a b = get_or (get_or digit_products a []) b 0
