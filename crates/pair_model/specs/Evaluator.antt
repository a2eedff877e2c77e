-- The function itself, in one place: document 001, Construction 3.1.
use Rattle.std.specs.Prelude.{ℕ, List, ◌∷◌, not, ltb, eqb, length}
use Rattle.linear_model.specs.Trits.{bit_trits}
use Rattle.linear_model.specs.Products.{plane_bytes, matrix_product}
use Rattle.numbers.specs.Number.{Condition, ◌when◌, first, merge}
use Rattle.pair_model.specs.Scheme.{Files, bad_length, faults_in, Scheme, product_with, rows_with}
use Rattle.pair_model.specs.Frame.{code_bytes}

module _ (S : Scheme) where
  -- B × v modulo 3
  unfoldable pub code_of : Files → List ℕ → List ℕ
  code_of lent v = matrix_product (plane_bytes S.digits) S.inner_bytes S.digits (rows_with S lent) v

  -- y = B × w modulo 3, w = K × label modulo 2 read as trits
  unfoldable pub code : List ℕ → List ℕ → Files → List ℕ
  code key label lent = code_of lent (bit_trits S.inner_bytes (product_with S lent key label))

  -- it reads both the product's files and the rows'
  unfoldable pub evaluate_conditions : List ℕ → List ℕ → Files → ℕ → List Condition
  evaluate_conditions key label lent output_length =
      1 when not (eqb (length key) S.key_bytes)
      ∷ 1 when not (eqb (length label) S.key_bytes)
      ∷ 1 when bad_length S.product_reading lent
      ∷ 1 when bad_length S.rows_reading lent
      ∷ 1 when ltb output_length (code_bytes S)
      ∷ merge (faults_in S.product_reading lent) (faults_in S.rows_reading lent)

  abbrev pub evaluate_number : List ℕ → List ℕ → Files → ℕ → ℕ
  evaluate_number key label lent output_length = first (evaluate_conditions key label lent output_length)
