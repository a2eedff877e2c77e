-- The table of digit products multiplies modulo 3.
use mathlib.Core.Path.{◌≡◌, ap, ◌∙◌}
use Prim.Native.Nat.{ℕ, ◌*◌, ◌%◌, ◌<◌}
use native.Mathlib.Nat.{mul_comm, mod-mod}
use native.Mathlib.Omega.{arith}
use Rattle.linear_model.specs.Tables.{every}
use Rattle.linear_model.specs.Digits.{digit_product}
use Rattle.linear_model.proofs.Tables.{same₂}
use Rattle.linear_model.proofs.Sums.{mul_congr}

-- the table's rule, one computed test over its nine entries
pub digit_product_lem : (a b : ℕ) → a < 3 → b < 3 → digit_product a b ≡ a * b % 3
unfolding every digit_product
digit_product_lem = same₂ 3 digit_product (λ a b. a * b % 3) tt

-- so the digits of two numbers modulo 3 have the product's digit
pub remainder_product : (a b : ℕ) → digit_product (a % 3) (b % 3) ≡ a * b % 3
remainder_product a b =
    digit_product_lem (a % 3) (b % 3) (omega arith) (omega arith)
    ∙ mul_congr 3 (a % 3) (b % 3) b (mod-mod b 3)
    ∙ ap (λ (x : ℕ). x % 3) (mul_comm (a % 3) b)
    ∙ mul_congr 3 b (a % 3) a (mod-mod a 3)
    ∙ ap (λ (x : ℕ). x % 3) (mul_comm b a)
