-- Laws of numbers modulo 3.
use mathlib.Core.Path.{◌≡◌, refl, sym, ap, ◌∙◌}
use mathlib.Core.Logic.{◌≢◌}
use Prim.Native.Nat.{ℕ, zero, suc, ◌*◌, ◌%◌}
use native.Mathlib.Nat.{mul_comm}
use native.Mathlib.Omega.{arith}
use Rattle.linear_model.proofs.Sums.{mul_congr}

-- a product may be taken of remainders
pub times_congr : (x y z w : ℕ) → x % 3 ≡ z % 3 → y % 3 ≡ w % 3 → x * y % 3 ≡ z * w % 3
times_congr x y z w p q =
    mul_congr 3 x y w q
    ∙ ap (λ (v : ℕ). v % 3) (mul_comm x w)
    ∙ mul_congr 3 w x z p
    ∙ ap (λ (v : ℕ). v % 3) (mul_comm w z)

-- what a number is modulo 3, by cases
third_cases : (x : ℕ) (P : ℕ → Type 0) → (x % 3 ≡ 0 → P x) → (x % 3 ≡ 1 → P x) → (x % 3 ≡ 2 → P x) → P x
third_cases x P a b c = go (x % 3) refl
  where
    go : (r : ℕ) → x % 3 ≡ r → P x
    go zero e = a e
    go (suc zero) e = b e
    go (suc (suc zero)) e = c e
    go (suc (suc (suc r))) e = absurd (omega arith)

-- a product is not 0 unless a factor is
pub factor-zero : (x y : ℕ) → x * y % 3 ≡ 0 → x % 3 ≢ 0 → y % 3 ≡ 0
factor-zero x y e n =
    third_cases x (λ z. y % 3 ≡ 0) (λ p. absurd (n p))
    (λ p. omega (arith, times_congr x y 1 y p refl))
    (λ p. two (sym (times_congr x y 2 y p refl) ∙ e))
  where
    two : 2 * y % 3 ≡ 0 → y % 3 ≡ 0
    two q = third_cases y (λ z. y % 3 ≡ 0) (λ p. p) (λ p. absurd (omega (arith, times_congr 2 y 2 1 refl p))) (λ p. absurd (omega (arith, times_congr 2 y 2 2 refl p)))

-- a square of a digit other than 0 is 1
pub square_one : (x : ℕ) → x % 3 ≢ 0 → x * x % 3 ≡ 1
square_one x n =
    third_cases x (λ z. x * x % 3 ≡ 1) (λ p. absurd (n p))
    (λ p. times_congr x x 1 1 p p)
    (λ p. times_congr x x 2 2 p p)

-- a multiple of 0 is 0
pub times_zero : (x y : ℕ) → y % 3 ≡ 0 → x * y % 3 ≡ 0
times_zero x y p = times_congr x y x 0 refl p ∙ omega arith

-- the same with the factors exchanged
pub zero-times : (x y : ℕ) → x % 3 ≡ 0 → x * y % 3 ≡ 0
zero-times x y p = times_congr x y 0 y p refl ∙ omega arith

-- a factor other than 0 may be left out on both sides
pub cancel : (x y z : ℕ) → x * z % 3 ≡ y * z % 3 → z % 3 ≢ 0 → x % 3 ≡ y % 3
cancel x y z e h = omega (arith, times_congr (x * z) z (y * z) z e refl, twice x, twice y)
  where
    twice : (x : ℕ) → x * z * z % 3 ≡ x % 3
    twice x = omega (arith, times_congr x (z * z) x 1 refl (square_one z h))
