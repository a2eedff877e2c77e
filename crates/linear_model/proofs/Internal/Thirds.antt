-- Laws of numbers modulo 3: a number is the sum of its bits at even places and twice those at odd places.
use mathlib.Core.Path.{◌≡◌, refl, sym, ap, ◌∙◌}
use Prim.Native.Nat.{ℕ, zero, suc, ◌+◌, ◌-◌, ◌*◌, ◌%◌, ◌^◌, ◌<◌}
use native.Mathlib.Nat.{pow-suc, mod-eq_of_lt}
use native.Mathlib.Omega.{arith}
use lib.Bits.{bit_xor, bit_and, and_lt, xor_lt}
use lib.Dec.{lit<}
use Rattle.linear_model.specs.Tables.{every, sum}
use Rattle.linear_model.specs.Bits.{bit_at, from_bits}
use Rattle.linear_model.specs.Internal.Planes.{trit_of, plus_of, minus_of}
use Rattle.linear_model.proofs.Tables.{same₁, same₄}
use Rattle.linear_model.proofs.NumberBits.{from_bits_more, from_bits-at, bit_at_lt, xor_bit_at, and-bit_at}
use Rattle.linear_model.proofs.Sums.{add_congr, mul_congr, sum_add}

-- what bit k counts modulo 3
abbrev share : (ℕ → ℕ) → ℕ → ℕ
share f k = (1 + k % 2) * f k

pow_thirds : (k : ℕ) → 2 ^ k % 3 ≡ (1 + k % 2) % 3
pow_thirds zero = refl
pow_thirds (suc k) =
    ap (λ (x : ℕ). x % 3) (pow-suc 2 k ∙ omega arith) ∙ mul_congr 3 2 (2 ^ k) (1 + k % 2) (pow_thirds k) ∙ twice (k % 2) (omega arith)
    ∙ parity ∙ sym (mod-eq_of_lt {n = 1 + suc k % 2} {m = 3} (omega arith))
  where
    twice : (r : ℕ) → r < 2 → 2 * (1 + r) % 3 ≡ 2 - r
    twice zero h = refl
    twice (suc zero) h = refl
    twice (suc (suc r)) h = absurd (omega arith)

    parity : 2 - k % 2 ≡ 1 + suc k % 2
    parity = omega arith

from_bits_thirds : (k : ℕ) (f : ℕ → ℕ) → from_bits k f % 3 ≡ sum k (share f) % 3
unfolding from_bits sum
from_bits_thirds zero f = refl
from_bits_thirds (suc k) f =
    ap (λ (x : ℕ). x % 3) (from_bits_more k f ∙ omega arith)
    ∙ add_congr 3 (from_bits k f) (f k * 2 ^ k) (sum k (share f)) (share f k) (from_bits_thirds k f)
    (mul_congr 3 (f k) (2 ^ k) (1 + k % 2) (pow_thirds k) ∙ ap (λ (x : ℕ). x % 3) (omega arith))

-- the bits at even places
even_bit_at : (k : ℕ) → k < 64 → bit_at 0x5555555555555555 k ≡ 1 - k % 2
unfolding every
even_bit_at = same₁ 64 (bit_at 0x5555555555555555) (λ k. 1 - k % 2) tt

-- place k of two words, at all choices of its bits and of its parity
place : (x u k : ℕ) → k < 64 → (share (bit_at (plus_of x u)) k + (share (bit_at (minus_of x u)) k + share (bit_at (minus_of x u)) k)) % 3 ≡ trit_of x u k % 3
unfolding every
place x u k h =
    simp (xor_bit_at, and-bit_at)
    (rw (even_bit_at k h)
    (same₄ 2
    (λ x u r _. ((1 + r) * bit_xor (bit_and (bit_xor x u) (1 - r)) u + ((1 + r) * bit_xor (bit_and (bit_xor x u) (1 - r)) x + (1 + r) * bit_xor (bit_and (bit_xor x u) (1 - r)) x)) % 3)
    (λ x u r _. (x + 2 * u) % 3) tt (bit_at x k) (bit_at u k) (k % 2) 0 (bit_at_lt x k) (bit_at_lt u k) (omega arith) (omega arith)))

-- the trits of two words, added up modulo 3
pub weight_sum : (x u p q : ℕ) → x < 2 ^ 64 → u < 2 ^ 64 → p % 3 ≡ plus_of x u % 3 → q % 3 ≡ minus_of x u % 3
    → (p + 2 * q) % 3 ≡ sum 64 (trit_of x u) % 3
weight_sum x u p q hx hu ep eq =
    let even : bit_and (bit_xor x u) 0x5555555555555555 < 2 ^ 64 = and_lt 64 (bit_xor x u) 0x5555555555555555 (xor_lt 64 x u hx hu) (lit< tt) in
    let hp : plus_of x u < 2 ^ 64 = xor_lt 64 _ u even hu in
    let hq : minus_of x u < 2 ^ 64 = xor_lt 64 _ x even hx in
    let f = share (bit_at (plus_of x u)) in
    let g = share (bit_at (minus_of x u)) in
    let ef : p % 3 ≡ sum 64 f % 3 = ep ∙ ap (λ (z : ℕ). z % 3) (sym (from_bits-at 64 (plus_of x u) hp)) ∙ from_bits_thirds 64 (bit_at (plus_of x u)) in
    let eg : q % 3 ≡ sum 64 g % 3 = eq ∙ ap (λ (z : ℕ). z % 3) (sym (from_bits-at 64 (minus_of x u) hq)) ∙ from_bits_thirds 64 (bit_at (minus_of x u)) in
    let gg : (q + q) % 3 ≡ sum 64 (λ k. g k + g k) % 3 =
    add_congr 3 q q (sum 64 g) (sum 64 g) eg eg ∙ sum_add 3 64 g g (λ k. g k + g k) (λ k _. refl)
    in
    ap (λ (z : ℕ). z % 3) (omega arith) ∙ add_congr 3 p (q + q) (sum 64 f) (sum 64 (λ k. g k + g k)) ef gg
    ∙ sum_add 3 64 f (λ k. g k + g k) (trit_of x u) (place x u)
