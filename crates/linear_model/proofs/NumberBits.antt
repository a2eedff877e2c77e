-- Laws of a number's bits, at any width.
use mathlib.Core.Path.{◌≡◌, refl, sym, ap, ap₂, ◌∙◌}
use Prim.Native.Nat.{ℕ, zero, suc, ◌+◌, ◌-◌, ◌*◌, ◌/◌, ◌%◌, ◌^◌, ◌<◌, suc-le-suc}
use native.Mathlib.Nat.{add-zero, zero-add, suc-add, not-suc-le-zero, le_of_suc-le-suc, zero-lt-suc, pow-suc, mul_comm, mod-lt, zero-div, div-div-eq-div-mul}
use native.Mathlib.Numerals.{add-one}
use native.Mathlib.Omega.{arith}
use lib.Pow.{shl_exact, field, mod-mod-pow}
use lib.Bits.{bit_xor, bit_and, bit_or, or_shifted_r, xor_shr, xor_mod, and_shr, and_mod, or_shr, or_mod}
use Rattle.linear_model.specs.Bits.{bit_at, from_bits}
use Rattle.linear_model.specs.Tables.{every, from}
use Rattle.linear_model.proofs.Tables.{same₂}

-- bit k + 1 of x is bit k of its half
pub bit_at_suc : (x k : ℕ) → bit_at x (suc k) ≡ bit_at (x / 2) k
bit_at_suc x k = rw (div-div-eq-div-mul x 2 (2 ^ k), pow-suc 2 k, mul_comm (2 ^ k) 2)

-- numbers of the same bits are equal
pub from_bits_ext : (k : ℕ) (f g : ℕ → ℕ) → ((i : ℕ) → i < k → f i ≡ g i) → from_bits k f ≡ from_bits k g
unfolding from_bits
from_bits_ext zero f g e = refl
from_bits_ext (suc k) f g e =
    rw (e 0 (zero-lt-suc k), from_bits_ext k (λ i. f (suc i)) (λ i. g (suc i)) (λ i h. e (suc i) (suc-le-suc h)))

-- a number of bits is below the power of its width
pub from_bits_lt : (k : ℕ) (f : ℕ → ℕ) → ((i : ℕ) → f i < 2) → from_bits k f < 2 ^ k
unfolding from_bits
from_bits_lt zero f b = zero-lt-suc 0
from_bits_lt (suc k) f b = omega (arith, b 0, from_bits_lt k (λ i. f (suc i)) (λ i. b (suc i)))

-- a number of no set bits is 0
pub from_bits-none : (k : ℕ) (f : ℕ → ℕ) → ((i : ℕ) → i < k → f i ≡ 0) → from_bits k f ≡ 0
unfolding from_bits
from_bits-none zero f e = refl
from_bits-none (suc k) f e = omega (arith, e 0 (zero-lt-suc k), from_bits-none k (λ i. f (suc i)) (λ i h. e (suc i) (suc-le-suc h)))

-- a number is the number of its bits
pub from_bits-at : (k x : ℕ) → x < 2 ^ k → from_bits k (bit_at x) ≡ x
unfolding from_bits
from_bits-at zero x h = omega arith
from_bits-at (suc k) x h = simp bit_at_suc (omega (arith, from_bits-at k (x / 2) (omega arith)))

-- a number of one bit more
pub from_bits_more : (k : ℕ) (f : ℕ → ℕ) → from_bits (suc k) f ≡ f k * 2 ^ k + from_bits k f
unfolding from_bits
from_bits_more zero f = omega arith
from_bits_more (suc k) f = rw (from_bits_more k (λ i. f (suc i)), pow-suc) (omega arith)

-- a number of one bit more, in front
pub from_bits-front : (k q : ℕ) (f : ℕ → ℕ) → from_bits (suc k) (from q f) ≡ f q + 2 * from_bits k (from (suc q) f)
unfolding from_bits
from_bits-front k q f =
    ap₂ (λ (x y : ℕ). x + 2 * y) (ap f (add-zero q)) (from_bits_ext k (λ i. f (q + suc i)) (from (suc q) f) (λ i _. ap f (omega arith)))

-- bits that are 0 from n on add nothing
pub from_bits-zeros : (n k : ℕ) (f : ℕ → ℕ) → ((i : ℕ) → f (n + i) ≡ 0) → from_bits (n + k) f ≡ from_bits n f
unfolding from_bits
from_bits-zeros zero k f e = ap (λ (j : ℕ). from_bits j f) (zero-add k) ∙ from_bits-none k f (λ i _. ap f (sym (zero-add i)) ∙ e i)
from_bits-zeros (suc n) k f e =
    ap (λ (j : ℕ). from_bits j f) (suc-add n k)
    ∙ ap (λ (x : ℕ). f 0 + 2 * x) (from_bits-zeros n k (λ i. f (suc i)) (λ i. ap f (sym (suc-add n i)) ∙ e i))

-- `x | (b << k)` at width w: one bit more
pub or_more : (w k x b : ℕ) (f : ℕ → ℕ) → k < w → ((i : ℕ) → f i < 2) → x ≡ from_bits k f → b ≡ f k → bit_or x (b * 2 ^ k % 2 ^ w) ≡ from_bits (k + 1) f
or_more w k x b f h l p q =
    let hb : b < 2 ^ 1 = omega (arith, l k) in
    let hx : x < 2 ^ k = rw p (from_bits_lt k f l) in
    rw (shl_exact 1 k w hb (omega arith), or_shifted_r b k x hx, add-one, from_bits_more, p, q)

half : (b n : ℕ) → b < 2 → (b + 2 * n) / 2 ≡ n
half b n h = omega arith

-- bit i of the number of the bits f is f i
pub bit_at-from_bits : (k : ℕ) (f : ℕ → ℕ) → ((i : ℕ) → f i < 2) → (i : ℕ) → i < k → bit_at (from_bits k f) i ≡ f i
unfolding from_bits
bit_at-from_bits zero f b i h = absurd (not-suc-le-zero h)
bit_at-from_bits (suc k) f b zero h = omega (arith, b 0)
bit_at-from_bits (suc k) f b (suc i) h =
    rw (bit_at_suc, half (f 0) (from_bits k (λ j. f (suc j))) (b 0))
    (bit_at-from_bits k (λ j. f (suc j)) (λ j. b (suc j)) i (le_of_suc-le-suc h))

-- a number whose bits are f is the number of the bits f
pub from_bits_of : (k x : ℕ) (f : ℕ → ℕ) → x < 2 ^ k → ((i : ℕ) → i < k → bit_at x i ≡ f i) → x ≡ from_bits k f
from_bits_of k x f h e = sym (from_bits-at k x h) ∙ from_bits_ext k (bit_at x) f e

-- a bit is below 2
pub bit_at_lt : (x k : ℕ) → bit_at x k < 2
bit_at_lt x k = mod-lt (x / 2 ^ k) (zero-lt-suc 1)

-- no bit of 0 is set
pub bit_at_zero : (k : ℕ) → bit_at 0 k ≡ 0
bit_at_zero k = rw zero-div

-- the low w bits of a number are its own
pub bit_at_mod : (w x k : ℕ) → k < w → bit_at (x % 2 ^ w) k ≡ bit_at x k
bit_at_mod w x k h =
    let e : w ≡ w - suc k + 1 + k = omega arith in
    ap (λ (n : ℕ). bit_at (x % 2 ^ n) k) e ∙ ap (λ (z : ℕ). z % 2) (field x (w - suc k + 1) k) ∙ mod-mod-pow (x / 2 ^ k) (w - suc k) 1

-- exclusive or of two bits is their sum modulo 2
pub xor_bits : (a b : ℕ) → a < 2 → b < 2 → bit_xor a b ≡ (a + b) % 2
unfolding every
xor_bits = same₂ 2 bit_xor (λ a b. (a + b) % 2) tt

-- and of two bits is their product
pub and_bits : (a b : ℕ) → a < 2 → b < 2 → bit_and a b ≡ a * b
unfolding every
and_bits = same₂ 2 bit_and ◌*◌ tt

-- the operations work bit by bit
pub xor_bit_at : (x y k : ℕ) → bit_at (bit_xor x y) k ≡ bit_xor (bit_at x k) (bit_at y k)
xor_bit_at x y k = ap (λ (z : ℕ). z % 2) (xor_shr x y k) ∙ xor_mod (x / 2 ^ k) (y / 2 ^ k) 1

pub and-bit_at : (x y k : ℕ) → bit_at (bit_and x y) k ≡ bit_and (bit_at x k) (bit_at y k)
and-bit_at x y k = ap (λ (z : ℕ). z % 2) (and_shr x y k) ∙ and_mod (x / 2 ^ k) (y / 2 ^ k) 1

pub or-bit_at : (x y k : ℕ) → bit_at (bit_or x y) k ≡ bit_or (bit_at x k) (bit_at y k)
or-bit_at x y k = ap (λ (z : ℕ). z % 2) (or_shr x y k) ∙ or_mod (x / 2 ^ k) (y / 2 ^ k) 1

-- bit k of an exclusive or is the sum of the bits modulo 2
pub bit_at_xor : (x y k : ℕ) → bit_at (bit_xor x y) k ≡ (bit_at x k + bit_at y k) % 2
bit_at_xor x y k = xor_bit_at x y k ∙ xor_bits (bit_at x k) (bit_at y k) (bit_at_lt x k) (bit_at_lt y k)

-- bit k of an and is the product of the bits
pub bit_at_and : (x y k : ℕ) → bit_at (bit_and x y) k ≡ bit_at x k * bit_at y k
bit_at_and x y k = and-bit_at x y k ∙ and_bits (bit_at x k) (bit_at y k) (bit_at_lt x k) (bit_at_lt y k)
