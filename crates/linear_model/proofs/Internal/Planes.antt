-- Laws of trits in two planes: sums, differences and products by operations on whole bytes or words.
use mathlib.Core.Path.{◌≡◌, refl, sym, ap, ap₂, ◌∙◌}
use mathlib.Core.List.{List}
use mathlib.Core.Bool.{Bool, true, false, cond}
use Prim.Native.Nat.{ℕ, ◌+◌, ◌*◌, ◌%◌, ◌^◌, ◌<◌}
use native.Mathlib.Nat.{add-mul-mod_self_left, add-mod, mod-mod}
use native.Mathlib.Omega.{arith}
use borrow.Author.Tests.{lt-ltb}
use lib.Bits.{bit_xor, bit_and}
use lib.Dec.{ltb}
use lib.ListN.{get_or}
use Rattle.linear_model.specs.Tables.{from, every, sum}
use Rattle.linear_model.specs.Bits.{bit_at, bit, from_bits}
use Rattle.linear_model.specs.Trits.{trit, low, high}
use Rattle.linear_model.specs.Digits.{digit_product}
use Rattle.linear_model.specs.Products.{trit_term}
use Rattle.linear_model.specs.Internal.Planes.{trit_of, PlaneBits, Narrow, sum_low, sum_high, trit_product, nonzero, twos}
use Rattle.linear_model.proofs.Tables.{same₂, same₄}
use Rattle.linear_model.proofs.NumberBits.{from_bits_ext, from_bits_of, bit_at_lt, bit_at_mod, bit_at_zero, xor_bit_at, and-bit_at, or-bit_at}
use Rattle.linear_model.proofs.Sums.{add_congr, sum_congr, sum_split}
use Rattle.linear_model.proofs.Digits.{remainder_product}
use Rattle.linear_model.proofs.Strings.{bit-at}
use Rattle.linear_model.proofs.WordBits.{word_bit_at}

-- ---- trits from bytes and words

-- trit 8i + k has its bits in bytes i and m + i
pub trit-at : (m : ℕ) (v : List ℕ) (i k : ℕ) → k < 8 → trit m v (8 * i + k) ≡ trit_of (get_or v i 0) (get_or v (m + i) 0) k
unfolding trit
trit-at m v i k h =
    let e : 8 * m + (8 * i + k) ≡ 8 * (m + i) + k = omega arith in
    rw (e, bit-at v i k h, bit-at v (m + i) k h)

module _ (m : ℕ) (v : List ℕ) (i x u : ℕ) where
  pub trit_byte : x ≡ get_or v i 0 → u ≡ get_or v (m + i) 0 → (k : ℕ) → k < 8 → trit m v (8 * i + k) ≡ trit_of x u k
  trit_byte ex eu k h = rw (trit-at m v i k h, ex, eu)

  pub trit_word : x ≡ from_bits 64 (from (8 * i) (bit v)) → u ≡ from_bits 64 (from (8 * (m + i)) (bit v)) → (k : ℕ) → k < 64 → trit m v (8 * i + k) ≡ trit_of x u k
  unfolding trit
  trit_word ex eu k h =
      let e : 8 * m + (8 * i + k) ≡ 8 * (m + i) + k = omega arith in
      rw (e, ← word_bit_at v (8 * i) x ex k h, ← word_bit_at v (8 * (m + i)) u eu k h)

-- w trits f, from words that have them
pub plane_bits_of : (w : ℕ) (f : ℕ → ℕ) (i p q : ℕ) → p < 2 ^ w → q < 2 ^ w → ((k : ℕ) → k < w → trit_of p q k ≡ f (8 * i + k)) → PlaneBits w f i p q
plane_bits_of w f i p q hp hq e =
    record {
      low_is = from_bits_of w p (from (8 * i) (low f)) hp (λ k l. omega (arith, e k l));
      high_is = from_bits_of w q (from (8 * i) (high f)) hq (λ k l. omega (arith, e k l));
    }

-- and from their low bytes
pub plane_bits_narrow : (f : ℕ → ℕ) (i x u p q : ℕ) → Narrow x u p q → ((k : ℕ) → k < 8 → trit_of x u k ≡ f (8 * i + k)) → PlaneBits 8 f i p q
plane_bits_narrow f i x u p q n e =
    plane_bits_of 8 f i p q (omega arith) (omega arith)
    (λ k l. ap₂ (λ (y z : ℕ). y + 2 * z) (ap (λ (y : ℕ). bit_at y k) n.low_is ∙ bit_at_mod 8 x k l) (ap (λ (y : ℕ). bit_at y k) n.high_is ∙ bit_at_mod 8 u k l)
    ∙ e k l)

-- the same eight trits elsewhere
pub plane_bits_ext : (f g : ℕ → ℕ) (i j x y : ℕ) → ((k : ℕ) → f (8 * i + k) ≡ g (8 * j + k)) → PlaneBits 8 f i x y → PlaneBits 8 g j x y
plane_bits_ext f g i j x y e r =
    record {
      low_is = r.low_is ∙ from_bits_ext 8 (from (8 * i) (low f)) (from (8 * j) (low g)) (λ k _. rw (e k));
      high_is = r.high_is ∙ from_bits_ext 8 (from (8 * i) (high f)) (from (8 * j) (high g)) (λ k _. rw (e k));
    }

-- ---- sums, at all choices of the bits

pub fit_bit_at : (x u k : ℕ) → trit_of (bit_xor x (bit_and x u)) (bit_xor u (bit_and x u)) k ≡ trit_of x u k % 3
unfolding every
fit_bit_at x u k =
    simp (xor_bit_at, and-bit_at)
    (same₂ 2 (λ x u. bit_xor x (bit_and x u) + 2 * bit_xor u (bit_and x u)) (λ x u. (x + 2 * u) % 3) tt _ _ (bit_at_lt x k) (bit_at_lt u k))

pub add_bit_at : (x u y w k : ℕ) → trit_of x u k < 3 → trit_of y w k < 3 → trit_of (sum_low x u y w) (sum_high x u y w) k ≡ (trit_of x u k + trit_of y w k) % 3
unfolding every
add_bit_at x u y w k hs ht =
    simp (xor_bit_at, or-bit_at)
    (rw (lt-ltb (trit_of x u k) 3 hs, lt-ltb (trit_of y w k) 3 ht) at
    (same₄ 2 (λ x u y w. cond (ltb (x + 2 * u) 3) (cond (ltb (y + 2 * w) 3) (sum_low x u y w + 2 * sum_high x u y w) 0) 0)
    (λ x u y w. cond (ltb (x + 2 * u) 3) (cond (ltb (y + 2 * w) 3) ((x + 2 * u + (y + 2 * w)) % 3) 0) 0) tt
    _ _ _ _ (bit_at_lt x k) (bit_at_lt u k) (bit_at_lt y k) (bit_at_lt w k)))

-- the sum of what is below 3, from remainders
pub added_mod : (r s t a b : ℕ) → (s < 3 → t < 3 → r ≡ (s + t) % 3) → s ≡ a % 3 → t ≡ b % 3 → r ≡ (a + b) % 3
added_mod r s t a b e p q = e (omega arith) (omega arith) ∙ rw (p, q, ← add-mod)

-- a bit as a trit
pub low-trit : (x k : ℕ) → trit_of x 0 k ≡ bit_at x k % 3
low-trit x k = rw (bit_at_zero k) (omega arith)

-- twice a trit is its bits in the other order, modulo 3
pub negated : (x y z : ℕ) → (x + 2 * (z + 2 * y)) % 3 ≡ (x + (y + 2 * z)) % 3
negated x y z = ap {B = ℕ} (λ s. s % 3) {y = x + (y + 2 * z) + 3 * y} (omega arith) ∙ add-mul-mod_self_left (x + (y + 2 * z)) 3 y

pub bit_at-cond : (b : Bool) (a k : ℕ) → bit_at (cond b a 0) k ≡ cond b (bit_at a k) 0
bit_at-cond true a k = refl
bit_at-cond false a k = bit_at_zero k

-- r + ŵ × r: the planes of r change places where ŵ has a 1
pub exchanged_bit_at : (x u a k : ℕ) → trit_of (bit_xor x (bit_and a (bit_xor x u))) (bit_xor u (bit_and a (bit_xor x u))) k % 3 ≡ (trit_of x u k + bit_at a k * trit_of x u k) % 3
unfolding every
exchanged_bit_at x u a k =
    simp (xor_bit_at, and-bit_at)
    (same₄ 2 (λ x u a _. (bit_xor x (bit_and a (bit_xor x u)) + 2 * bit_xor u (bit_and a (bit_xor x u))) % 3)
    (λ x u a _. (x + 2 * u + a * (x + 2 * u)) % 3) tt _ _ _ _
    (bit_at_lt x k) (bit_at_lt u k) (bit_at_lt a k) (bit_at_lt a k))

-- ---- products

-- the product of two trits is the table's entry, at all sixteen choices of their bits
pub product_bit_at : (x u y w k : ℕ) → trit_of (bit_xor (nonzero x u y w) (twos x u y w)) (twos x u y w) k ≡ trit_product x u y w k
unfolding every digit_product
product_bit_at x u y w k =
    simp (xor_bit_at, and-bit_at)
    (same₄ 2 (λ x u y w. bit_xor (nonzero x u y w) (twos x u y w) + 2 * twos x u y w) (λ x u y w. digit_product ((x + 2 * u) % 3) ((y + 2 * w) % 3)) tt
    _ _ _ _ (bit_at_lt x k) (bit_at_lt u k) (bit_at_lt y k) (bit_at_lt w k))

-- the table's entries for columns 8i on of a row and a vector are the terms of their product modulo 3
module _ (m : ℕ) (row v : List ℕ) (i x u y w : ℕ) where
  pub product_term : (k : ℕ) → trit m row (8 * i + k) ≡ trit_of x u k → trit m v (8 * i + k) ≡ trit_of y w k → trit_product x u y w k ≡ trit_term m row v (8 * i + k) % 3
  product_term k p q = remainder_product (trit_of x u k) (trit_of y w k) ∙ sym (ap₂ (λ (s t : ℕ). s * t % 3) p q)

  pub product_terms : (n : ℕ) → ((k : ℕ) → k < n → trit m row (8 * i + k) ≡ trit_of x u k) → ((k : ℕ) → k < n → trit m v (8 * i + k) ≡ trit_of y w k)
      → sum n (trit_product x u y w) % 3 ≡ sum n (from (8 * i) (trit_term m row v)) % 3
  product_terms n p q =
      sum_congr 3 n (trit_product x u y w) (from (8 * i) (trit_term m row v)) (λ k l. ap (λ (z : ℕ). z % 3) (product_term k (p k l) (q k l)) ∙ mod-mod _ 3)

-- the terms of n bytes more of a sum modulo 3
pub mod_more : (n : ℕ) (f : ℕ → ℕ) (i x y : ℕ) → x % 3 ≡ sum (8 * i) f % 3 → y % 3 ≡ sum (8 * n) (from (8 * i) f) % 3 → (x + y) % 3 ≡ sum (8 * (i + n)) f % 3
mod_more n f i x y p q =
    let e : 8 * (i + n) ≡ 8 * i + 8 * n = omega arith in
    add_congr 3 x y (sum (8 * i) f) (sum (8 * n) (from (8 * i) f)) p q ∙ rw (e, sum_split)
