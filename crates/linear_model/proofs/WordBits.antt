-- Laws of words: numbers of bits that are put together, cut apart and counted.
use mathlib.Core.Path.{◌≡◌, sym, ap, ◌∙◌}
use mathlib.Core.List.{List}
use Prim.Native.Nat.{ℕ, zero, suc, ◌+◌, ◌-◌, ◌*◌, ◌/◌, ◌%◌, ◌^◌, ◌<◌, ◌≤◌}
use native.Mathlib.Nat.{add-zero, zero-add, suc-add, pow-suc, mod-lt, mul-mod_left}
use native.Mathlib.Omega.{arith}
use lib.Arith.{lt-one}
use lib.Pow.{pow_pos, shl_exact, shl-shr, mod-pow-add, high, low}
use lib.Bits.{bit_or, or_shifted_r}
use lib.Count.{ones, ones_step}
use lib.ListN.{get_or}
use Rattle.linear_model.specs.Tables.{from, sum}
use Rattle.linear_model.specs.Bits.{bit_at, from_bits, bit}
use Rattle.linear_model.proofs.NumberBits.{from_bits_ext, from_bits_lt, from_bits_of, bit_at_suc, bit_at-from_bits}
use Rattle.linear_model.proofs.Sums.{sum-front}
use Rattle.linear_model.proofs.Strings.{bit_lt, bit-at}

-- a number of a + b bits, from its low and its high part
pub from_bits_add : (a b : ℕ) (f : ℕ → ℕ) → from_bits (a + b) f ≡ from_bits b (from a f) * 2 ^ a + from_bits a f
unfolding from_bits
from_bits_add zero b f = rw zero-add (omega (arith, from_bits_ext b f (from 0 f) (λ i h. ap f (sym (zero-add i)))))
from_bits_add (suc a) b f =
    let g : ℕ → ℕ = λ i. f (suc i) in
    let e : from_bits b (from a g) ≡ from_bits b (from (suc a) f) = from_bits_ext b (from a g) (from (suc a) f) (λ i h. ap f (sym (suc-add a i))) in
    rw (suc-add, from_bits_add a b g, pow-suc, ← e) (omega arith)

-- `x | (b << k)` at width w, where b has n bits
pub or_part : (w k n x b : ℕ) (f : ℕ → ℕ) → n + k ≤ w → ((i : ℕ) → f i < 2) → x ≡ from_bits k f → b ≡ from_bits n (from k f)
    → bit_or x (b * 2 ^ k % 2 ^ w) ≡ from_bits (k + n) f
or_part w k n x b f h l p q =
    let hb : b < 2 ^ n = rw q (from_bits_lt n (from k f) (λ i. l (k + i))) in
    let hx : x < 2 ^ k = rw p (from_bits_lt k f l) in
    rw (shl_exact n k w hb h, or_shifted_r b k x hx, from_bits_add, p, q)

-- the low and the high part of a number of bits
pub from_bits-low : (a b : ℕ) (f : ℕ → ℕ) → ((i : ℕ) → f i < 2) → from_bits (a + b) f % 2 ^ a ≡ from_bits a f
from_bits-low a b f l = rw from_bits_add (low (from_bits b (from a f)) a (from_bits_lt a f l))

pub from_bits-high : (a b : ℕ) (f : ℕ → ℕ) → ((i : ℕ) → f i < 2) → from_bits (a + b) f / 2 ^ a ≡ from_bits b (from a f)
from_bits-high a b f l = rw from_bits_add (high (from_bits b (from a f)) a (from_bits_lt a f l))

-- the set bits of a number, counted
pub ones_sum : (k x : ℕ) → x < 2 ^ k → ones x ≡ sum k (bit_at x)
unfolding sum ones
ones_sum zero x h = ap ones (lt-one h)
ones_sum (suc k) x h = rw (sum-front, ones_step) (simp bit_at_suc (omega (arith, ones_sum k (x / 2) (omega arith))))

-- byte i + k of a string is bits 8i + 8k on
pub byte_part : (s : List ℕ) (i k x : ℕ) → x ≡ get_or s (i + k) 0 → x < 256 → x ≡ from_bits 8 (from (8 * k) (from (8 * i) (bit s)))
byte_part s i k x e h =
    from_bits_of 8 x (from (8 * k) (from (8 * i) (bit s))) h
    (λ j l. let t : 8 * (i + k) + j ≡ 8 * i + (8 * k + j) = omega arith in
    ap (λ (y : ℕ). bit_at y j) e ∙ sym (bit-at s (i + k) j l) ∙ ap (bit s) t)

-- half a word from its four bytes, and a word from its halves
pub half_bytes : (s : List ℕ) (i a b c d : ℕ) → ((k : ℕ) → get_or s k 0 < 256) → a ≡ get_or s i 0 → b ≡ get_or s (i + 1) 0 → c ≡ get_or s (i + 2) 0 → d ≡ get_or s (i + 3) 0
    → bit_or (bit_or (bit_or a (b * 2 ^ 8 % 2 ^ 64)) (c * 2 ^ 16 % 2 ^ 64)) (d * 2 ^ 24 % 2 ^ 64) ≡ from_bits 32 (from (8 * i) (bit s))
half_bytes s i a b c d small ea eb ec ed =
    let w = from (8 * i) (bit s) in
    let more : (k x y : ℕ) → 8 + 8 * k ≤ 64 → x ≡ from_bits (8 * k) w → y ≡ get_or s (i + k) 0 → bit_or x (y * 2 ^ (8 * k) % 2 ^ 64) ≡ from_bits (8 * k + 8) w =
    λ k x y l p q. or_part 64 (8 * k) 8 x y w l (λ j. bit_lt s (8 * i + j)) p (byte_part s i k y q (rw q (small (i + k))))
    in
    let first : a ≡ from_bits 8 w =
    byte_part s i 0 a (ea ∙ ap (λ (k : ℕ). get_or s k 0) (sym (add-zero i))) (rw ea (small i)) ∙ from_bits_ext 8 (from 0 w) w (λ j _. ap w (zero-add j))
    in
    more 3 _ d (omega arith) (more 2 _ c (omega arith) (more 1 a b (omega arith) first eb) ec) ed

pub word_halves : (s : List ℕ) (i a b : ℕ) → a ≡ from_bits 32 (from (8 * i) (bit s)) → b ≡ from_bits 32 (from (8 * (i + 4)) (bit s))
    → bit_or a (b * 2 ^ 32 % 2 ^ 64) ≡ from_bits 64 (from (8 * i) (bit s))
word_halves s i a b ea eb =
    let w = from (8 * i) (bit s) in
    or_part 64 32 32 a b w (omega arith) (λ j. bit_lt s (8 * i + j)) ea
    (eb ∙ from_bits_ext 32 (from (8 * (i + 4)) (bit s)) (from 32 w) (λ j _. ap (bit s) (omega arith)))

-- a byte shifted out of a word at the top
shl_cut : (b k q : ℕ) → b * 2 ^ k % 2 ^ (q + k) ≡ b % 2 ^ q * 2 ^ k
shl_cut b k q = mod-pow-add (b * 2 ^ k) q k ∙ rw (shl-shr b k, mul-mod_left b (2 ^ k), add-zero)

-- `(x >> q) | (b << (64 - q))`, where b are the n bits after x
pub window_is : (n q x b : ℕ) (f : ℕ → ℕ) → q ≤ n → q ≤ 64 → ((i : ℕ) → f i < 2) → x ≡ from_bits 64 f → b ≡ from_bits n (from 64 f)
    → bit_or (x / 2 ^ q) (b * 2 ^ (64 - q) % 2 ^ 64) ≡ from_bits 64 (from q f)
window_is n q x b f h h' l p e =
    let k = 64 - q in
    let t : q + k ≡ 64 = omega arith in
    let u : q + (n - q) ≡ n = omega arith in
    let cut : b * 2 ^ k % 2 ^ 64 ≡ b % 2 ^ q * 2 ^ k % 2 ^ 64 =
    rw t at (shl_cut b k q) ∙ sym (shl_exact q k 64 (mod-lt b (pow_pos q)) (omega arith))
    in
    let hi : x / 2 ^ q ≡ from_bits k (from q f) = rw p (rw t at (from_bits-high q k f l)) in
    let lo : b % 2 ^ q ≡ from_bits q (from k (from q f)) =
    rw e (rw u at (from_bits-low q (n - q) (from 64 f) (λ i. l (64 + i))))
    ∙ from_bits_ext q (from 64 f) (from k (from q f)) (λ i _. ap f (omega arith))
    in
    let w : k + q ≡ 64 = omega arith in
    rw (cut, or_part 64 k q (x / 2 ^ q) (b % 2 ^ q) (from q f) (omega arith) (λ i. l (q + i)) hi lo, w)

-- the same of a word of a string and the byte after it
pub window_at : (s : List ℕ) (i q x b : ℕ) → q ≤ 8 → x ≡ from_bits 64 (from (8 * i) (bit s)) → b ≡ get_or s (i + 8) 0 → b < 256
    → bit_or (x / 2 ^ q) (b * 2 ^ (64 - q) % 2 ^ 64) ≡ from_bits 64 (from (8 * i + q) (bit s))
window_at s i q x b h e f l =
    window_is 8 q x b (from (8 * i) (bit s)) h (omega arith) (λ j. bit_lt s (8 * i + j)) e (byte_part s i 8 b f l)
    ∙ from_bits_ext 64 (from q (from (8 * i) (bit s))) (from (8 * i + q) (bit s)) (λ k _. ap (bit s) (omega arith))

-- byte k of a word
pub word_byte : (k x : ℕ) (f : ℕ → ℕ) → k < 8 → ((i : ℕ) → f i < 2) → x ≡ from_bits 64 f → x / 2 ^ (8 * k) % 2 ^ 8 ≡ from_bits 8 (from (8 * k) f)
word_byte k x f h l p =
    let a = 8 * k in
    let b = 56 - 8 * k in
    let t : a + (8 + b) ≡ 64 = omega arith in
    rw (p, ← t, from_bits-high a (8 + b) f l) (from_bits-low 8 b (from a f) (λ i. l (a + i)))

-- bit k of a word of a string
pub word_bit_at : (s : List ℕ) (m x : ℕ) → x ≡ from_bits 64 (from m (bit s)) → (k : ℕ) → k < 64 → bit_at x k ≡ bit s (m + k)
word_bit_at s m x e k h = rw e (bit_at-from_bits 64 (from m (bit s)) (λ i. bit_lt s (m + i)) k h)
