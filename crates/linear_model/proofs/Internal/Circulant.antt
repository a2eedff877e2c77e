-- Laws of the circulant matrix's rows, byte by byte: a row in two shifted products, each added up by words.
use mathlib.Core.Path.{◌≡◌, refl, sym, ap, ap₂, ◌∙◌}
use mathlib.Core.List.{List}
use Prim.Native.Nat.{ℕ, zero, suc, ◌+◌, ◌-◌, ◌*◌, ◌%◌, ◌<◌, ◌≤◌}
use native.Mathlib.Nat.{mul_comm, mul-zero, mod-eq_of_lt, add-mod_right}
use native.Mathlib.Omega.{arith}
use lib.Bits.{bit_xor, bit_and}
use lib.ListN.{length, take, length-take}
use Rattle.linear_model.specs.Tables.{from, sum}
use Rattle.linear_model.specs.Bits.{bit_at, bit, from_bits}
use Rattle.linear_model.specs.Products.{bit_term, bit_row, circulant}
use Rattle.linear_model.specs.Internal.Words.{shift_term}
use Rattle.linear_model.proofs.NumberBits.{bit_at_lt, and-bit_at, and_bits, bit_at_xor}
use Rattle.linear_model.proofs.Sums.{sum_split, sum_ext, sum_zeros, xor_sums}
use Rattle.linear_model.proofs.Strings.{bit-take, bit_past}
use Rattle.linear_model.proofs.WordBits.{word_bit_at}

-- a number with the modulus added is itself modulo it
pub around_once : (n x : ℕ) → x < n → x ≡ (x + n) % n
around_once n x h = sym (add-mod_right x n ∙ mod-eq_of_lt h)

-- past the first n bytes no bit is set
bit-take_past : (n : ℕ) (s : List ℕ) (j : ℕ) → 8 * n ≤ j → bit (take n s) j ≡ 0
bit-take_past n s j h = bit_past (take n s) j (omega (arith, length-take n s))

-- a row in two parts: the columns from i on, with the key from its start, and the columns before, with the key's end
row_parts : (n : ℕ) (key x : List ℕ) (i : ℕ) → i < 8 * n
    → bit_row n (circulant n key) x i ≡ (sum (8 * n) (shift_term key (take n x) i) + sum (8 * n) (shift_term x (take n key) (8 * n - i))) % 2
row_parts n key x i h =
    let m = 8 * n - i in
    let t = bit_term (circulant n key) x i in
    let f = shift_term key (take n x) i in
    let g = shift_term x (take n key) m in
    let up : sum m (from i t) ≡ sum m f =
    sum_ext m (from i t) f
    (λ j l. ap₂ (λ (u v : ℕ). bit key u * v)
    (ap (λ (u : ℕ). u % (8 * n)) (omega arith) ∙ sym (around_once (8 * n) j (omega arith))) (sym (bit-take n x (i + j) (omega arith))))
    in
    let down : sum i t ≡ sum i g =
    sum_ext i t g
    (λ j l. ap (λ (u : ℕ). u * bit x j)
    (ap (bit key) (mod-eq_of_lt {n = j + 8 * n - i} (omega arith) ∙ omega arith) ∙ sym (bit-take n key (m + j) (omega arith)))
    ∙ mul_comm (bit (take n key) (m + j)) (bit x j))
    in
    let zf : (j : ℕ) → f (m + j) ≡ 0 =
    λ j. ap (λ (u : ℕ). bit key (m + j) * u) (bit-take_past n x (i + (m + j)) (omega arith)) ∙ mul-zero (bit key (m + j))
    in
    let zg : (j : ℕ) → g (i + j) ≡ 0 =
    λ j. ap (λ (u : ℕ). bit x (i + j) * u) (bit-take_past n key (m + (i + j)) (omega arith)) ∙ mul-zero (bit x (i + j))
    in
    let e : 8 * n ≡ i + m = omega arith in
    let e' : 8 * n ≡ m + i = omega arith in
    let whole : sum (8 * n) t ≡ sum i t + sum m (from i t) = ap (λ (k : ℕ). sum k t) e ∙ sum_split i m t in
    let wf : sum (8 * n) f ≡ sum m f = ap (λ (k : ℕ). sum k f) e' ∙ sum_zeros m i f zf in
    let wg : sum (8 * n) g ≡ sum i g = ap (λ (k : ℕ). sum k g) e ∙ sum_zeros i m g zg in
    omega arith

-- a row from the two parts' sums
pub row_sum : (n : ℕ) (key x : List ℕ) (i s u d : ℕ) (a b : List ℕ) → i < 8 * n → s ≡ 8 * n - i → a ≡ take n x → b ≡ take n key
    → u ≡ sum (8 * n) (shift_term key a i) % 2 → d ≡ sum (8 * n) (shift_term x b s) % 2 → bit_xor u d ≡ bit_row n (circulant n key) x i
row_sum n key x i s u d a b h es ea eb eu ed = xor_sums u d _ _ eu ed ∙ rw (es, ea, eb) (sym (row_parts n key x i h))

-- ---- the sum of a shifted product

-- exclusive or adds the counts of set bits modulo 2
count_xor : (k x y : ℕ) → sum k (bit_at (bit_xor x y)) % 2 ≡ (sum k (bit_at x) + sum k (bit_at y)) % 2
unfolding sum
count_xor zero x y = refl
count_xor (suc k) x y = omega (arith, count_xor k x y, bit_at_xor x y k)

-- sixty-four terms more
pub dot_more : (a b : List ℕ) (s w o z x y : ℕ) → o ≡ s + 8 * w → sum 64 (bit_at z) % 2 ≡ sum (8 * w) (shift_term a b s) % 2
    → x ≡ from_bits 64 (from (8 * w) (bit a)) → y ≡ from_bits 64 (from o (bit b))
    → sum 64 (bit_at (bit_xor z (bit_and x y))) % 2 ≡ sum (8 * (w + 8)) (shift_term a b s) % 2
dot_more a b s w o z x y eo ez ex ey =
    let f = shift_term a b s in
    let t : sum 64 (bit_at (bit_and x y)) ≡ sum 64 (from (8 * w) f) =
    sum_ext 64 (bit_at (bit_and x y)) (from (8 * w) f)
    (λ k h. and-bit_at x y k ∙ and_bits (bit_at x k) (bit_at y k) (bit_at_lt x k) (bit_at_lt y k)
    ∙ ap₂ ◌*◌ (word_bit_at a (8 * w) x ex k h) (word_bit_at b o y ey k h ∙ ap (bit b) (omega arith)))
    in
    let r : sum (8 * (w + 8)) f ≡ sum (8 * w) f + sum 64 (from (8 * w) f) =
    ap (λ (m : ℕ). sum m f) (omega arith) ∙ sum_split (8 * w) 64 f
    in
    omega (arith, count_xor 64 z (bit_and x y))

-- where b has ended every term is 0
pub dot_ends : (a b : List ℕ) (p q n w : ℕ) → p ≤ n → length b ≤ n → n - p ≤ w
    → sum (8 * w) (shift_term a b (8 * p + q)) ≡ sum (8 * n) (shift_term a b (8 * p + q))
dot_ends a b p q n w hp hb hw =
    let f = shift_term a b (8 * p + q) in
    let m = 8 * (n - p) in
    let z : (i : ℕ) → f (m + i) ≡ 0 =
    λ i. ap (λ (t : ℕ). bit a (m + i) * t) (bit_past b (8 * p + q + (m + i)) (omega arith)) ∙ mul-zero (bit a (m + i))
    in
    let e : 8 * w ≡ m + (8 * w - m) = omega arith in
    let e' : 8 * n ≡ m + (8 * n - m) = omega arith in
    ap (λ (k : ℕ). sum k f) e ∙ sum_zeros m (8 * w - m) f z ∙ sym (ap (λ (k : ℕ). sum k f) e' ∙ sum_zeros m (8 * n - m) f z)
