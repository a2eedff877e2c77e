-- Laws of a matrix of trits whose rows stand one after the other.
use mathlib.Core.Path.{◌≡◌, sym, ap, ◌∙◌}
use mathlib.Core.List.{List}
use mathlib.Core.Bool.{Bool, cond}
use Prim.Native.Nat.{ℕ, suc, ◌+◌, ◌-◌, ◌*◌, ◌/◌, ◌%◌, ◌<◌, ◌≤◌, min}
use native.Mathlib.Nat.{mul-zero, zero-add, mul-add, le_trans, le_of_eq, mul-le-mul_left, mul-div-le}
use native.Mathlib.Decide.{dec_lt}
use native.Mathlib.Omega.{arith}
use lib.Dec.{ltb}
use lib.Pow.{pow_mono}
use lib.ListN.{length, drop, drop_of_length-le}
use lib.Seq.{drop-drop, drop-length}
use borrow.Author.Tests.{lt-ltb, le-ltb}
use Rattle.linear_model.specs.Tables.{below, from}
use Rattle.linear_model.specs.Bits.{bit, from_bits}
use Rattle.linear_model.specs.Trits.{low, high}
use Rattle.linear_model.specs.Products.{row_product, row_digit}
use Rattle.linear_model.specs.Internal.Planes.{PlaneBits}
use Rattle.linear_model.proofs.NumberBits.{from_bits_ext, from_bits-front, from_bits_lt, from_bits-zeros}
use Rattle.linear_model.proofs.Strings.{bit-drop}

-- a cut past the end is a cut at the end
drop_min : (k : ℕ) (l : List ℕ) → drop (min k (length l)) l ≡ drop k l
drop_min k l = go (dec_lt k (length l))
  where
    go : Dec (k < length l) → drop (min k (length l)) l ≡ drop k l
    go (yes h) =
        let e : min k (length l) ≡ k = omega arith in
        rw e
    go (no h) =
        let e : min k (length l) ≡ length l = omega arith in
        rw (e, drop-length, drop_of_length-le l {i = k} (omega arith))

-- below t, counted from q on
less_from : (t q k : ℕ) → ltb k (t - q) ≡ ltb (q + k) t
less_from t q k = go (dec_lt k (t - q))
  where
    go : Dec (k < t - q) → ltb k (t - q) ≡ ltb (q + k) t
    go (yes h) = lt-ltb k (t - q) h ∙ sym (lt-ltb (q + k) t (omega arith))
    go (no h) = le-ltb k (t - q) (omega arith) ∙ sym (le-ltb (q + k) t (omega arith))

-- the rows from row q on are the rows of a matrix
matrix-from : (m t : ℕ) (rows v : List ℕ) (q k : ℕ) → below (t - q) (row_digit m (drop (2 * m * q) rows) v) k ≡ below t (row_digit m rows v) (q + k)
matrix-from m t rows v q k =
    let e : 2 * m * q + 2 * m * k ≡ 2 * m * (q + k) = omega arith in
    rw (less_from t q k, drop-drop, e)

-- row q, where `at` is its place and `left` the number of rows from it on
pub row_is : (m t : ℕ) (rows v : List ℕ) (q at left k : ℕ) → at ≡ min (2 * m * q) (length rows) → left ≡ t - q
    → below left (row_digit m (drop at rows) v) k ≡ below t (row_digit m rows v) (q + k)
row_is m t rows v q at left k p e = rw (p, e, drop_min) (matrix-from m t rows v q k)

-- the first row
pub matrix-first : (m t : ℕ) (rows v : List ℕ) → 0 < t → row_product m rows v ≡ below t (row_digit m rows v) 0
matrix-first m t rows v h = rw (lt-ltb 0 t h, mul-zero)

-- no rows
pub matrix-none : (m t : ℕ) (rows v : List ℕ) → t ≤ 0 → 0 ≡ below t (row_digit m rows v) 0
matrix-none m t rows v h = rw (le-ltb 0 t h)

-- ---- rows by words

-- a word of a row that starts at byte `at`
pub word_drop : (s : List ℕ) (at j o x : ℕ) → o ≡ at + j → x ≡ from_bits 64 (from (8 * o) (bit s)) → x ≡ from_bits 64 (from (8 * j) (bit (drop at s)))
word_drop s at j o x e p =
    p ∙ from_bits_ext 64 (from (8 * o) (bit s)) (from (8 * j) (bit (drop at s)))
    (λ k _. ap (bit s) (omega arith) ∙ sym (bit-drop at s (8 * j + k)))

-- row q of those from byte `at` on
pub row_at : (m t at : ℕ) (rows v : List ℕ) (q : ℕ) → q < t → row_product m (drop (at + 2 * m * q) rows) v ≡ below t (row_digit m (drop at rows) v) q
row_at m t at rows v q h = rw (lt-ltb q t h, drop-drop)

-- one row of s bytes back
pub row_back : (s q : ℕ) → 0 < q → s * q ≡ s * (q - 1) + s
row_back s q h =
    let e : q ≡ suc (q - 1) = omega arith in
    ap (λ (z : ℕ). s * z) e ∙ omega arith

-- the bits of the rows from q on, last first
module _ (t : ℕ) (g : ℕ → ℕ) where
  pub bits_more : (q x b : ℕ) → 0 < q → q ≤ t → x ≡ from_bits (t - q) (from q g) → b ≡ g (q - 1) → 2 * x + b ≡ from_bits (t - (q - 1)) (from (q - 1) g)
  bits_more q x b h l e p =
      let s : t - (q - 1) ≡ suc (t - q) = omega arith in
      let o : suc (q - 1) ≡ q = omega arith in
      rw (s, from_bits-front (t - q) (q - 1) g, o, ← e, ← p) (omega arith)

  pub bits_small : (q x : ℕ) → ((i : ℕ) → g i < 2) → t ≤ 8 → 0 < q → x ≡ from_bits (t - q) (from q g) → x < 128
  bits_small q x b h l e = omega (arith, from_bits_lt (t - q) (from q g) (λ i. b (q + i)), pow_mono {i = t - q} {j = 7} (omega arith))

  pub bits_byte : (x : ℕ) → ((i : ℕ) → g i < 2) → t ≤ 8 → x ≡ from_bits t (from 0 g) → x < 256
  bits_byte x b h e = omega (arith, from_bits_lt t (from 0 g) (λ i. b (0 + i)), pow_mono {i = t} {j = 8} (omega arith))

  pub bits_all : (x : ℕ) → ((i : ℕ) → g (t + i) ≡ 0) → t ≤ 8 → x ≡ from_bits t (from 0 g) → x ≡ from_bits 8 (from 0 g)
  bits_all x z h e =
      let s : t + (8 - t) ≡ 8 = omega arith in
      e ∙ sym (rw s at (from_bits-zeros t (8 - t) (from 0 g) (λ i. ap g (zero-add (t + i)) ∙ z i)))

-- eight of the rows are all that eight bits show
pub below-min : (t : ℕ) (f : ℕ → ℕ) (x y : ℕ) → PlaneBits 8 (below (min t 8) f) 0 x y → PlaneBits 8 (below t f) 0 x y
below-min t f x y r =
    record {
      low_is = r.low_is ∙ from_bits_ext 8 (from 0 (low (below (min t 8) f))) (from 0 (low (below t f))) (λ k l. ap (λ (d : ℕ). d % 2) (same k l));
      high_is = r.high_is ∙ from_bits_ext 8 (from 0 (high (below (min t 8) f))) (from 0 (high (below t f))) (λ k l. ap (λ (d : ℕ). d / 2) (same k l));
    }
  where
    same : (k : ℕ) → k < 8 → below (min t 8) f (0 + k) ≡ below t f (0 + k)
    same k l = ap (λ (b : Bool). cond b (f (0 + k)) 0) (go (dec_lt k t))
      where
        go : Dec (k < t) → ltb (0 + k) (min t 8) ≡ ltb (0 + k) t
        go (yes h) = lt-ltb (0 + k) (min t 8) (omega arith) ∙ sym (lt-ltb (0 + k) t (omega arith))
        go (no h) = le-ltb (0 + k) (min t 8) (omega arith) ∙ sym (le-ltb (0 + k) t (omega arith))

-- ---- eight rows at a time: of t rows with s bytes, those before row 8p are behind byte `at`, and c more are taken
module _ (s t p at c : ℕ) (here : at ≡ s * min (8 * p) t) (some : c ≡ min (t - 8 * p) 8) where
  pub rows_next : at + s * c ≡ s * min (8 * (p + 1)) t
  rows_next =
      let e : min (8 * p) t + c ≡ min (8 * (p + 1)) t = omega arith in
      rw (here, ← mul-add s (min (8 * p) t) c, e)

  pub rows_there : (n : ℕ) → s * t ≤ n → at + s * c ≤ n
  rows_there n h = le_trans (le_of_eq rows_next) (le_trans (mul-le-mul_left s (omega arith)) h)

pub rows_start : (s t : ℕ) → 0 ≡ s * min (8 * 0) t
rows_start s t =
    let e : min (8 * 0) t ≡ 0 = omega arith in
    rw (e, mul-zero)

-- the rows from row q on
pub rows_from_lem : (m t : ℕ) (rows v : List ℕ) (q at left k : ℕ) → 2 * m * t ≤ length rows → at ≡ 2 * m * min q t → left ≡ t - q
    → below left (row_digit m (drop at rows) v) k ≡ below t (row_digit m rows v) (q + k)
rows_from_lem m t rows v q at left k h ea el = go (dec_lt q t)
  where
    go : Dec (q < t) → below left (row_digit m (drop at rows) v) k ≡ below t (row_digit m rows v) (q + k)
    go (yes l) =
        let e : min q t ≡ q = omega arith in
        let i : at ≡ 2 * m * q = rw e at ea in
        let f : at ≤ length rows = le_trans (le_of_eq i) (le_trans (mul-le-mul_left (2 * m) (omega arith)) h) in
        let w : at ≡ min (2 * m * q) (length rows) = omega arith in
        row_is m t rows v q at left k w el
    go (no l) = rw (le-ltb k left (omega arith), le-ltb (q + k) t (omega arith))

-- as many rows as a matrix of n bytes has are there
pub rows_fit : (s t n : ℕ) → t ≤ n / s → s * t ≤ n
rows_fit s t n h = le_trans (mul-le-mul_left s h) (mul-div-le n s)
