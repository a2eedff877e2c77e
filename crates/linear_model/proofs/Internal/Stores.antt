-- Laws of a list that is overwritten by whole words. A word may be stored over bytes that are stored already.
use mathlib.Core.Path.{◌≡◌, refl, sym, ap, ap₂, ◌∙◌}
use mathlib.Core.List.{List}
use mathlib.Core.Logic.{◌≢◌}
use Prim.Native.Nat.{ℕ, zero, suc, ◌+◌, ◌-◌, ◌*◌, ◌/◌, ◌%◌, ◌^◌, ◌<◌, ◌≤◌, min}
use native.Mathlib.Nat.{add-zero}
use native.Mathlib.Decide.{dec_lt}
use native.Mathlib.Omega.{arith}
use lib.Bits.{bit_xor, xor_lt}
use lib.Dec.{lit<}
use lib.ListN.{length, get_or, set, length-set}
use lib.Pow.{shr-shr}
use lib.Seq.{get_or-set_same, get_or-set_other, paste, paste-suc}
use Rattle.linear_model.specs.Tables.{from}
use Rattle.linear_model.specs.Bits.{bit, bit_at, byte_of, from_bits, pack, sum_bit}
use Rattle.linear_model.specs.Trits.{low, high}
use Rattle.linear_model.specs.Internal.Words.{set_half, set_word}
use Rattle.linear_model.specs.Internal.Planes.{PlaneBits}
use Rattle.linear_model.proofs.NumberBits.{from_bits_ext, from_bits_lt, from_bits_of, bit_at_xor}
use Rattle.linear_model.proofs.Strings.{bit-at, bit_lt, byte_is}
use Rattle.linear_model.proofs.WordBits.{word_byte, word_bit_at}
use Rattle.linear_model.proofs.Filling.{Filling, filling_step, filling_all, Planes, planes_step}

-- ---- the bytes of a list with a word stored

length_half : (s : List ℕ) (p x : ℕ) → length (set_half s p x) ≡ length s
unfolding set_half
length_half s p x = simp length-set

pub length_word : (s : List ℕ) (p x : ℕ) → length (set_word s p x) ≡ length s
unfolding set_word
length_word s p x = length_half _ _ _ ∙ length_half _ _ _

module _ (s : List ℕ) (p x : ℕ) where
  abbrev one : List ℕ
  one = set s p (x / 2 ^ 0 % 256)

  abbrev two : List ℕ
  two = set one (p + 1) (x / 2 ^ 8 % 256)

  abbrev three : List ℕ
  three = set two (p + 2) (x / 2 ^ 16 % 256)

  -- a place that no byte is stored at
  half_out : (k : ℕ) → ((j : ℕ) → j < 4 → k ≢ p + j) → get_or (set_half s p x) k 0 ≡ get_or s k 0
  unfolding set_half
  half_out k h =
      get_or-set_other three (p + 3) k (x / 2 ^ 24 % 256) 0 (h 3 (lit< tt)) ∙ get_or-set_other two (p + 2) k (x / 2 ^ 16 % 256) 0 (h 2 (lit< tt))
      ∙ get_or-set_other one (p + 1) k (x / 2 ^ 8 % 256) 0 (h 1 (lit< tt)) ∙ get_or-set_other s p k (x / 2 ^ 0 % 256) 0 (λ e. h 0 (lit< tt) (e ∙ sym (add-zero p)))

  -- byte k of those that are stored
  half_in : (k : ℕ) → p + 4 ≤ length s → k < 4 → get_or (set_half s p x) (p + k) 0 ≡ x / 2 ^ (8 * k) % 256
  unfolding set_half
  half_in zero h l =
      get_or-set_other three (p + 3) (p + 0) (x / 2 ^ 24 % 256) 0 (omega arith) ∙ get_or-set_other two (p + 2) (p + 0) (x / 2 ^ 16 % 256) 0 (omega arith)
      ∙ get_or-set_other one (p + 1) (p + 0) (x / 2 ^ 8 % 256) 0 (omega arith) ∙ ap (λ (j : ℕ). get_or one j 0) (add-zero p)
      ∙ get_or-set_same s p (x / 2 ^ 0 % 256) 0 (omega arith)
  half_in (suc zero) h l =
      get_or-set_other three (p + 3) (p + 1) (x / 2 ^ 24 % 256) 0 (omega arith) ∙ get_or-set_other two (p + 2) (p + 1) (x / 2 ^ 16 % 256) 0 (omega arith)
      ∙ get_or-set_same one (p + 1) (x / 2 ^ 8 % 256) 0 (simp length-set (omega arith))
  half_in (suc (suc zero)) h l =
      get_or-set_other three (p + 3) (p + 2) (x / 2 ^ 24 % 256) 0 (omega arith) ∙ get_or-set_same two (p + 2) (x / 2 ^ 16 % 256) 0 (simp length-set (omega arith))
  half_in (suc (suc (suc zero))) h l = get_or-set_same three (p + 3) (x / 2 ^ 24 % 256) 0 (simp length-set (omega arith))
  half_in (suc (suc (suc (suc k)))) h l = absurd (omega arith)

word_out : (s : List ℕ) (p x k : ℕ) → ((j : ℕ) → j < 8 → k ≢ p + j) → get_or (set_word s p x) k 0 ≡ get_or s k 0
unfolding set_word
word_out s p x k h =
    half_out (set_half s p x) (p + 4) (x / 2 ^ 32) k (λ j l e. h (4 + j) (omega arith) (omega arith)) ∙ half_out s p x k (λ j l. h j (omega arith))

word_in : (s : List ℕ) (p x k : ℕ) → p + 8 ≤ length s → k < 8 → get_or (set_word s p x) (p + k) 0 ≡ x / 2 ^ (8 * k) % 256
unfolding set_word
word_in s p x k h l = pick (dec_lt k 4)
  where
    pick : Dec (k < 4) → get_or (set_half (set_half s p x) (p + 4) (x / 2 ^ 32)) (p + k) 0 ≡ x / 2 ^ (8 * k) % 256
    pick (yes r) = half_out (set_half s p x) (p + 4) (x / 2 ^ 32) (p + k) (λ j q. omega arith) ∙ half_in s p x k (omega arith) r
    pick (no r) =
        let o : p + k ≡ p + 4 + (k - 4) = omega arith in
        let e : 32 + 8 * (k - 4) ≡ 8 * k = omega arith in
        ap (λ (j : ℕ). get_or (set_half (set_half s p x) (p + 4) (x / 2 ^ 32)) j 0) o
        ∙ half_in (set_half s p x) (p + 4) (x / 2 ^ 32) (k - 4) (omega (arith, length_half s p x)) (omega arith)
        ∙ ap (λ (y : ℕ). y % 256) (shr-shr x 32 (8 * (k - 4))) ∙ ap (λ (n : ℕ). x / 2 ^ n % 256) e

-- the bytes of a word of the bits g
word_bytes : (g : ℕ → ℕ) (p x k : ℕ) → ((j : ℕ) → g j < 2) → x ≡ from_bits 64 (from (8 * p) g) → k < 8 → x / 2 ^ (8 * k) % 256 ≡ byte_of g (p + k)
word_bytes g p x k small e l =
    word_byte k x (from (8 * p) g) l (λ j. small (8 * p + j)) e
    ∙ from_bits_ext 8 (from (8 * k) (from (8 * p) g)) (from (8 * (p + k)) g) (λ j _. ap g (omega arith))

stored_byte : (g : ℕ → ℕ) (s : List ℕ) (p o x k : ℕ) → ((j : ℕ) → g j < 2) → x ≡ from_bits 64 (from (8 * p) g) → o + 8 ≤ length s → p ≤ k → k < p + 8
    → get_or (set_word s o x) (o + (k - p)) 0 ≡ byte_of g k
stored_byte g s p o x k small e h a b =
    let t : p + (k - p) ≡ k = omega arith in
    word_in s o x (k - p) h (omega arith) ∙ word_bytes g p x (k - p) small e (omega arith) ∙ ap (byte_of g) t

-- ---- loops that store words

module _ {g : ℕ → ℕ} {d : List ℕ} (small : (j : ℕ) → g j < 2) where
  -- one word more
  pub filling_word : {i : ℕ} {s : List ℕ} (p x : ℕ) → Filling (byte_of g) i d s → p ≤ i → i ≤ p + 8 → p + 8 ≤ length d → x ≡ from_bits 64 (from (8 * p) g)
      → Filling (byte_of g) (p + 8) d (set_word s p x)
  filling_word {i} {s} p x h a b l e =
      filling_step p (p + 8) h a b l (length_word s p x)
      (λ k q r. let o : k ≡ p + (k - p) = omega arith in
      ap (λ (j : ℕ). get_or (set_word s p x) j 0) o ∙ stored_byte g s p p x k small e (omega (arith, h.long)) q r)
      (λ k q. word_out s p x k (λ j r. omega arith)) (λ k q. word_out s p x k (λ j r. omega arith))

  -- where all words are stored
  pub filling_pack : {i : ℕ} {s : List ℕ} → Filling (byte_of g) i d s → length s ≤ i → s ≡ pack (length d) g
  unfolding pack
  filling_pack h l = filling_all h l

-- a word that is not overwritten yet is as it was
pub filling_word_at : {f : ℕ → ℕ} {i : ℕ} {d s : List ℕ} (p x : ℕ) → Filling f i d s → i ≤ p → x ≡ from_bits 64 (from (8 * p) (bit s)) → x ≡ from_bits 64 (from (8 * p) (bit d))
unfolding bit
filling_word_at {f} {i} {d} {s} p x h l e =
    e ∙ from_bits_ext 64 (from (8 * p) (bit s)) (from (8 * p) (bit d))
    (λ k _. ap (λ (y : ℕ). bit_at y ((8 * p + k) % 8)) (h.left ((8 * p + k) / 8) (omega arith)))

-- one word more of each plane
pub planes_word : {m : ℕ} {f : ℕ → ℕ} {d : List ℕ} {i : ℕ} {s : List ℕ} {x y : ℕ} (p : ℕ) → ((j : ℕ) → f j < 4) → Planes m f i d s → p ≤ i → i ≤ p + 8 → p + 8 ≤ m
    → PlaneBits 64 f p x y → Planes m f (p + 8) d (set_word (set_word s p x) (m + p) y)
planes_word {m} {f} {d} {i} {s} {x} {y} p small h a b l e =
    let n = length_word s p x in
    let other : (k : ℕ) → ((j : ℕ) → j < 8 → k ≢ p + j) → ((j : ℕ) → j < 8 → k ≢ m + p + j) → get_or (set_word (set_word s p x) (m + p) y) k 0 ≡ get_or s k 0 =
    λ k u v. word_out (set_word s p x) (m + p) y k v ∙ word_out s p x k u
    in
    planes_step p (p + 8) h a b l (length_word (set_word s p x) (m + p) y ∙ n)
    (λ k q r. let o : k ≡ p + (k - p) = omega arith in
    word_out (set_word s p x) (m + p) y k (λ j z. omega arith) ∙ ap (λ (j : ℕ). get_or (set_word s p x) j 0) o
    ∙ stored_byte (low f) s p p x k (λ j. omega arith) e.low_is (omega (arith, h.room, h.long)) q r)
    (λ k q r. let o : m + k ≡ m + p + (k - p) = omega arith in
    ap (λ (j : ℕ). get_or (set_word (set_word s p x) (m + p) y) j 0) o
    ∙ stored_byte (high f) (set_word s p x) p (m + p) y k (λ j. omega (arith, small j)) e.high_is (omega (arith, n, h.room, h.long)) q r)
    (λ k q. other k (λ j z. omega arith) (λ j z. omega arith)) (λ k q. other (m + k) (λ j z. omega arith) (λ j z. omega arith))
    (λ k q. other k (λ j z. omega arith) (λ j z. omega arith))

-- ---- loops that store two words a turn

-- The words of the turn at place i of n bytes begin at p and q. The last begins eight bytes before the end, if need be within the one before it.
module _ {n i p q : ℕ} (h : 8 ≤ n) (l : i < n) (first : p ≡ min i (n - 8)) (second : q ≡ min (i + 8) (n - 8)) where
  pub filling_turn : {g : ℕ → ℕ} {d s t u : List ℕ} {x y : ℕ} → ((j : ℕ) → g j < 2) → n ≡ length d → Filling (byte_of g) (min i n) d s
      → x ≡ from_bits 64 (from (8 * p) g) → y ≡ from_bits 64 (from (8 * q) g) → t ≡ set_word s p x → u ≡ set_word t q y → Filling (byte_of g) (min (i + 16) n) d u
  filling_turn {x = x} {y = y} small long done ex ey et eu =
      let e : q + 8 ≡ min (i + 16) n = omega arith in
      rw (eu, et, ← e)
      (filling_word small q y (filling_word small p x done (omega arith) (omega arith) (omega arith) ex) (omega arith) (omega arith) (omega arith) ey)

  pub planes_turn : {f : ℕ → ℕ} {d s t u : List ℕ} {v w x y : ℕ} → ((j : ℕ) → f j < 4) → Planes n f (min i n) d s
      → PlaneBits 64 f p v w → PlaneBits 64 f q x y → t ≡ set_word (set_word s p v) (n + p) w → u ≡ set_word (set_word t q x) (n + q) y → Planes n f (min (i + 16) n) d u
  planes_turn small done ep eq et eu =
      let e : q + 8 ≡ min (i + 16) n = omega arith in
      rw (eu, et, ← e)
      (planes_word q small (planes_word p small done (omega arith) (omega arith) (omega arith) ep) (omega arith) (omega arith) (omega arith) eq)

-- ---- sums of strings

-- the exclusive or of words is a word of the sum
pub sum_word : (a b : List ℕ) (o x y : ℕ) → x ≡ from_bits 64 (from o (bit a)) → y ≡ from_bits 64 (from o (bit b)) → bit_xor x y ≡ from_bits 64 (from o (sum_bit a b))
sum_word a b o x y ex ey =
    from_bits_of 64 (bit_xor x y) (from o (sum_bit a b))
    (xor_lt 64 x y (rw ex (from_bits_lt 64 (from o (bit a)) (λ i. bit_lt a (o + i)))) (rw ey (from_bits_lt 64 (from o (bit b)) (λ i. bit_lt b (o + i)))))
    (λ k l. bit_at_xor x y k ∙ ap₂ (λ (s t : ℕ). (s + t) % 2) (word_bit_at a o x ex k l) (word_bit_at b o y ey k l))

-- ---- copies by words

-- i bytes of s are copied into o from place c on; and one byte more
module _ (o : List ℕ) (c : ℕ) (s : List ℕ) (room : c + length s ≤ length o) where
  paste_byte : (i p v : ℕ) → i < length s → p ≡ c + i → v ≡ get_or s i 0 → set (paste o c s i) p v ≡ paste o c s (suc i)
  paste_byte i p v l e f = ap₂ (λ (q w : ℕ). set (paste o c s i) q w) e f ∙ paste-suc o c s i 0 (omega arith) l

  paste_half : (i p x : ℕ) → i + 4 ≤ length s → p ≡ c + i → ((k : ℕ) → k < 4 → x / 2 ^ (8 * k) % 256 ≡ get_or s (i + k) 0)
      → set_half (paste o c s i) p x ≡ paste o c s (i + 4)
  unfolding set_half
  paste_half i p x l e h =
      let v : ℕ → ℕ = λ k. x / 2 ^ (8 * k) % 256 in
      let n : suc (suc (suc (suc i))) ≡ i + 4 = omega arith in
      ap (λ (t : List ℕ). set (set (set t (p + 1) (v 1)) (p + 2) (v 2)) (p + 3) (v 3))
      (paste_byte i p (v 0) (omega arith) e (h 0 (lit< tt) ∙ ap (λ (k : ℕ). get_or s k 0) (add-zero i)))
      ∙ ap (λ (t : List ℕ). set (set t (p + 2) (v 2)) (p + 3) (v 3))
      (paste_byte (suc i) (p + 1) (v 1) (omega arith) (omega arith) (h 1 (lit< tt) ∙ ap (λ (k : ℕ). get_or s k 0) (omega arith)))
      ∙ ap (λ (t : List ℕ). set t (p + 3) (v 3))
      (paste_byte (suc (suc i)) (p + 2) (v 2) (omega arith) (omega arith) (h 2 (lit< tt) ∙ ap (λ (k : ℕ). get_or s k 0) (omega arith)))
      ∙ paste_byte (suc (suc (suc i))) (p + 3) (v 3) (omega arith) (omega arith) (h 3 (lit< tt) ∙ ap (λ (k : ℕ). get_or s k 0) (omega arith))
      ∙ ap (paste o c s) n

  -- a word more
  pub paste_word : (i x : ℕ) → ((k : ℕ) → get_or s k 0 < 256) → i + 8 ≤ length s → x ≡ from_bits 64 (from (8 * i) (bit s))
      → set_word (paste o c s i) (c + i) x ≡ paste o c s (i + 8)
  unfolding set_word
  paste_word i x small l e =
      let byte : (k : ℕ) → k < 8 → x / 2 ^ (8 * k) % 256 ≡ get_or s (i + k) 0 =
      λ k r. word_bytes (bit s) i x k (bit_lt s) e r ∙ sym (byte_is (bit s) (i + k) (get_or s (i + k) 0) (small (i + k)) (λ j q. sym (bit-at s (i + k) j q)))
      in
      ap (λ (t : List ℕ). set_half t (c + i + 4) (x / 2 ^ 32)) (paste_half i (c + i) x (omega arith) refl (λ k r. byte k (omega arith)))
      ∙ paste_half (i + 4) (c + i + 4) (x / 2 ^ 32) (omega arith) (omega arith)
      (λ k r. let a : 32 + 8 * k ≡ 8 * (4 + k) = omega arith in let b : i + (4 + k) ≡ i + 4 + k = omega arith in
      ap (λ (y : ℕ). y % 256) (shr-shr x 32 (8 * k)) ∙ ap (λ (n : ℕ). x / 2 ^ n % 256) a ∙ byte (4 + k) (omega arith) ∙ ap (λ (n : ℕ). get_or s n 0) b)
      ∙ ap (paste o c s) (let n : i + 4 + 4 ≡ i + 8 = omega arith in n)
