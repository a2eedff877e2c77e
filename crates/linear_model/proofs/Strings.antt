-- Laws of bit strings in bytes, for any number of bytes: an identity of sums goes bit by bit.
use mathlib.Core.Path.{◌≡◌, refl, sym, ap, ap₂, ◌∙◌}
use mathlib.Core.List.{List, [], ◌∷◌, ◌++◌}
use Prim.Native.Nat.{ℕ, zero, suc, ◌+◌, ◌*◌, ◌/◌, ◌%◌, ◌<◌, ◌≤◌}
use native.Mathlib.Nat.{mod-add-mod, add-mod-mod}
use native.Mathlib.Omega.{arith}
use lib.Bits.{bit_xor, xor_lt}
use lib.Dec.{lit<}
use lib.ListN.{length, get_or, take, drop, length-drop, length-append, get_or-append, get_or-eq_default}
use lib.Seq.{ext_get_or, get_or-append-add, get_or-drop, get_or-take, length-take-le}
use Rattle.linear_model.specs.Bits.{Bytes, zeros, bit_at, bit, byte_of, pack, sum_bit, add_bits}
use Rattle.linear_model.proofs.Tables.{length-tabulate, get_d_tabulate, tabulate_ext, small-tabulate}
use Rattle.linear_model.proofs.NumberBits.{from_bits_ext, from_bits_lt, from_bits_of, bit_at-from_bits, bit_at_zero, bit_at_xor}

-- ---- single bits

-- a bit is below 2
pub bit_lt : (s : List ℕ) (j : ℕ) → bit s j < 2
unfolding bit
bit_lt s j = omega arith

-- bit 8i + k of a string is bit k of its byte i
pub bit-at : (s : List ℕ) (i k : ℕ) → k < 8 → bit s (8 * i + k) ≡ bit_at (get_or s i 0) k
unfolding bit
bit-at s i k h = ap₂ (λ (j l : ℕ). bit_at (get_or s j 0) l) (omega arith) (omega arith)

-- past the end no bit is set
pub bit_past : (s : List ℕ) (j : ℕ) → 8 * length s ≤ j → bit s j ≡ 0
unfolding bit
bit_past s j h = rw (get_or-eq_default s 0 {n = j / 8} (omega arith)) (bit_at_zero (j % 8))

-- the bits of the first n bytes
pub bit-take : (n : ℕ) (s : List ℕ) (j : ℕ) → j < 8 * n → bit (take n s) j ≡ bit s j
unfolding bit
bit-take n s j h = rw (get_or-take n s (j / 8) 0 (omega arith))

-- the bits from byte k on
pub bit-drop : (k : ℕ) (s : List ℕ) (j : ℕ) → bit (drop k s) j ≡ bit s (8 * k + j)
unfolding bit
bit-drop k s j =
    ap (λ (x : ℕ). bit_at x (j % 8)) (get_or-drop k s (j / 8) 0)
    ∙ ap₂ (λ (x y : ℕ). bit_at (get_or s x 0) y) (omega arith) (omega arith)

-- ---- strings that are packed

-- a byte is byte i of the string of bits f where its bits are
pub byte_is : (f : ℕ → ℕ) (i x : ℕ) → x < 256 → ((k : ℕ) → k < 8 → bit_at x k ≡ f (8 * i + k)) → x ≡ byte_of f i
byte_is f i x h e = from_bits_of 8 x (λ k. f (8 * i + k)) h e

-- strings of bits that agree below 8n have the same n bytes
pub pack_ext : (n : ℕ) (f g : ℕ → ℕ) → ((j : ℕ) → j < 8 * n → f j ≡ g j) → pack n f ≡ pack n g
unfolding pack
pack_ext n f g e =
    tabulate_ext n (byte_of f) (byte_of g)
    (λ i h. from_bits_ext 8 (λ k. f (8 * i + k)) (λ k. g (8 * i + k)) (λ k l. e (8 * i + k) (omega arith)))

pub length-pack : (n : ℕ) (f : ℕ → ℕ) → length (pack n f) ≡ n
unfolding pack
length-pack n f = length-tabulate n (byte_of f)

-- bit j of n packed bytes
pub bit-pack : (n : ℕ) (f : ℕ → ℕ) → ((j : ℕ) → f j < 2) → (j : ℕ) → j < 8 * n → bit (pack n f) j ≡ f j
unfolding pack bit
bit-pack n f b j h =
    ap (λ (x : ℕ). bit_at x (j % 8)) (get_d_tabulate n (byte_of f) (j / 8) (omega arith))
    ∙ bit_at-from_bits 8 (λ k. f (8 * (j / 8) + k)) (λ k. b (8 * (j / 8) + k)) (j % 8) (omega arith)
    ∙ ap f (omega arith)

-- a string of n bytes is the pack of its bits
pub pack_bits : (n : ℕ) (s : List ℕ) → Bytes n s → pack n (bit s) ≡ s
unfolding pack
pack_bits n s b =
    ext_get_or 0 (pack n (bit s)) s (length-pack n (bit s) ∙ sym b.size)
    (λ i h. get_d_tabulate n (byte_of (bit s)) i (rw (length-pack n (bit s)) at h)
    ∙ sym (byte_is (bit s) i (get_or s i 0) (b.small i) (λ k l. sym (bit-at s i k l))))

-- so a byte string is determined by its bits
pub string_ext : (n : ℕ) (s t : List ℕ) → Bytes n s → Bytes n t → ((j : ℕ) → j < 8 * n → bit s j ≡ bit t j) → s ≡ t
string_ext n s t hs ht e = sym (pack_bits n s hs) ∙ pack_ext n (bit s) (bit t) e ∙ pack_bits n t ht

-- ---- strings of n bytes

pub bytes_pack : (n : ℕ) (f : ℕ → ℕ) → ((j : ℕ) → f j < 2) → Bytes n (pack n f)
unfolding pack
bytes_pack n f h =
    record {
      size = length-pack n f;
      small = small-tabulate 256 n (byte_of f) (lit< tt) (λ i. from_bits_lt 8 (λ k. f (8 * i + k)) (λ k. h (8 * i + k)));
    }

small-take : (n : ℕ) (s : List ℕ) → ((i : ℕ) → get_or s i 0 < 256) → (i : ℕ) → get_or (take n s) i 0 < 256
small-take zero s h i = lit< tt
small-take (suc n) [] h i = lit< tt
small-take (suc n) (x ∷ s) h zero = h 0
small-take (suc n) (x ∷ s) h (suc i) = small-take n s (λ j. h (suc j)) i

-- n bytes from byte k on
pub bytes_slice : (N k n : ℕ) (s : List ℕ) → Bytes N s → k + n ≤ N → Bytes n (take n (drop k s))
bytes_slice N k n s h l =
    record {
      size = length-take-le n (drop k s) (rw length-drop (omega (arith, h.size)));
      small = small-take n (drop k s) (λ i. rw get_or-drop (h.small (k + i)));
    }

small_append : (a b : List ℕ) → ((i : ℕ) → get_or a i 0 < 256) → ((i : ℕ) → get_or b i 0 < 256) → (i : ℕ) → get_or (a ++ b) i 0 < 256
small_append [] b ha hb i = hb i
small_append (x ∷ a) b ha hb zero = ha 0
small_append (x ∷ a) b ha hb (suc i) = small_append a b (λ j. ha (suc j)) hb i

pub bytes_append : {n k : ℕ} {a b : List ℕ} → Bytes n a → Bytes k b → Bytes (n + k) (a ++ b)
bytes_append {a = a} {b = b} ha hb =
    record { size = rw (length-append, ha.size, hb.size); small = small_append a b ha.small hb.small }

-- every byte of a string of zeros is 0
pub get_d_zeros : (n i : ℕ) → get_or (zeros n) i 0 ≡ 0
get_d_zeros zero i = refl
get_d_zeros (suc n) zero = refl
get_d_zeros (suc n) (suc i) = get_d_zeros n i

pub length-zeros : (n : ℕ) → length (zeros n) ≡ n
length-zeros zero = refl
length-zeros (suc n) = ap suc (length-zeros n)

pub bytes_zeros : (n : ℕ) → Bytes n (zeros n)
bytes_zeros n = record { size = length-zeros n; small = λ i. rw (get_d_zeros n i) (lit< tt) }

-- a string of zeros has no bit set
pub bit-zeros : (n j : ℕ) → bit (zeros n) j ≡ 0
unfolding bit
bit-zeros n j = rw (get_d_zeros n (j / 8)) (bit_at_zero (j % 8))

-- the bits of two strings in a row
module _ (n : ℕ) where
  pub bit_append_left : (a b : List ℕ) → length a ≡ n → (j : ℕ) → j < 8 * n → bit (a ++ b) j ≡ bit a j
  unfolding bit
  bit_append_left a b e j l = ap (λ (x : ℕ). bit_at x (j % 8)) (get_or-append a b 0 (j / 8) (omega arith))

  pub bit_append_right : (a b : List ℕ) → length a ≡ n → (j : ℕ) → bit (a ++ b) (8 * n + j) ≡ bit b j
  unfolding bit
  bit_append_right a b e j =
      ap₂ (λ (x y : ℕ). bit_at (get_or (a ++ b) x 0) y) (omega arith) (omega arith)
      ∙ ap (λ (x : ℕ). bit_at x (j % 8)) (get_or-append-add a b (j / 8) 0)

-- ---- sums modulo 2

-- byte i of the sum is the exclusive or of the two bytes
pub sum_byte : (a b : List ℕ) (i x y : ℕ) → x ≡ get_or a i 0 → y ≡ get_or b i 0 → x < 256 → y < 256 → bit_xor x y ≡ byte_of (sum_bit a b) i
sum_byte a b i x y p q hx hy =
    byte_is (sum_bit a b) i (bit_xor x y) (xor_lt 8 x y hx hy)
    (λ k h. bit_at_xor x y k ∙ rw (bit-at a i k h, bit-at b i k h, p, q))

module _ (n : ℕ) where
  pub bit_add : (a b : List ℕ) (j : ℕ) → j < 8 * n → bit (add_bits n a b) j ≡ (bit a j + bit b j) % 2
  unfolding add_bits
  bit_add a b = bit-pack n (sum_bit a b) (λ j. omega arith)

  pub bytes_add : (a b : List ℕ) → Bytes n (add_bits n a b)
  unfolding add_bits
  bytes_add a b = bytes_pack n (sum_bit a b) (λ j. omega arith)

  -- two sums are equal where their bits add to the same
  pub add_ext : (a b c d : List ℕ) → ((j : ℕ) → j < 8 * n → (bit a j + bit b j) % 2 ≡ (bit c j + bit d j) % 2) → add_bits n a b ≡ add_bits n c d
  unfolding add_bits
  add_ext a b c d = pack_ext n (sum_bit a b) (sum_bit c d)

  -- a sum is a string of n bytes where its bits are
  pub add_is : (a b c : List ℕ) → Bytes n c → ((j : ℕ) → j < 8 * n → (bit a j + bit b j) % 2 ≡ bit c j) → add_bits n a b ≡ c
  unfolding add_bits
  add_is a b c h e = pack_ext n (sum_bit a b) (bit c) e ∙ pack_bits n c h

-- what `simp` needs to make a sum of bits of a bit of sums
pub ruleset bitwise = (bit_add, mod-add-mod, add-mod-mod)

module _ (n : ℕ) where
  pub add_comm : (a b : List ℕ) → add_bits n a b ≡ add_bits n b a
  add_comm a b = add_ext n a b b a (λ j l. omega arith)

  pub add_assoc : (a b c : List ℕ) → add_bits n (add_bits n a b) c ≡ add_bits n a (add_bits n b c)
  add_assoc a b c = add_ext n (add_bits n a b) c a (add_bits n b c) (λ j l. simp bitwise (omega arith))

  -- (a + b) + (c + d) is (a + c) + (b + d)
  pub add_cross : (a b c d : List ℕ) → add_bits n (add_bits n a b) (add_bits n c d) ≡ add_bits n (add_bits n a c) (add_bits n b d)
  add_cross a b c d = add_ext n (add_bits n a b) (add_bits n c d) (add_bits n a c) (add_bits n b d) (λ j l. simp bitwise (omega arith))

  -- zeros add nothing
  pub add_zeros : (a : List ℕ) → Bytes n a → add_bits n a (zeros n) ≡ a
  add_zeros a h = add_is n a (zeros n) a h (λ j l. rw (bit-zeros n j) (omega (arith, bit_lt a j)))

  -- a sum added twice is gone
  pub add_twice : (a b : List ℕ) → Bytes n a → add_bits n (add_bits n a b) b ≡ a
  add_twice a b h = add_is n (add_bits n a b) b a h (λ j l. simp bitwise (omega (arith, bit_lt a j, bit_lt b j)))

  -- a string added to itself is zeros
  pub add_self : (a : List ℕ) → add_bits n a a ≡ zeros n
  add_self a = add_is n a a (zeros n) (bytes_zeros n) (λ j l. rw (bit-zeros n j) (omega arith))
