-- The circulant product by words: lists of words that loops overwrite, and the sums that they come to.
use Rattle.std.specs.Prelude.{ℕ, ◌+◌, ◌-◌, ◌*◌, ◌/◌, ◌%◌, ◌^◌, ◌<◌, ◌≤◌, ◌≡◌, List, length, get_or, set}
use Rattle.std.specs.Int.Bits.{bit_xor, bit_and, bit_or}
use Rattle.linear_model.specs.Tables.{from, sum}
use Rattle.linear_model.specs.Bits.{bit_at, bit, from_bits}

-- all f i are bits
abbrev pub Bits : (ℕ → ℕ) → Type 0
Bits f = (i : ℕ) → f i < 2

-- the first n elements of l are the words of the bits f
abbrev pub Words : (ℕ → ℕ) → ℕ → List ℕ → Type 0
Words f n l = (j : ℕ) → j < n → get_or l j 0 ≡ from_bits 64 (from (64 * j) f)

-- d has become l: elements o to o + n − 1 are g 0, g 1, .. g (n − 1), and the others are as they were
pub record Overwritten (g : ℕ → ℕ) (o n : ℕ) (d l : List ℕ) : Type 0 where
  pub long : length l ≡ length d
  pub at : (j : ℕ) → j < n → get_or l (o + j) 0 ≡ g j
  pub before : (j : ℕ) → j < o → get_or l j 0 ≡ get_or d j 0
  pub after : (j : ℕ) → o + n ≤ j → get_or l j 0 ≡ get_or d j 0

-- word j of the bits f
abbrev pub word_of : (ℕ → ℕ) → ℕ → ℕ
word_of f j = from_bits 64 (from (64 * j) f)

-- d with its first element again at place w
abbrev pub closed : ℕ → List ℕ → List ℕ
closed w d = set d w (get_or d 0 0)

-- element j shifted right by n, with the lowest n bits of the next shifted in at the top
abbrev pub rotated_at : ℕ → List ℕ → ℕ → ℕ
rotated_at n d j = bit_or (get_or d j 0 / 2 ^ n) (get_or d (j + 1) 0 * 2 ^ (64 - n) % 2 ^ 64)

-- element j, to which element o + j of l is added under the mask m
abbrev pub added_at : List ℕ → List ℕ → ℕ → ℕ → ℕ → ℕ
added_at d l o m j = bit_xor (get_or d j 0) (bit_and m (get_or l (o + j) 0))

-- bit q of element a of k, in all places
abbrev pub mask_at : List ℕ → ℕ → ℕ → ℕ
mask_at k q a = bit_at (get_or k a 0) q * 0xffffffffffffffff

-- m has the masks of bits q + r of k's first w elements, r below p: those of r from element 8r on
abbrev pub Masks : List ℕ → ℕ → ℕ → ℕ → List ℕ → Type 0
Masks k q w p m = (r : ℕ) → r < p → (a : ℕ) → a < w → get_or m (8 * r + a) 0 ≡ mask_at k (q + r) a

-- bit i of the words of l from 17r + a on, under element 8r + a of m
abbrev pub mask_term : List ℕ → List ℕ → ℕ → ℕ → ℕ → ℕ
mask_term m l r i a = bit_at (get_or m (8 * r + a) 0) (i % 64) * bit_at (get_or l (17 * r + a + i / 64) 0) (i % 64)

-- bit i of f, to which these are added for a below n
abbrev pub added : ℕ → (ℕ → ℕ) → List ℕ → List ℕ → ℕ → ℕ → ℕ
added n f m l r i = (f i + sum n (mask_term m l r i)) % 2

-- d has become acc, to which the words of l from 17r on are added under the masks from 8r on
pub record Added (w : ℕ) (m l : List ℕ) (r : ℕ) (d acc : List ℕ) : Type 0 where
  pub long : length acc ≡ 9
  pub words : ((a : ℕ) → a < w → get_or m (8 * r + a) 0 < 2 ^ 64) → (f : ℕ → ℕ) → Bits f → Words f w d → Words (added w f m l r) w acc

-- bit i of f, to which these are added for each r below p
abbrev pub added_row : ℕ → List ℕ → List ℕ → ℕ → ℕ → ℕ
added_row w m l i r = sum w (mask_term m l r i)

abbrev pub added_rows : ℕ → ℕ → (ℕ → ℕ) → List ℕ → List ℕ → ℕ → ℕ
added_rows w p f m l i = (f i + sum p (added_row w m l i)) % 2

-- d has become acc, to which all of these are added
pub record AddedRows (w p : ℕ) (m l d acc : List ℕ) : Type 0 where
  pub long : length acc ≡ 9
  pub words : ((r : ℕ) → r < p → (a : ℕ) → a < w → get_or m (8 * r + a) 0 < 2 ^ 64) → (f : ℕ → ℕ) → Bits f → Words f w d
      → Words (added_rows w p f m l) w acc

-- bit i of the words of l from 17r + a on, times bit q + r of element a of k, and these added up for all a below w
abbrev pub key_term : List ℕ → List ℕ → ℕ → ℕ → ℕ → ℕ → ℕ
key_term k l q i r a = bit_at (get_or k a 0) (q + r) * bit_at (get_or l (17 * r + a + i / 64) 0) (i % 64)

abbrev pub key_row : ℕ → List ℕ → List ℕ → ℕ → ℕ → ℕ → ℕ
key_row w k l q i r = sum w (key_term k l q i r)

-- bit i of f rotated right by p, to which these are added for each r below p
abbrev pub stepped : ℕ → ℕ → (ℕ → ℕ) → List ℕ → List ℕ → ℕ → ℕ → ℕ
stepped w p f k l q i = (f (p + i) + sum p (key_row w k l q i)) % 2

-- d has become acc: the words of bits that come round after w words are rotated, and these are added
pub record Stepped (w p : ℕ) (k l : List ℕ) (q : ℕ) (d acc : List ℕ) : Type 0 where
  pub long : length acc ≡ 9
  pub words : (f : ℕ → ℕ) → Bits f → ((i : ℕ) → f (i + 64 * w) ≡ f i) → Words f w d → Words (stepped w p f k l q) w acc

-- bit j of x, counted around its 8n bits
abbrev pub around : ℕ → List ℕ → ℕ → ℕ
around n x j = bit x (j % (8 * n))

-- l has n words of the bits f rotated right by r, for each r below p: those of r from element 17r on
abbrev pub Rows : (ℕ → ℕ) → ℕ → ℕ → List ℕ → Type 0
Rows f n p l = (r : ℕ) → r < p → (j : ℕ) → j < n → get_or l (17 * r + j) 0 ≡ word_of (from r f) j

-- k has the words of the key's bits, and l, twice over, those of the label's, which come round after w words, and of its rotations
pub record Factors (w p : ℕ) (key label : ℕ → ℕ) (k l : List ℕ) : Type 0 where
  pub key_bits : Bits key
  pub label_bits : Bits label
  pub again : (j : ℕ) → label (j + 64 * w) ≡ label j
  pub key_words : Words key w k
  pub label_rows : Rows label (2 * w) p l

-- the key's bit 64a + q + r times the label's bit i + 64a + r, and these added up for all words a of the key
abbrev pub horner_term : (ℕ → ℕ) → (ℕ → ℕ) → ℕ → ℕ → ℕ → ℕ → ℕ
horner_term key label q i r a = key (64 * a + (q + r)) * label (i + (64 * a + r))

abbrev pub horner_column : ℕ → (ℕ → ℕ) → (ℕ → ℕ) → ℕ → ℕ → ℕ → ℕ
horner_column w key label q i r = sum w (horner_term key label q i r)

-- bit i of the sum over the key's bits 64a + q + r, r below p
abbrev pub horner : ℕ → (ℕ → ℕ) → (ℕ → ℕ) → ℕ → ℕ → ℕ → ℕ
horner w key label q p i = sum p (horner_column w key label q i) % 2

-- acc has the words of the product
abbrev pub Multiplied : ℕ → ℕ → List ℕ → List ℕ → List ℕ → Type 0
Multiplied w p k l acc = (key label : ℕ → ℕ) → Factors w p key label k l → Words (horner w key label 0 64) w acc

-- ---- one word

-- bit i of the circulant product of two words
abbrev pub word_term : ℕ → ℕ → ℕ → ℕ → ℕ
word_term k x i j = bit_at k j * bit_at x ((i + j) % 64)

abbrev pub word_product : ℕ → ℕ → ℕ → ℕ
word_product k x i = sum 64 (word_term k x i) % 2

-- bit i of all quarters of a word added up
abbrev pub quarters_bit : ℕ → ℕ → ℕ
quarters_bit x i = (bit_at x i + bit_at x (16 + i) + bit_at x (32 + i) + bit_at x (48 + i)) % 2
