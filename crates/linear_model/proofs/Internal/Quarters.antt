-- Laws of the circulant product of one word: bits q, 16 + q, 32 + q and 48 + q of the key in one mask, a quarter of the word each.
use mathlib.Core.Path.{◌≡◌, refl, sym, ap, ap₂, ◌∙◌}
use mathlib.Core.List.{List, [], ◌∷◌}
use mathlib.Core.Bool.{Bool}
use Prim.Native.Nat.{ℕ, zero, suc, ◌+◌, ◌-◌, ◌*◌, ◌/◌, ◌%◌, ◌^◌, ◌<◌, ◌≤◌}
use native.Mathlib.Nat.{zero-add, mod-lt, mod-eq_of_lt, add-mod_right, mod-add-mod}
use native.Mathlib.Decide.{dec_lt}
use native.Mathlib.Omega.{arith}
use lib.Bits.{bit_xor, bit_and, bit_or, xor_lt, and_le_r, and_block, and_mask}
use lib.Dec.{eqb, lit<}
use lib.ListN.{length, get_or, set}
use lib.Pow.{pow_pos, shr-shr}
use lib.Seq.{get_or-set_same}
use Rattle.linear_model.specs.Tables.{from, sum, every}
use Rattle.linear_model.specs.Bits.{bit_at, bit, from_bits}
use Rattle.linear_model.specs.Products.{circulant_product}
use Rattle.linear_model.specs.Internal.Words.{set_word}
use Rattle.linear_model.specs.Internal.Rotations.{Words, Overwritten, around, word_of, horner_column, horner, Multiplied, word_term, word_product, quarters_bit}
use Rattle.linear_model.proofs.Tables.{every-at, same₁}
use Rattle.linear_model.proofs.NumberBits.{from_bits-none, from_bits_ext, from_bits_lt, from_bits_of, bit_at_lt, bit_at_mod, bit_at-from_bits, bit_at_xor, bit_at_and}
use Rattle.linear_model.proofs.Sums.{sum_more, sum_split, sum_ext}
use Rattle.linear_model.proofs.WordBits.{or_part, window_is}
use Rattle.linear_model.proofs.Filling.{filling_none}
use Rattle.linear_model.proofs.Internal.Overwriting.{overwritten_none, overwritten_more, word_stored, words_stored}
use Rattle.linear_model.proofs.Internal.Rotations.{words_twice, rows_first, factors, product_packed}

-- ---- masks

-- the number of four bits, 16 places apart
abbrev four_bits : (b₀ b₁ b₂ b₃ : ℕ) → ℕ
four_bits b₀ b₁ b₂ b₃ = ((b₃ * 2 ^ 16 + b₂) * 2 ^ 16 + b₁) * 2 ^ 16 + b₀

-- place k of it where each is repeated in its quarter of 64 places
abbrev repeated : (b₀ b₁ b₂ b₃ k : ℕ) → ℕ
repeated b₀ b₁ b₂ b₃ k = bit_at (four_bits b₀ b₁ b₂ b₃ * 0xffff) k

abbrev chosen : (b₀ b₁ b₂ b₃ k : ℕ) → ℕ
chosen b₀ b₁ b₂ b₃ k = get_or (b₀ ∷ b₁ ∷ b₂ ∷ b₃ ∷ []) (k / 16) 0

abbrev AllChosen : (b₀ b₁ b₂ b₃ : ℕ) → Bool
AllChosen b₀ b₁ b₂ b₃ = every 64 (λ k. eqb (repeated b₀ b₁ b₂ b₃ k) (chosen b₀ b₁ b₂ b₃ k))

repeated-at : (b₀ b₁ b₂ b₃ k : ℕ) → b₀ < 2 → b₁ < 2 → b₂ < 2 → b₃ < 2 → k < 64 → repeated b₀ b₁ b₂ b₃ k ≡ chosen b₀ b₁ b₂ b₃ k
unfolding every
repeated-at b₀ b₁ b₂ b₃ k h₀ h₁ h₂ h₃ h =
    same₁ 64 (repeated b₀ b₁ b₂ b₃) (chosen b₀ b₁ b₂ b₃)
    (every-at 2 (λ c₃. AllChosen b₀ b₁ b₂ c₃)
    (every-at 2 (λ c₂. every 2 (λ c₃. AllChosen b₀ b₁ c₂ c₃))
    (every-at 2 (λ c₁. every 2 (λ c₂. every 2 (λ c₃. AllChosen b₀ c₁ c₂ c₃)))
    (every-at 2 (λ c₀. every 2 (λ c₁. every 2 (λ c₂. every 2 (λ c₃. AllChosen c₀ c₁ c₂ c₃)))) tt b₀ h₀) b₁ h₁) b₂ h₂) b₃ h₃) k h

-- the lowest bit, and those of m 16 places on
one-bit_more : (x m : ℕ) → bit_and x (m * 2 ^ 16 + 1) ≡ bit_and (x / 2 ^ 16) m * 2 ^ 16 + x % 2
one-bit_more x m =
    let r = x % 2 ^ 16 in
    let e : x ≡ x / 2 ^ 16 * 2 ^ 16 + r = omega arith in
    let o : r % 2 ≡ x % 2 = omega arith in
    ap (λ (n : ℕ). bit_and n (m * 2 ^ 16 + 1)) e ∙ and_block 16 (x / 2 ^ 16) m r 1 (omega arith) (omega arith)
    ∙ ap (λ (b : ℕ). bit_and (x / 2 ^ 16) m * 2 ^ 16 + b) (and_mask r 1 ∙ o)

four_bits_lem : (x : ℕ) → bit_and x 0x1000100010001 ≡ four_bits (bit_at x 0) (bit_at x 16) (bit_at x 32) (bit_at x 48)
four_bits_lem x =
    let y = x / 2 ^ 16 in
    let z = y / 2 ^ 16 in
    let e₂ : z ≡ x / 2 ^ 32 = shr-shr x 16 16 in
    let e₃ : z / 2 ^ 16 ≡ x / 2 ^ 48 = ap (λ (n : ℕ). n / 2 ^ 16) e₂ ∙ shr-shr x 32 16 in
    let b₀ : x % 2 ≡ bit_at x 0 = omega arith in
    one-bit_more x 0x100010001
    ∙ ap (λ (n : ℕ). n * 2 ^ 16 + x % 2) (one-bit_more y 0x10001 ∙ ap (λ (n : ℕ). n * 2 ^ 16 + y % 2) (one-bit_more z 1 ∙ ap (λ (n : ℕ). n * 2 ^ 16 + z % 2) (and_mask (z / 2 ^ 16) 1)))
    ∙ (λ i. four_bits (b₀ i) (y % 2) (e₂ i % 2) (e₃ i % 2))

pub quarter_masks_at : (x k : ℕ) → k < 64 → bit_at (bit_and x 0x1000100010001 * 0xffff) k ≡ bit_at x (16 * (k / 16))
quarter_masks_at x k h =
    ap (λ (n : ℕ). bit_at (n * 0xffff) k) (four_bits_lem x)
    ∙ repeated-at (bit_at x 0) (bit_at x 16) (bit_at x 32) (bit_at x 48) k (bit_at_lt x 0) (bit_at_lt x 16) (bit_at_lt x 32) (bit_at_lt x 48) h ∙ pick (k / 16) (omega arith)
  where
    pick : (j : ℕ) → j < 4 → get_or (bit_at x 0 ∷ bit_at x 16 ∷ bit_at x 32 ∷ bit_at x 48 ∷ []) j 0 ≡ bit_at x (16 * j)
    pick zero l = refl
    pick (suc zero) l = refl
    pick (suc (suc zero)) l = refl
    pick (suc (suc (suc zero))) l = refl
    pick (suc (suc (suc (suc j)))) l = absurd (omega arith)

-- ---- the sums of the quarters

-- bit j of x, counted around
abbrev pub round_bit : ℕ → ℕ → ℕ
round_bit x j = bit_at x (j % 64)

-- the key's bit of place r in the quarter of place i, times the label's bit i + c + r
abbrev quarter_term : ℕ → ℕ → ℕ → ℕ → ℕ → ℕ
quarter_term k x c i r = bit_at k (16 * (i / 16) + r) * round_bit x (c + i + r)

abbrev pub quarter_sum : ℕ → ℕ → ℕ → ℕ → ℕ → ℕ
quarter_sum k x c q i = sum q (quarter_term k x c i) % 2

pub quarter_none : (k x c : ℕ) → 0 ≡ from_bits 64 (quarter_sum k x c 0)
unfolding sum
quarter_none k x c = sym (from_bits-none 64 (quarter_sum k x c 0) (λ _ _. refl))

-- a word, and a word rotated right by n
pub round_none : (x : ℕ) → x < 2 ^ 64 → x ≡ from_bits 64 (from 0 (round_bit x))
round_none x h =
    from_bits_of 64 x (from 0 (round_bit x)) h (λ k l. ap (bit_at x) (sym (mod-eq_of_lt {n = k} {m = 64} l) ∙ ap (λ (n : ℕ). n % 64) (sym (zero-add k))))

pub round_more : (x q n : ℕ) {y : ℕ} → n ≤ 64 → y ≡ from_bits 64 (from q (round_bit x)) → bit_or (y / 2 ^ n) (y * 2 ^ (64 - n) % 2 ^ 64) ≡ from_bits 64 (from (q + n) (round_bit x))
round_more x q n {y} h e =
    let f = from q (round_bit x) in
    window_is 64 n y y f h h (λ i. bit_at_lt x ((q + i) % 64))
    e (e ∙ from_bits_ext 64 f (from 64 f) (λ i _. sym (ap (round_bit x) (more i) ∙ ap (bit_at x) (add-mod_right (q + i) 64))))
    ∙ from_bits_ext 64 (from n f) (from (q + n) (round_bit x)) (λ i _. ap (round_bit x) (omega arith))
  where
    more : (i : ℕ) → q + (64 + i) ≡ q + i + 64
    more i = omega arith

-- one bit of each quarter of the key more
pub quarter_more : (k x c q m : ℕ) {p s y : ℕ} → p ≡ k / 2 ^ q → s ≡ from_bits 64 (quarter_sum k x c q) → ((i : ℕ) → i < 64 → bit_at m i ≡ bit_at p (16 * (i / 16)))
    → y ≡ from_bits 64 (from (q + c) (round_bit x)) → bit_xor s (bit_and m y) ≡ from_bits 64 (quarter_sum k x c (q + 1))
quarter_more k x c q m {p} {s} {y} ep es em ey =
    let hs : s < 2 ^ 64 = rw es (from_bits_lt 64 (quarter_sum k x c q) (λ i. omega arith)) in
    let hy : y < 2 ^ 64 = rw ey (from_bits_lt 64 (from (q + c) (round_bit x)) (λ i. bit_at_lt x ((q + c + i) % 64))) in
    from_bits_of 64 (bit_xor s (bit_and m y)) (quarter_sum k x c (q + 1)) (xor_lt 64 s (bit_and m y) hs (omega (arith, and_le_r m y)))
    (λ i l. let t = quarter_term k x c i in
    let o : q + c + i ≡ c + i + q = omega arith in
    let u : q + 16 * (i / 16) ≡ 16 * (i / 16) + q = omega arith in
    let a : bit_at s i ≡ sum q t % 2 = ap (λ (n : ℕ). bit_at n i) es ∙ bit_at-from_bits 64 (quarter_sum k x c q) (λ i. omega arith) i l in
    let b : bit_at m i ≡ bit_at k (16 * (i / 16) + q) =
    em i l ∙ ap (λ (n : ℕ). bit_at n (16 * (i / 16))) ep ∙ ap (λ (n : ℕ). n % 2) (shr-shr k q (16 * (i / 16))) ∙ ap (bit_at k) u
    in
    let d : bit_at y i ≡ round_bit x (c + i + q) =
    ap (λ (n : ℕ). bit_at n i) ey ∙ bit_at-from_bits 64 (from (q + c) (round_bit x)) (λ i. bit_at_lt x ((q + c + i) % 64)) i l ∙ ap (round_bit x) o
    in
    bit_at_xor s (bit_and m y) i ∙ ap₂ (λ (u v : ℕ). (u + v) % 2) a (bit_at_and m y i ∙ ap₂ ◌*◌ b d) ∙ mod-add-mod (sum q t) 2 (t q)
    ∙ ap (λ (n : ℕ). n % 2) (sym (sum_more q t)))

-- a sum modulo 2 is taken modulo 2 once
sums_once : (a b c d : ℕ) → (((a + b) % 2 + c) % 2 + d) % 2 ≡ (a + b + c + d) % 2
sums_once a b c d = ap (λ (n : ℕ). (n + d) % 2) (mod-add-mod (a + b) 2 c) ∙ mod-add-mod (a + b + c) 2 d

parts_once : (a b c d : ℕ) → (a % 2 + b % 2 + c % 2 + d % 2) % 2 ≡ (a + b + c + d) % 2
parts_once a b c d =
    sym (sums_once (a % 2) (b % 2) (c % 2) (d % 2)) ∙ ap (λ (n : ℕ). (n + d % 2) % 2) (ap (λ (n : ℕ). (n + c % 2) % 2) (two a b) ∙ two (a + b) c) ∙ two (a + b + c) d
  where
    two : (a b : ℕ) → (a % 2 + b % 2) % 2 ≡ (a + b) % 2
    two a b = omega arith

-- all quarters added up
pub quarters_added : (x : ℕ) → bit_xor (bit_xor (bit_xor x (x / 2 ^ 16)) (x / 2 ^ 32)) (x / 2 ^ 48) % 2 ^ 16 ≡ from_bits 16 (quarters_bit x)
quarters_added x =
    let two = bit_xor x (x / 2 ^ 16) in
    let three = bit_xor two (x / 2 ^ 32) in
    let four = bit_xor three (x / 2 ^ 48) in
    from_bits_of 16 (four % 2 ^ 16) (quarters_bit x) (mod-lt four (pow_pos 16))
    (λ i l.
    let s₁ : bit_at (x / 2 ^ 16) i ≡ bit_at x (16 + i) = ap (λ (n : ℕ). n % 2) (shr-shr x 16 i) in
    let s₂ : bit_at (x / 2 ^ 32) i ≡ bit_at x (32 + i) = ap (λ (n : ℕ). n % 2) (shr-shr x 32 i) in
    let s₃ : bit_at (x / 2 ^ 48) i ≡ bit_at x (48 + i) = ap (λ (n : ℕ). n % 2) (shr-shr x 48 i) in
    bit_at_mod 16 four i l ∙ bit_at_xor three (x / 2 ^ 48) i
    ∙ ap (λ (n : ℕ). (n + bit_at (x / 2 ^ 48) i) % 2) (bit_at_xor two (x / 2 ^ 32) i ∙ ap (λ (n : ℕ). (n + bit_at (x / 2 ^ 32) i) % 2) (bit_at_xor x (x / 2 ^ 16) i))
    ∙ (λ j. (((bit_at x i + s₁ j) % 2 + s₂ j) % 2 + s₃ j) % 2) ∙ sums_once (bit_at x i) (bit_at x (16 + i)) (bit_at x (32 + i)) (bit_at x (48 + i)))

quarter_all : (k x c s : ℕ) → s ≡ from_bits 64 (quarter_sum k x c 16) → (i : ℕ) → i < 16 → quarters_bit s i ≡ word_product k x (c + i)
quarter_all k x c s e i h =
    let t = word_term k x (c + i) in
    let first : bit_at s i ≡ sum 16 t % 2 =
    at i (omega arith) ∙ ap (λ (n : ℕ). n % 2) (sum_ext 16 (quarter_term k x c i) t (λ r _. let o : 16 * (i / 16) + r ≡ r = omega arith in ap (λ (n : ℕ). bit_at k n * round_bit x (c + i + r)) o))
    in
    let second = at_part 16 1 refl (lit< tt) in
    let third = at_part 32 2 refl (lit< tt) in
    let fourth = at_part 48 3 refl (lit< tt) in
    let all : sum 64 t ≡ sum 16 t + sum 16 (from 16 t) + sum 16 (from 32 t) + sum 16 (from 48 t) =
    sum_split 48 16 t ∙ ap (λ (n : ℕ). n + sum 16 (from 48 t)) (sum_split 32 16 t ∙ ap (λ (n : ℕ). n + sum 16 (from 32 t)) (sum_split 16 16 t))
    in
    (λ j. (first j + second j + third j + fourth j) % 2) ∙ parts_once (sum 16 t) (sum 16 (from 16 t)) (sum 16 (from 32 t)) (sum 16 (from 48 t)) ∙ ap (λ (n : ℕ). n % 2) (sym all)
  where
    at : (j : ℕ) → j < 64 → bit_at s j ≡ quarter_sum k x c 16 j
    at j l = ap (λ (n : ℕ). bit_at n j) e ∙ bit_at-from_bits 64 (quarter_sum k x c 16) (λ i. omega arith) j l

    -- place i of the quarter from place p on
    at_part : (p j : ℕ) → p ≡ 16 * j → j < 4 → bit_at s (p + i) ≡ sum 16 (from p (word_term k x (c + i))) % 2
    at_part p j q l =
        at (p + i) (omega arith)
        ∙ ap (λ (n : ℕ). n % 2) (sum_ext 16 (quarter_term k x c (p + i)) (from p (word_term k x (c + i)))
        (λ r _. let o : 16 * ((p + i) / 16) + r ≡ p + r = omega arith in
        let u : c + (p + i) + r ≡ c + i + (p + r) = omega arith in
        ap₂ (λ (n j : ℕ). bit_at k n * round_bit x j) o u))

-- so a word's product is four words' quarters
pub quarters_product : (k x : ℕ) {s₀ s₁ s₂ s₃ a b c d : ℕ}
    → s₀ ≡ from_bits 64 (quarter_sum k x 0 16) → s₁ ≡ from_bits 64 (quarter_sum k x 16 16) → s₂ ≡ from_bits 64 (quarter_sum k x 32 16) → s₃ ≡ from_bits 64 (quarter_sum k x 48 16)
    → a ≡ from_bits 16 (quarters_bit s₀) → b ≡ from_bits 16 (quarters_bit s₁) → c ≡ from_bits 16 (quarters_bit s₂) → d ≡ from_bits 16 (quarters_bit s₃)
    → bit_or (bit_or (bit_or a (b * 2 ^ 16 % 2 ^ 64)) (c * 2 ^ 32 % 2 ^ 64)) (d * 2 ^ 48 % 2 ^ 64) ≡ from_bits 64 (word_product k x)
quarters_product k x {s₀} {s₁} {s₂} {s₃} {a} {b} {c} {d} e₀ e₁ e₂ e₃ ea eb ec ed =
    let f = word_product k x in
    let bits : (i : ℕ) → f i < 2 = λ i. omega arith in
    let first = ea ∙ from_bits_ext 16 (quarters_bit s₀) f (λ i h. quarter_all k x 0 s₀ e₀ i h ∙ ap f (zero-add i)) in
    let two = or_part 64 16 16 a b f (omega arith) bits first (eb ∙ from_bits_ext 16 (quarters_bit s₁) (from 16 f) (quarter_all k x 16 s₁ e₁)) in
    let three = or_part 64 32 16 _ c f (omega arith) bits two (ec ∙ from_bits_ext 16 (quarters_bit s₂) (from 32 f) (quarter_all k x 32 s₂ e₂)) in
    or_part 64 48 16 _ d f (omega arith) bits three (ed ∙ from_bits_ext 16 (quarters_bit s₃) (from 48 f) (quarter_all k x 48 s₃ e₃))

-- ---- one word of the key and the label

pub word_multiplied : (k l d : List ℕ) (r : ℕ) → 0 < length d → r ≡ from_bits 64 (word_product (get_or k 0 0) (get_or l 0 0)) → Multiplied 1 1 k l (set d 0 r)
unfolding sum
word_multiplied k l d r hd e key label fs j h =
    let o : j ≡ 0 = omega arith in
    let f = horner 1 key label 0 64 in
    rw o (get_or-set_same d 0 r 0 hd ∙ e
    ∙ from_bits_ext 64 (word_product (get_or k 0 0) (get_or l 0 0)) (from (64 * 0) f)
    (λ i t. ap (λ (n : ℕ). n % 2) (sum_ext 64 (word_term (get_or k 0 0) (get_or l 0 0) i) (horner_column 1 key label 0 (64 * 0 + i)) (term i t))))
  where
    first : get_or l 0 0 ≡ word_of label 0
    first =
        fs.label_rows 0 (lit< tt) 0 (lit< tt)
        ∙ from_bits_ext 64 (from (64 * 0) (from 0 label)) (from (64 * 0) label) (λ k _. ap label (zero-add (64 * 0 + k)))

    bit_of : (f : ℕ → ℕ) (y n : ℕ) → ((i : ℕ) → f i < 2) → y ≡ from_bits 64 (from (64 * 0) f) → n < 64 → bit_at y n ≡ f n
    bit_of f y n b e h = ap (λ (z : ℕ). bit_at z n) e ∙ bit_at-from_bits 64 (from (64 * 0) f) (λ i. b (64 * 0 + i)) n h ∙ ap f (zero-add n)

    round : (n : ℕ) → n < 128 → Dec (n < 64) → label (n % 64) ≡ label n
    round n h (yes l) = ap label (mod-eq_of_lt {n = n} l)
    round n h (no l) =
        let i = n - 64 in
        let o : i + 64 * 1 ≡ n = omega arith in
        let o' : n % 64 ≡ i = omega arith in
        ap label o' ∙ sym (fs.again i) ∙ ap label o

    term : (i : ℕ) → i < 64 → (q : ℕ) → q < 64 → word_term (get_or k 0 0) (get_or l 0 0) i q ≡ horner_column 1 key label 0 (64 * 0 + i) q
    term i t q s =
        let o : q ≡ 64 * 0 + (0 + q) = omega arith in
        let o' : i + q ≡ 64 * 0 + i + (64 * 0 + q) = omega arith in
        ap₂ ◌*◌ (bit_of key (get_or k 0 0) q fs.key_bits (fs.key_words 0 (lit< tt)) s ∙ ap key o)
        (bit_of label (get_or l 0 0) ((i + q) % 64) fs.label_bits first (omega arith) ∙ round (i + q) (omega arith) (dec_lt (i + q) 64) ∙ ap label o')
        ∙ sym (zero-add _)

-- eight bytes are the product where its word is stored
pub word_product_stored : (key x s : List ℕ) {k y r : ℕ} → length s ≡ 8 → k ≡ word_of (bit key) 0 → y ≡ word_of (bit x) 0 → r ≡ from_bits 64 (word_product k y)
    → set_word s 0 r ≡ circulant_product 8 key x
word_product_stored key x s {k} {y} {r} h ek ey er =
    let one : Overwritten (word_of (bit key)) 0 1 (0 ∷ []) (k ∷ []) = overwritten_more 0 overwritten_none refl (lit< tt) ek in
    let first : Overwritten (word_of (bit x)) 0 1 (0 ∷ 0 ∷ []) (y ∷ 0 ∷ []) = overwritten_more 0 overwritten_none refl (lit< tt) ey in
    let second : Overwritten (word_of (bit x)) 1 1 (y ∷ 0 ∷ []) (y ∷ y ∷ []) = overwritten_more 1 overwritten_none refl (lit< tt) ey in
    let f = horner 1 (bit key) (around 8 x) 0 64 in
    let words : Words f 1 (r ∷ []) = word_multiplied (k ∷ []) (y ∷ y ∷ []) (0 ∷ []) r (lit< tt) er (bit key) (around 8 x) (factors 1 1 key x one (rows_first (around 8 x) 2 (y ∷ y ∷ []) (words_twice 1 x first second))) in
    words_stored 8 f h (word_stored 1 f (r ∷ []) 0 (λ i. omega arith) words (lit< tt) h filling_none) (omega arith) ∙ product_packed 1 key x
