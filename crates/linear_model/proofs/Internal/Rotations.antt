-- Laws of the circulant product by words: from the highest bit of the key's words down, the sum so far is rotated and the label is added under masks.
use mathlib.Core.Path.{◌≡◌, refl, sym, ap, ap₂, ◌∙◌}
use mathlib.Core.List.{List}
use Prim.Native.Nat.{ℕ, zero, suc, ◌+◌, ◌-◌, ◌*◌, ◌/◌, ◌%◌, ◌^◌, ◌<◌, ◌≤◌}
use native.Mathlib.Nat.{zero-add, add_comm, mul-zero, mul-suc, mul-le-mul_left, mod-eq_of_lt, add-mod_right, mod-add-mod}
use native.Mathlib.Decide.{dec_lt}
use native.Mathlib.Omega.{arith}
use lib.Bits.{bit_xor, bit_and, xor_lt, and_le_l}
use lib.Dec.{eqb}
use lib.ListN.{length, get_or}
use lib.Seq.{get_or-set_same, get_or-set_other}
use Rattle.linear_model.specs.Tables.{from, sum, every}
use Rattle.linear_model.specs.Bits.{bit_at, bit, zeros, pack}
use Rattle.linear_model.specs.Products.{bit_term, bit_row, bit_product, circulant, circulant_product}
use Rattle.linear_model.specs.Internal.Rotations.{Bits, Words, Overwritten, word_of, closed, rotated_at, added_at, mask_at, Masks, mask_term, added, Added, added_row, added_rows, AddedRows, key_term, key_row, stepped, Stepped, around, Rows, Factors, horner_term, horner_column, horner}
use Rattle.linear_model.proofs.Tables.{every-at, same₁}
use Rattle.linear_model.proofs.NumberBits.{from_bits-none, from_bits_ext, from_bits_lt, from_bits_of, bit_at-from_bits, bit_at_xor, bit_at_and}
use Rattle.linear_model.proofs.Sums.{sum_more, sum_split, sum_ext, sum_plus, sum-zero}
use Rattle.linear_model.proofs.Strings.{bit_lt, pack_ext, get_d_zeros}
use Rattle.linear_model.proofs.WordBits.{window_is}
use Rattle.linear_model.proofs.Internal.Circulant.{around_once}
use Rattle.linear_model.proofs.Internal.Overwriting.{overwritten_at}

-- ---- a row as a sum over the key's bits

-- row i and x, multiplied by the place k of the key's bit
abbrev rotation_term : ℕ → List ℕ → List ℕ → ℕ → ℕ → ℕ
rotation_term n key x i k = bit key k * around n x (i + k)

-- a row as the sum over the key's bits, with the label rotated
row_rotated : (n : ℕ) (key x : List ℕ) (i : ℕ) → i < 8 * n → bit_row n (circulant n key) x i ≡ sum (8 * n) (rotation_term n key x i) % 2
row_rotated n key x i h =
    let m = 8 * n - i in
    let t = bit_term (circulant n key) x i in
    let g = rotation_term n key x i in
    let up : sum m (from i t) ≡ sum m g =
    sum_ext m (from i t) g
    (λ k l. ap₂ (λ (u v : ℕ). bit key u * bit x v)
    (ap (λ (u : ℕ). u % (8 * n)) (omega arith) ∙ sym (around_once (8 * n) k (omega arith))) (sym (mod-eq_of_lt {n = i + k} (omega arith))))
    in
    let down : sum i t ≡ sum i (from m g) =
    sum_ext i t (from m g)
    (λ j l. ap₂ (λ (u v : ℕ). bit key u * bit x v) (mod-eq_of_lt {n = j + 8 * n - i} (omega arith) ∙ omega arith)
    (around_once (8 * n) j (omega arith) ∙ ap (λ (u : ℕ). u % (8 * n)) (omega arith)))
    in
    let e : 8 * n ≡ i + m = omega arith in
    let e' : 8 * n ≡ m + i = omega arith in
    let whole : sum (8 * n) t ≡ sum i t + sum m (from i t) = ap (λ (k : ℕ). sum k t) e ∙ sum_split i m t in
    let whole' : sum (8 * n) g ≡ sum m g + sum i (from m g) = ap (λ (k : ℕ). sum k g) e' ∙ sum_split m i g in
    ap (λ (s : ℕ). s % 2) (omega arith)

-- sums over rows and over columns are the same
sum_grid : (n m : ℕ) (f : ℕ → ℕ) → sum n (λ r. sum m (λ w. f (n * w + r))) ≡ sum (n * m) f
unfolding sum
sum_grid n zero f = sum-zero n (λ r. 0) (λ _ _. refl) ∙ ap (λ (k : ℕ). sum k f) (sym (mul-zero n))
sum_grid n (suc m) f =
    sum_plus n (λ r. sum m (λ w. f (n * w + r))) (λ r. f (n * m + r))
    ∙ ap (λ (s : ℕ). s + sum n (from (n * m) f)) (sum_grid n m f)
    ∙ sym (sum_split (n * m) n f) ∙ ap (λ (k : ℕ). sum k f) next
  where
    next : n * m + n ≡ n * suc m
    next = omega arith

-- ---- masks

-- a bit, repeated in all 64 places
pub mask-bit_at : (b k : ℕ) → b < 2 → k < 64 → bit_at (b * 0xffffffffffffffff) k ≡ b
unfolding every
mask-bit_at b k h l =
    same₁ 64 (bit_at (b * 0xffffffffffffffff)) (λ _. b) (every-at 2 (λ b. every 64 (λ k. eqb (bit_at (b * 0xffffffffffffffff) k) b)) tt b h) k l

-- the masks of one place more
pub masks_more : (k : List ℕ) (q w p : ℕ) {d m : List ℕ} → w ≤ 8 → Masks k q w p d → Overwritten (mask_at k (q + p)) (8 * p) w d m → Masks k q w (p + 1) m
masks_more k q w p {d} {m} hw s o r h a h' = pick (dec_lt r p)
  where
    pick : Dec (r < p) → get_or m (8 * r + a) 0 ≡ mask_at k (q + r) a
    pick (yes t) = o.before (8 * r + a) (omega arith) ∙ s r t a h'
    pick (no t) =
        let e : r ≡ p = omega arith in
        rw e (o.at a h')

-- ---- words under masks

pub words_none : (f : ℕ → ℕ) (m l : List ℕ) (r w : ℕ) (d : List ℕ) → Bits f → Words f w d → Words (added 0 f m l r) w d
unfolding sum
words_none f m l r w d b ws j h = ws j h ∙ from_bits_ext 64 (from (64 * j) f) (from (64 * j) (added 0 f m l r)) (λ k t. omega (arith, b (64 * j + k)))

-- one word of the key more
pub words_more : (f : ℕ → ℕ) (m l : List ℕ) (r a w : ℕ) {d acc : List ℕ} → get_or m (8 * r + a) 0 < 2 ^ 64 → Words (added a f m l r) w d
    → Overwritten (added_at d l (17 * r + a) (get_or m (8 * r + a) 0)) 0 w d acc → Words (added (a + 1) f m l r) w acc
words_more f m l r a w {d} {acc} hm ws p j h =
    let x = get_or d j 0 in
    let y = get_or l (17 * r + a + j) 0 in
    let z = get_or m (8 * r + a) 0 in
    let g = from (64 * j) (added a f m l r) in
    let small : x < 2 ^ 64 = rw (ws j h) (from_bits_lt 64 g (λ i. omega arith)) in
    overwritten_at p j h
    ∙ from_bits_of 64 (bit_xor x (bit_and z y)) (from (64 * j) (added (a + 1) f m l r)) (xor_lt 64 x (bit_and z y) small (omega (arith, and_le_l z y)))
    (λ k s. let i = 64 * j + k in
    let t = mask_term m l r i in
    let ex : bit_at x k ≡ (f i + sum a t) % 2 = ap (λ (n : ℕ). bit_at n k) (ws j h) ∙ bit_at-from_bits 64 g (λ i. omega arith) k s in
    let o : k ≡ i % 64 = omega arith in
    let o' : 17 * r + a + j ≡ 17 * r + a + i / 64 = omega arith in
    let ey : bit_at (bit_and z y) k ≡ t a = bit_at_and z y k ∙ ap₂ (λ (u v : ℕ). bit_at z v * bit_at (get_or l u 0) v) o' o in
    let e : f i + sum a t + t a ≡ f i + sum (a + 1) t = omega (arith, sum_more a t) in
    bit_at_xor x (bit_and z y) k ∙ ap₂ (λ (u v : ℕ). (u + v) % 2) ex ey ∙ mod-add-mod (f i + sum a t) 2 (t a) ∙ ap (λ (n : ℕ). n % 2) e)

pub rows_none : (f : ℕ → ℕ) (m l : List ℕ) (w : ℕ) (d : List ℕ) → Bits f → Words f w d → Words (added_rows w 0 f m l) w d
unfolding sum
rows_none f m l w d b ws j h = ws j h ∙ from_bits_ext 64 (from (64 * j) f) (from (64 * j) (added_rows w 0 f m l)) (λ k t. omega (arith, b (64 * j + k)))

-- one place of the key's words more
pub rows_more : (f : ℕ → ℕ) (m l : List ℕ) (w p : ℕ) {d acc : List ℕ} → ((a : ℕ) → a < w → get_or m (8 * p + a) 0 < 2 ^ 64) → Words (added_rows w p f m l) w d
    → Added w m l p d acc → Words (added_rows w (p + 1) f m l) w acc
rows_more f m l w p {d} {acc} small ws s j h =
    s.words small (added_rows w p f m l) (λ i. omega arith) ws j h
    ∙ from_bits_ext 64 (from (64 * j) (added w (added_rows w p f m l) m l p)) (from (64 * j) (added_rows w (p + 1) f m l))
    (λ k _. let i = 64 * j + k in
    let t = added_row w m l i in
    let e : f i + sum p t + t p ≡ f i + sum (p + 1) t = omega (arith, sum_more p t) in
    mod-add-mod (f i + sum p t) 2 (t p) ∙ ap (λ (n : ℕ). n % 2) e)

-- ---- the rotation

-- a word of the bits f rotated right by n, of two words of f
rotated_word : (n : ℕ) (f : ℕ → ℕ) (d : List ℕ) (j : ℕ) → n ≤ 64 → Bits f → get_or d j 0 ≡ word_of f j → get_or d (j + 1) 0 ≡ word_of f (j + 1)
    → rotated_at n d j ≡ word_of (from n f) j
rotated_word n f d j h b e e' =
    window_is 64 n (get_or d j 0) (get_or d (j + 1) 0) (from (64 * j) f) h h (λ i. b (64 * j + i)) e
    (e' ∙ from_bits_ext 64 (from (64 * (j + 1)) f) (from 64 (from (64 * j) f)) (λ k _. ap f (omega arith)))
    ∙ from_bits_ext 64 (from n (from (64 * j) f)) (from (64 * j) (from n f)) (λ k _. ap f (omega arith))

-- the words of bits that come round after w words, with the first again after the last
words_closed : (w : ℕ) (f : ℕ → ℕ) (d : List ℕ) → ((i : ℕ) → f (i + 64 * w) ≡ f i) → 0 < w → w < length d → Words f w d → Words f (w + 1) (closed w d)
words_closed w f d again hw hd ws i r = pick (dec_lt i w)
  where
    pick : Dec (i < w) → get_or (closed w d) i 0 ≡ word_of f i
    pick (yes s) = get_or-set_other d w i (get_or d 0 0) 0 (omega arith) ∙ ws i s
    pick (no s) =
        let o : i ≡ w = omega arith in
        rw o (get_or-set_same d w (get_or d 0 0) 0 hd ∙ ws 0 hw
        ∙ from_bits_ext 64 (from (64 * 0) f) (from (64 * w) f) (λ k _. let z : 64 * 0 + k ≡ k = omega arith in ap f z ∙ sym (again k) ∙ ap f (add_comm k (64 * w))))

words_rotated : (w n : ℕ) (f : ℕ → ℕ) (d l : List ℕ) → n ≤ 64 → Bits f → ((i : ℕ) → f (i + 64 * w) ≡ f i) → 0 < w → w < length d
    → Words f w d → Overwritten (rotated_at n (closed w d)) 0 w (closed w d) l → Words (from n f) w l
words_rotated w n f d l hn b again hw hd ws p j h =
    let all = words_closed w f d again hw hd ws in
    overwritten_at p j h ∙ rotated_word n f (closed w d) j hn b (all j (omega arith)) (all (j + 1) (omega arith))

-- the sum so far rotated, and what the masks of bits q to q + p − 1 of the key's words add
pub words_stepped : (w p : ℕ) (k l : List ℕ) (q : ℕ) {m d r acc : List ℕ} → p ≤ 64 → 0 < w → w < length d → Masks k q w p m
    → Overwritten (rotated_at p (closed w d)) 0 w (closed w d) r → AddedRows w p m l r acc → Stepped w p k l q d acc
words_stepped w p k l q {m} {d} {r} {acc} hp hw hd hm hr ha =
    record {
      long = ha.long;
      words = λ f b again ws j h. ha.words small (from p f) (λ i. b (p + i)) (words_rotated w p f d r hp b again hw hd ws hr) j h
          ∙ from_bits_ext 64 (from (64 * j) (added_rows w p (from p f) m l)) (from (64 * j) (stepped w p f k l q))
          (λ i _. ap (λ (s : ℕ). (f (p + (64 * j + i)) + s) % 2) (sum_ext p (added_row w m l (64 * j + i)) (key_row w k l q (64 * j + i))
          (λ t h. sum_ext w (mask_term m l t (64 * j + i)) (key_term k l q (64 * j + i) t) (term (64 * j + i) t h))));
    }
  where
    small : (t : ℕ) → t < p → (a : ℕ) → a < w → get_or m (8 * t + a) 0 < 2 ^ 64
    small t h a h' = rw (hm t h a h') (omega arith)

    term : (i t : ℕ) → t < p → (a : ℕ) → a < w → mask_term m l t i a ≡ key_term k l q i t a
    term i t h a h' =
        let y = bit_at (get_or l (17 * t + a + i / 64) 0) (i % 64) in
        ap (λ (x : ℕ). bit_at x (i % 64) * y) (hm t h a h')
        ∙ ap (λ (x : ℕ). x * y) (mask-bit_at (bit_at (get_or k a 0) (q + t)) (i % 64) (omega arith) (omega arith))

-- ---- the sum so far

pub horner-none : (w : ℕ) (key label : ℕ → ℕ) (q : ℕ) → Words (horner w key label q 0) w (zeros 9)
unfolding sum
horner-none w key label q j h = get_d_zeros 9 j ∙ sym (from_bits-none 64 (from (64 * j) (horner w key label q 0)) (λ _ _. refl))

module _ {w m : ℕ} {key label : ℕ → ℕ} {k l : List ℕ} (fs : Factors w m key label k l) where
  horner_again : (q p i : ℕ) → horner w key label q p (i + 64 * w) ≡ horner w key label q p i
  horner_again q p i =
      ap (λ (n : ℕ). n % 2) (sum_ext p (horner_column w key label q (i + 64 * w)) (horner_column w key label q i)
      (λ r _. sum_ext w (horner_term key label q (i + 64 * w) r) (horner_term key label q i r)
      (λ a _. let e : i + 64 * w + (64 * a + r) ≡ i + (64 * a + r) + 64 * w = omega arith in
      ap (λ (n : ℕ). key (64 * a + (q + r)) * n) (ap label e ∙ fs.again (i + (64 * a + r))))))

  -- what one step adds is n bits of each of the key's words more
  step_bits : (n q p i : ℕ) → n ≤ m → q + n ≤ 64 → i < 64 * w → stepped w n (horner w key label (q + n) p) k l q i ≡ horner w key label q (n + p) i
  step_bits n q p i hn hq hi =
      let s = sum p (horner_column w key label (q + n) (n + i)) in
      let c : sum n (key_row w k l q i) ≡ sum n (horner_column w key label q i) =
      sum_ext n (key_row w k l q i) (horner_column w key label q i) (λ r hr. sum_ext w (key_term k l q i r) (horner_term key label q i r)
      (λ a ha. let x = a + i / 64 in
      let o : r + (64 * x + i % 64) ≡ i + (64 * a + r) = omega arith in
      let o' : 17 * r + a + i / 64 ≡ 17 * r + x = omega arith in
      ap₂ ◌*◌
      (ap (λ (z : ℕ). bit_at z (q + r)) (fs.key_words a ha) ∙ bit_at-from_bits 64 (from (64 * a) key) (λ n. fs.key_bits (64 * a + n)) (q + r) (omega arith))
      (ap (λ (z : ℕ). bit_at (get_or l z 0) (i % 64)) o' ∙ ap (λ (z : ℕ). bit_at z (i % 64)) (fs.label_rows r (omega arith) x (omega arith))
      ∙ bit_at-from_bits 64 (from (64 * x) (from r label)) (λ n. fs.label_bits (r + (64 * x + n))) (i % 64) (omega arith) ∙ ap label o)))
      in
      let u : sum p (from n (horner_column w key label q i)) ≡ s =
      sum_ext p (from n (horner_column w key label q i)) (horner_column w key label (q + n) (n + i))
      (λ r _. sum_ext w (horner_term key label q i (n + r)) (horner_term key label (q + n) (n + i) r)
      (λ a _. let o : 64 * a + (q + (n + r)) ≡ 64 * a + (q + n + r) = omega arith in
      let o' : i + (64 * a + (n + r)) ≡ n + i + (64 * a + r) = omega arith in
      ap₂ (λ (u v : ℕ). key u * label v) o o'))
      in
      let all = sum_split n p (horner_column w key label q i) in
      let sums : s + sum n (key_row w k l q i) ≡ sum (n + p) (horner_column w key label q i) = omega (arith, all, c, u) in
      mod-add-mod s 2 (sum n (key_row w k l q i)) ∙ ap (λ (x : ℕ). x % 2) sums

  -- one step of the loop, n places of the key's words
  pub horner-step : (n q r : ℕ) {d acc : List ℕ} → n ≤ m → q ≡ r + n → q ≤ 64 → Words (horner w key label q (64 - q)) w d → Stepped w n k l r d acc
      → Words (horner w key label r (64 - r)) w acc
  horner-step n q r {d} {acc} hn eq hq ws s j h =
      let p = 64 - (r + n) in
      let f = horner w key label (r + n) p in
      let o : 64 - r ≡ n + p = omega arith in
      let now : Words f w d = rw eq at ws in
      rw o (s.words f (λ i. omega arith) (horner_again (r + n) p) now j h
      ∙ from_bits_ext 64 (from (64 * j) (stepped w n f k l r)) (from (64 * j) (horner w key label r (n + p))) (λ i t. step_bits n r p (64 * j + i) hn (omega arith) (omega arith)))

-- n places a step: the step before, and the places left
pub step_before : (n i : ℕ) → 0 < i → n * i ≡ n * (i - 1) + n
step_before n i h =
    let o : i ≡ suc (i - 1) = omega arith in
    ap (λ (k : ℕ). n * k) o ∙ mul-suc n (i - 1)

pub steps_fit : (n i steps : ℕ) → i ≤ steps → n * steps ≡ 64 → n * i ≤ 64
steps_fit n i steps h e = rw (← e) (mul-le-mul_left n h)

-- ---- the product

-- the label counted around comes round after its words
around_again : (w : ℕ) (x : List ℕ) (j : ℕ) → around (8 * w) x (j + 64 * w) ≡ around (8 * w) x j
around_again w x j =
    let e : j + 64 * w ≡ j + 8 * (8 * w) = omega arith in
    ap (around (8 * w) x) e ∙ ap (bit x) (add-mod_right j (8 * (8 * w)))

-- the label's words, twice over
pub words_twice : (w : ℕ) (x : List ℕ) {y l l' : List ℕ} → Overwritten (word_of (bit x)) 0 w y l → Overwritten (word_of (bit x)) w w l l'
    → Words (around (8 * w) x) (2 * w) l'
words_twice w x {y} {l} {l'} p p' j h = pick (dec_lt j w)
  where
    pick : Dec (j < w) → get_or l' j 0 ≡ word_of (around (8 * w) x) j
    pick (yes r) =
        p'.before j r ∙ overwritten_at p j r
        ∙ from_bits_ext 64 (from (64 * j) (bit x)) (from (64 * j) (around (8 * w) x)) (λ k s. ap (bit x) (sym (mod-eq_of_lt {n = 64 * j + k} (omega arith))))
    pick (no r) =
        let i = j - w in
        let e : j ≡ w + i = omega arith in
        ap (λ (n : ℕ). get_or l' n 0) e ∙ p'.at i (omega arith)
        ∙ from_bits_ext 64 (from (64 * i) (bit x)) (from (64 * j) (around (8 * w) x))
        (λ k s. let o : 64 * i + k + 64 * w ≡ 64 * j + k = omega arith in
        sym (ap (around (8 * w) x) (sym o) ∙ around_again w x (64 * i + k) ∙ ap (bit x) (mod-eq_of_lt {n = 64 * i + k} (omega arith))))

-- words that are not rotated
pub rows_first : (f : ℕ → ℕ) (n : ℕ) (l : List ℕ) → Words f n l → Rows f n 1 l
rows_first f n l ws r h j h' =
    let o : r ≡ 0 = omega arith in
    rw o (ap (λ (i : ℕ). get_or l i 0) (zero-add j) ∙ ws j h' ∙ from_bits_ext 64 (from (64 * j) f) (from (64 * j) (from 0 f)) (λ k _. ap f (sym (zero-add (64 * j + k)))))

-- l has the label's words twice over with the first again after them, and those of its rotations by r below p
pub record Rotations (w p : ℕ) (f : ℕ → ℕ) (l : List ℕ) : Type 0 where
  pub bits : Bits f
  pub first : Words f (2 * w + 1) l
  pub rows : Rows f (2 * w) p l

pub rotations_first : (w : ℕ) (x : List ℕ) {y l l' : List ℕ} → 0 < w → 2 * w < length l' → Overwritten (word_of (bit x)) 0 w y l
    → Overwritten (word_of (bit x)) w w l l' → Rotations w 1 (around (8 * w) x) (closed (2 * w) l')
rotations_first w x {y} {l} {l'} hw hl p p' =
    let f = around (8 * w) x in
    let again : (j : ℕ) → f (j + 64 * (2 * w)) ≡ f j =
    λ j. let e : j + 64 * (2 * w) ≡ j + 64 * w + 64 * w = omega arith in ap f e ∙ around_again w x (j + 64 * w) ∙ around_again w x j
    in
    let first = words_closed (2 * w) f l' again (omega arith) hl (words_twice w x p p') in
    record {
      bits = λ j. bit_lt x (j % (8 * (8 * w)));
      first = first;
      rows = rows_first f (2 * w) (closed (2 * w) l') (λ j h. first j (omega arith));
    }

-- one rotation more
pub rotations_more : (w p : ℕ) {f : ℕ → ℕ} {l l' : List ℕ} → w ≤ 8 → 0 < p → p ≤ 64 → Rotations w p f l → Overwritten (rotated_at p l) (17 * p) (2 * w) l l'
    → Rotations w (p + 1) f l'
rotations_more w p {f} {l} {l'} hw hp hp' s o =
    record {
      bits = s.bits;
      first = λ j h. o.before j (omega arith) ∙ s.first j h;
      rows = λ r h j h'. pick r h j h' (dec_lt r p);
    }
  where
    pick : (r : ℕ) → r < p + 1 → (j : ℕ) → j < 2 * w → Dec (r < p) → get_or l' (17 * r + j) 0 ≡ word_of (from r f) j
    pick r h j h' (yes t) = o.before (17 * r + j) (omega arith) ∙ s.rows r t j h'
    pick r h j h' (no t) =
        let e : r ≡ p = omega arith in
        rw e (o.at j h' ∙ rotated_word p f l j hp' s.bits (s.first j (omega arith)) (s.first (j + 1) (omega arith)))

-- the words of the key, and those of the label's rotations
pub factors : (w p : ℕ) (key x : List ℕ) {z k l : List ℕ} → Overwritten (word_of (bit key)) 0 w z k → Rows (around (8 * w) x) (2 * w) p l
    → Factors w p (bit key) (around (8 * w) x) k l
factors w p key x hk hl =
    record {
      key_bits = bit_lt key;
      label_bits = λ j. bit_lt x (j % (8 * (8 * w)));
      again = around_again w x;
      key_words = overwritten_at hk;
      label_rows = hl;
    }

-- all 64 steps are the row
horner_all : (w : ℕ) (key x : List ℕ) (i : ℕ) → i < 64 * w → horner w (bit key) (around (8 * w) x) 0 64 i ≡ bit_row (8 * w) (circulant (8 * w) key) x i
horner_all w key x i h =
    let f = rotation_term (8 * w) key x i in
    let e : sum 64 (horner_column w (bit key) (around (8 * w) x) 0 i) ≡ sum 64 (λ r. sum w (λ a. f (64 * a + r))) =
    sum_ext 64 (horner_column w (bit key) (around (8 * w) x) 0 i) (λ r. sum w (λ a. f (64 * a + r)))
    (λ r _. sum_ext w (horner_term (bit key) (around (8 * w) x) 0 i r) (λ a. f (64 * a + r))
    (λ a _. ap (λ (n : ℕ). bit key (64 * a + n) * around (8 * w) x (i + (64 * a + r))) (zero-add r)))
    in
    let o : 64 * w ≡ 8 * (8 * w) = omega arith in
    ap (λ (n : ℕ). n % 2) (e ∙ sum_grid 64 w f ∙ ap (λ (n : ℕ). sum n f) o) ∙ sym (row_rotated (8 * w) key x i (omega arith))

pub product_packed : (w : ℕ) (key x : List ℕ) → pack (8 * w) (horner w (bit key) (around (8 * w) x) 0 64) ≡ circulant_product (8 * w) key x
unfolding bit_product
product_packed w key x =
    pack_ext (8 * w) (horner w (bit key) (around (8 * w) x) 0 64) (bit_row (8 * w) (circulant (8 * w) key) x) (λ j h. horner_all w key x j (omega arith))
