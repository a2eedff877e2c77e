-- Laws of a list of words that a loop overwrites, element by element, and of a string that it fills word by word.
use mathlib.Core.Path.{◌≡◌, refl, sym, ap, ◌∙◌}
use mathlib.Core.List.{List}
use Prim.Native.Nat.{ℕ, ◌+◌, ◌*◌, ◌/◌, ◌%◌, ◌^◌, ◌<◌, ◌≤◌}
use native.Mathlib.Nat.{not-suc-le-zero, add-zero, zero-add}
use native.Mathlib.Decide.{dec_lt}
use native.Mathlib.Omega.{arith}
use lib.Dec.{lit<}
use lib.ListN.{length, get_or, set, length-set}
use lib.Pow.{shr-shr}
use lib.Seq.{get_or-set_same, get_or-set_other}
use Rattle.linear_model.specs.Tables.{from}
use Rattle.linear_model.specs.Bits.{byte_of, from_bits, pack}
use Rattle.linear_model.specs.Internal.Words.{set_half, set_word}
use Rattle.linear_model.specs.Internal.Rotations.{Bits, Words, Overwritten}
use Rattle.linear_model.proofs.NumberBits.{from_bits_ext}
use Rattle.linear_model.proofs.WordBits.{word_byte}
use Rattle.linear_model.proofs.Filling.{Filling, filling_more, filling_all}

-- where the loop begins
pub overwritten_none : {g : ℕ → ℕ} {o : ℕ} {d : List ℕ} → Overwritten g o 0 d d
overwritten_none = record { long = refl; at = λ j l. absurd (not-suc-le-zero l); before = λ j l. refl; after = λ j l. refl }

-- one element more
pub overwritten_more : {g : ℕ → ℕ} {o n : ℕ} {d l : List ℕ} {x : ℕ} (i : ℕ) → Overwritten g o n d l → i ≡ o + n → i < length d → x ≡ g n
    → Overwritten g o (n + 1) d (set l i x)
overwritten_more {g} {o} {n} {d} {l} {x} i p e h q =
    record {
      long = length-set l i x ∙ p.long;
      at = λ j r. pick j (omega arith) (dec_lt j n);
      before = λ j r. get_or-set_other l i j x 0 (omega arith) ∙ p.before j r;
      after = λ j r. get_or-set_other l i j x 0 (omega arith) ∙ p.after j (omega arith);
    }
  where
    pick : (j : ℕ) → j ≤ n → Dec (j < n) → get_or (set l i x) (o + j) 0 ≡ g j
    pick j r (yes s) = get_or-set_other l i (o + j) x 0 (omega arith) ∙ p.at j s
    pick j r (no s) =
        let t : j ≡ n = omega arith in
        rw (t, ← e) (get_or-set_same l i x 0 (omega (arith, p.long)) ∙ q)

-- what is overwritten from the front
pub overwritten_at : {g : ℕ → ℕ} {n : ℕ} {d l : List ℕ} → Overwritten g 0 n d l → (j : ℕ) → j < n → get_or l j 0 ≡ g j
overwritten_at {g} {n} {d} {l} p j h = ap (λ (i : ℕ). get_or l i 0) (sym (zero-add j)) ∙ p.at j h

-- ---- a string filled by words

-- four bytes more
half_filled : {f : ℕ → ℕ} {d s : List ℕ} (i x : ℕ) → Filling f i d s → i + 4 ≤ length d → ((k : ℕ) → k < 4 → x / 2 ^ (8 * k) % 256 ≡ f (i + k))
    → Filling f (i + 4) d (set_half s i x)
unfolding set_half
half_filled {f} {d} {s} i x p h b =
    let two : i + 1 + 1 ≡ i + 2 = omega arith in
    let three : i + 2 + 1 ≡ i + 3 = omega arith in
    let four : i + 3 + 1 ≡ i + 4 = omega arith in
    let z0 : Filling f (i + 1) d (set s i (x / 2 ^ 0 % 256)) = filling_more p (omega (arith, p.long)) (b 0 (lit< tt) ∙ ap f (add-zero i)) in
    let z1 = rw two at (filling_more z0 (omega (arith, z0.long)) (b 1 (lit< tt))) in
    let z2 = rw three at (filling_more z1 (omega (arith, z1.long)) (b 2 (lit< tt))) in
    rw four at (filling_more z2 (omega (arith, z2.long)) (b 3 (lit< tt)))

-- one word more of the bits g
word_filled : {g : ℕ → ℕ} {d s : List ℕ} (i x : ℕ) → Bits g → Filling (byte_of g) i d s → i + 8 ≤ length d → x ≡ from_bits 64 (from (8 * i) g)
    → Filling (byte_of g) (i + 8) d (set_word s i x)
unfolding set_word
word_filled {g} {d} {s} i x small p h e =
    let o : i + 4 + 4 ≡ i + 8 = omega arith in
    rw o at (half_filled (i + 4) (x / 2 ^ 32) (half_filled i x p (omega arith) (λ k l. byte k (omega arith))) (omega arith)
    (λ k l. let u : 32 + 8 * k ≡ 8 * (4 + k) = omega arith in
    let v : i + (4 + k) ≡ i + 4 + k = omega arith in
    ap (λ (y : ℕ). y % 256) (shr-shr x 32 (8 * k)) ∙ ap (λ (n : ℕ). x / 2 ^ n % 256) u ∙ byte (4 + k) (omega arith) ∙ ap (byte_of g) v))
  where
    byte : (k : ℕ) → k < 8 → x / 2 ^ (8 * k) % 256 ≡ byte_of g (i + k)
    byte k l =
        word_byte k x (from (8 * i) g) l (λ j. small (8 * i + j)) e
        ∙ from_bits_ext 8 (from (8 * k) (from (8 * i) g)) (from (8 * (i + k)) g) (λ j _. ap g (omega arith))

-- one word more of those that l has
pub word_stored : (w : ℕ) (g : ℕ → ℕ) (l : List ℕ) (i : ℕ) {d s : List ℕ} → Bits g → Words g w l → i < w → length d ≡ 8 * w → Filling (byte_of g) (8 * i) d s
    → Filling (byte_of g) (8 * (i + 1)) d (set_word s (8 * i) (get_or l i 0))
word_stored w g l i {d} {s} small ws h n p =
    let e : 64 * i ≡ 8 * (8 * i) = omega arith in
    let o : 8 * i + 8 ≡ 8 * (i + 1) = omega arith in
    rw o at (word_filled (8 * i) (get_or l i 0) small p (omega arith) (rw e at (ws i h)))

-- where all words are stored
pub words_stored : (n : ℕ) (g : ℕ → ℕ) {i : ℕ} {d s : List ℕ} → length d ≡ n → Filling (byte_of g) i d s → n ≤ i → s ≡ pack n g
unfolding pack
words_stored n g {i} {d} {s} e p h = rw e at (filling_all p (omega (arith, p.long)))
