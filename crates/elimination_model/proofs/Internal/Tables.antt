-- Laws of the table of a row's multiples: zero, the row and its negative.
use mathlib.Core.Path.{◌≡◌, sym, ap, ap₂, ◌∙◌}
use mathlib.Core.List.{List}
use mathlib.Core.Logic.{◌⊎◌, inl, inr}
use Prim.Native.Nat.{ℕ, zero, suc, ◌+◌, ◌-◌, ◌*◌, ◌%◌, ◌^◌, ◌<◌, ◌≤◌}
use native.Mathlib.Nat.{mod-lt, mod-mod, zero-lt-suc, mul_assoc, mul_comm, one-mul, div-eq_of_lt, lt_of_lt_of_le, pow-le-pow_right}
use native.Mathlib.Decide.{dec_lt}
use native.Mathlib.Omega.{arith}
use lib.Dec.{lit<}
use lib.ListN.{get_or}
use Rattle.linear_model.specs.Bits.{bit_at, zeros}
use Rattle.linear_model.specs.Digits.{digit_product}
use Rattle.linear_model.specs.Internal.Planes.{trit_of}
use Rattle.linear_model.proofs.Strings.{length-zeros, get_d_zeros}
use Rattle.linear_model.proofs.Sums.{mul_congr}
use Rattle.linear_model.proofs.NumberBits.{bit_at_zero, bit_at_lt}
use Rattle.linear_model.proofs.Digits.{remainder_product}
use Rattle.linear_model.proofs.Internal.Rotations.{mask-bit_at}
use Rattle.elimination_model.specs.Internal.Words.{word_trit, FitRow, RowWritten, CopiedWord, Multiples, Entries, Table}
use Rattle.elimination_model.proofs.Residues.{times_zero}
use Rattle.elimination_model.proofs.Internal.Writing.{rows_apart}

-- a trit with its planes in the other order is twice itself
exchanged : (x u k : ℕ) → trit_of x u k < 3 → trit_of u x k ≡ 2 * trit_of x u k % 3
exchanged x u k h = omega (arith, bit_at_lt x k, bit_at_lt u k)

four_times : (x : ℕ) → x < 3 → x ≡ 4 * x % 3
four_times x h = omega arith

eight_times : (x y : ℕ) → y ≡ 2 * x % 3 → y ≡ 8 * x % 3
eight_times x y h = omega arith

-- the row and its negative, at the entries 3 − p and p: where p is 1 the negative is the first of them
module _ (w : ℕ) (words : List ℕ) (a : ℕ) (f : FitRow w words a) where
  -- a row that was copied, and one whose planes were exchanged
  copied : (e : ℕ) (table table' : List ℕ) → RowWritten w e w (CopiedWord words a (a + w)) table table'
      → (m : ℕ) → m < w → (k : ℕ) → word_trit w table' e m k ≡ word_trit w words a m k
  copied e table table' r m l k = ap₂ (λ (x u : ℕ). trit_of x u k) (r.is m l).0 (r.is m l).1

  negated : (e : ℕ) (table table' : List ℕ) → RowWritten w e w (CopiedWord words (a + w) a) table table'
      → (m : ℕ) → m < w → (k : ℕ) → word_trit w table' e m k ≡ 2 * word_trit w words a m k % 3
  negated e table table' r m l k =
      ap₂ (λ (x u : ℕ). trit_of x u k) (r.is m l).0 (r.is m l).1
      ∙ exchanged (get_or words (a + m) 0) (get_or words (a + w + m) 0) k (f.fit m l k)

  -- an entry before the row that was written, or after it, is as it was
  kept : (e e' : ℕ) (holds : ℕ → ℕ → ℕ → Type 0) (table table' : List ℕ) → RowWritten w e w holds table table' → (e' + 2 * w ≤ e) ⊎ (e + 2 * w ≤ e')
      → (m : ℕ) → m < w → (k : ℕ) → word_trit w table' e' m k ≡ word_trit w table e' m k
  kept e e' holds table table' r (inl h) m l k =
      ap₂ (λ (x u : ℕ). trit_of x u k) (r.before (e' + m) (omega arith)) (r.before (e' + w + m) (omega arith))
  kept e e' holds table table' r (inr h) m l k =
      ap₂ (λ (x u : ℕ). trit_of x u k) (r.high (e' + m) (omega arith)) (r.high (e' + w + m) (omega arith))

  -- so is entry 0, which is the zero row
  zero_kept : (e f : ℕ) (holds says : ℕ → ℕ → ℕ → Type 0) (t₀ t₁ t₂ : List ℕ) → Table w t₀ → RowWritten w e w holds t₀ t₁ → RowWritten w f w says t₁ t₂
      → 2 * w ≤ e → 2 * w ≤ f → (m : ℕ) → m < w → (k : ℕ) → word_trit w t₂ (2 * w * 0) m k ≡ 0
  zero_kept e f holds says t₀ t₁ t₂ z r s g h m q k =
      kept f (2 * w * 0) says t₁ t₂ s (inl (omega arith)) m q k
      ∙ kept e (2 * w * 0) holds t₀ t₁ r (inl (omega arith)) m q k
      ∙ ap (λ (v : ℕ). word_trit w t₀ v m k) (omega arith)
      ∙ z.zero-entry m q k

  pub multiples_filled : (p : ℕ) → 0 < p → p < 3 → (t₀ t₁ t₂ : List ℕ) → Table w t₀
      → RowWritten w (2 * w * (3 - p)) w (CopiedWord words a (a + w)) t₀ t₁ → RowWritten w (2 * w * p) w (CopiedWord words (a + w) a) t₁ t₂
      → Multiples w words a p t₂
  multiples_filled zero g l t₀ t₁ t₂ z r s = absurd (omega arith)
  multiples_filled (suc zero) g l t₀ t₁ t₂ z r s = record { long = omega (arith, z.long, r.size, s.size); is = is }
    where
      is : (d m : ℕ) → d < 3 → m < w → (k : ℕ) → word_trit w t₂ (2 * w * d) m k ≡ 2 * (d * 1) * word_trit w words a m k % 3
      is zero m h q k = zero_kept (2 * w * 2) (2 * w * 1) _ _ t₀ t₁ t₂ z r s (omega arith) (omega arith) m q k ∙ omega arith
      is (suc zero) m h q k = negated (2 * w * 1) t₁ t₂ s m q k
      is (suc (suc zero)) m h q k =
          kept (2 * w * 1) (2 * w * 2) _ t₁ t₂ s (inr (omega arith)) m q k
          ∙ copied (2 * w * 2) t₀ t₁ r m q k
          ∙ four_times (word_trit w words a m k) (f.fit m q k)
      is (suc (suc (suc d))) m h q k = absurd (omega arith)
  multiples_filled (suc (suc zero)) g l t₀ t₁ t₂ z r s = record { long = omega (arith, z.long, r.size, s.size); is = is }
    where
      is : (d m : ℕ) → d < 3 → m < w → (k : ℕ) → word_trit w t₂ (2 * w * d) m k ≡ 2 * (d * 2) * word_trit w words a m k % 3
      is zero m h q k = zero_kept (2 * w * 1) (2 * w * 2) _ _ t₀ t₁ t₂ z r s (omega arith) (omega arith) m q k ∙ omega arith
      is (suc zero) m h q k =
          kept (2 * w * 2) (2 * w * 1) _ t₁ t₂ s (inl (omega arith)) m q k
          ∙ copied (2 * w * 1) t₀ t₁ r m q k
          ∙ four_times (word_trit w words a m k) (f.fit m q k)
      is (suc (suc zero)) m h q k = eight_times (word_trit w words a m k) (word_trit w t₂ (2 * w * 2) m k) (negated (2 * w * 2) t₁ t₂ s m q k)
      is (suc (suc (suc d))) m h q k = absurd (omega arith)
  multiples_filled (suc (suc (suc p))) g l t₀ t₁ t₂ z r s = absurd (omega arith)

-- entry d is entry 1, d times
pub multiples_entries : (w : ℕ) (words : List ℕ) (a p : ℕ) (table : List ℕ) → Multiples w words a p table → Entries w table
multiples_entries w words a p table x =
    record {
      long = x.long;
      is = λ d m l q k. x.is d m l q k ∙ times d (word_trit w words a m k) ∙ ap (λ (v : ℕ). d * v % 3) (sym (x.is 1 m (lit< tt) q k));
    }
  where
    order : (d : ℕ) → 2 * (d * p) ≡ d * (2 * (1 * p))
    order d = sym (mul_assoc 2 d p) ∙ ap (λ (v : ℕ). v * p) (mul_comm 2 d) ∙ mul_assoc d 2 p ∙ ap (λ (v : ℕ). d * (2 * v)) (sym (one-mul p))

    times : (d y : ℕ) → 2 * (d * p) * y % 3 ≡ d * (2 * (1 * p) * y % 3) % 3
    times d y =
        ap (λ (v : ℕ). v % 3) (ap (λ (v : ℕ). v * y) (order d) ∙ mul_assoc d (2 * (1 * p)) y)
        ∙ sym (mul_congr 3 d (2 * (1 * p) * y % 3) (2 * (1 * p) * y) (mod-mod (2 * (1 * p) * y) 3))

-- so each is fit
pub entry_fit : (w : ℕ) (table : List ℕ) → Entries w table → (d : ℕ) → d < 3 → FitRow w table (2 * w * d)
entry_fit w table x d l =
    record {
      long = omega (arith, x.long, rows_apart w d 3 l);
      fit = λ m q k. rw (x.is d m l q k) (mod-lt (d * word_trit w table (2 * w * 1) m k) (zero-lt-suc 2));
    }

-- entry 0 is the zero row
pub multiples_table : (w : ℕ) (words : List ℕ) (a p : ℕ) (table : List ℕ) → Multiples w words a p table → Table w table
multiples_table w words a p table x =
    record {
      long = x.long;
      zero-entry = λ m q k. ap (λ (v : ℕ). word_trit w table v m k) (omega arith) ∙ x.is 0 m (omega arith) q k ∙ omega arith;
    }

-- the table before the first turn
pub zero_table : (w : ℕ) → w ≤ 11 → Table w (zeros 66)
zero_table w h =
    record {
      long = rw (length-zeros 66) (omega arith);
      zero-entry = λ m l k. ap₂ (λ (x u : ℕ). trit_of x u k) (get_d_zeros 66 (0 + m)) (get_d_zeros 66 (0 + w + m)) ∙ ap₂ (λ (x u : ℕ). x + 2 * u) (bit_at_zero k) (bit_at_zero k);
    }

-- ---- a digit times trits, under masks

-- a word has no bit past its places
past_word : (x k : ℕ) → x < 2 ^ 64 → 64 ≤ k → bit_at x k ≡ 0
past_word x k h l = ap (λ (v : ℕ). v % 2) (div-eq_of_lt (lt_of_lt_of_le h (pow-le-pow_right {n = 2} (zero-lt-suc 1) l)))

-- with the bits of a trit in all places of two masks, the product in each place is that trit times the other
pub masks_times : (x u bit e f m n : ℕ) → e < 2 ^ 64 → f < 2 ^ 64 → m ≡ bit_at x bit * 0xffffffffffffffff → n ≡ bit_at u bit * 0xffffffffffffffff
    → (k : ℕ) → digit_product (trit_of m n k % 3) (trit_of e f k % 3) ≡ trit_of x u bit * trit_of e f k % 3
masks_times x u bit e f m n he hf hm hn k = remainder_product (trit_of m n k) (trit_of e f k) ∙ go (dec_lt k 64)
  where
    go : Dec (k < 64) → trit_of m n k * trit_of e f k % 3 ≡ trit_of x u bit * trit_of e f k % 3
    go (yes l) =
        ap₂ (λ (v z : ℕ). (v + 2 * z) * trit_of e f k % 3)
        (ap (λ (v : ℕ). bit_at v k) hm ∙ mask-bit_at (bit_at x bit) k (bit_at_lt x bit) l)
        (ap (λ (v : ℕ). bit_at v k) hn ∙ mask-bit_at (bit_at u bit) k (bit_at_lt u bit) l)
    go (no l) =
        let z : trit_of e f k % 3 ≡ 0 = ap₂ (λ (v z : ℕ). (v + 2 * z) % 3) (past_word e k he (omega arith)) (past_word f k hf (omega arith)) in
        times_zero (trit_of m n k) (trit_of e f k) z ∙ sym (times_zero (trit_of x u bit) (trit_of e f k) z)
