-- Laws of the evaluator: its inner vector, and its number by its tests.
use mathlib.Core.Path.{◌≡◌, refl, sym, ap₂, ◌∙◌}
use mathlib.Core.List.{List, ◌++◌}
use mathlib.Core.Bool.{Bool, true, false, cond}
use Prim.Native.Nat.{ℕ, ◌<◌, ◌≤◌}
use native.Mathlib.Omega.{arith}
use borrow.Author.Tests.{lt-ltb, le-ltb, eq-eqb, ne_eqb}
use lib.ListN.{length}
use Rattle.linear_model.specs.Bits.{Bytes, zeros, bit}
use Rattle.linear_model.specs.Trits.{low, high, pack_trits, bit_trits}
use Rattle.linear_model.proofs.Strings.{bit_lt, bit-zeros, pack_ext, pack_bits, bytes_zeros}
use Rattle.numbers.specs.Number.{first}
use Rattle.numbers.proofs.Numbers.{NoneHolds, first-merge}
use Rattle.pair_model.specs.Scheme.{Files, bad_length, faults_in, reading_number, Scheme}
use Rattle.pair_model.specs.Frame.{code_bytes}
use Rattle.pair_model.specs.Evaluator.{evaluate_conditions, evaluate_number}

-- bits read as trits: the bits are the low plane, and the high plane is zero
pub bits_as_trits : (m : ℕ) (w : List ℕ) → Bytes m w → w ++ zeros m ≡ bit_trits m w
unfolding bit_trits pack_trits
bits_as_trits m w h =
    ap₂ (λ (a b : List ℕ). a ++ b)
    (sym (pack_ext m (low (bit w)) (bit w) (λ j l. omega (arith, bit_lt w j)) ∙ pack_bits m w h))
    (sym (pack_ext m (high (bit w)) (bit (zeros m)) (λ j l. rw (bit-zeros m j) (omega (arith, bit_lt w j))) ∙ pack_bits m (zeros m) (bytes_zeros m)))

module _ (S : Scheme) (key label : List ℕ) (lent : Files) (n : ℕ) where
  pub key-length : (length key ≡ S.key_bytes → ⊥) → 1 ≡ evaluate_number S key label lent n
  unfolding first evaluate_conditions
  key-length h = simp (ne_eqb (length key) S.key_bytes h)

  module _ (k : length key ≡ S.key_bytes) where
    pub label-length : (length label ≡ S.key_bytes → ⊥) → 1 ≡ evaluate_number S key label lent n
    unfolding first evaluate_conditions
    label-length h = simp (eq-eqb (length key) S.key_bytes k, ne_eqb (length label) S.key_bytes h)

    -- a short output slice is 1, whatever is read
    pub output_short : length label ≡ S.key_bytes → n < code_bytes S → 1 ≡ evaluate_number S key label lent n
    unfolding first evaluate_conditions
    output_short l h =
        simp (eq-eqb (length key) S.key_bytes k, eq-eqb (length label) S.key_bytes l, lt-ltb n (code_bytes S) h)
        (pick (bad_length S.product_reading lent) (bad_length S.rows_reading lent))
      where
        pick : (b c : Bool) → ◌≡◌ {A = ℕ} 1 (cond b 1 (cond c 1 1))
        pick true c = refl
        pick false true = refl
        pick false false = refl

    -- else, where what the product reads is fit, the number of what is read for the rows is the evaluator's
    pub rows_decide : bad_length S.product_reading lent ≡ false → NoneHolds (faults_in S.product_reading lent) → length label ≡ S.key_bytes → code_bytes S ≤ n
        → reading_number S.rows_reading lent ≡ evaluate_number S key label lent n
    unfolding first evaluate_conditions reading_number
    rows_decide e none l h =
        rw (
          eq-eqb (length key) S.key_bytes k,
          eq-eqb (length label) S.key_bytes l,
          e,
          le-ltb n (code_bytes S) h,
          first-merge (faults_in S.product_reading lent) (faults_in S.rows_reading lent) none,
        )
