-- The dealer takes exactly the accepted tapes, and the sampler makes accepted tapes.
use Prim.Native.Nat.{ℕ, ◌+◌, ◌*◌, ◌<◌}
use mathlib.Core.Path.{◌≡◌, refl, sym, ap, ◌∙◌, subst}
use mathlib.Core.Logic.{◌↔◌}
use mathlib.Core.List.{List, [], ◌∷◌}
use mathlib.Core.Bool.{Bool, cond, not}
use native.Mathlib.Omega.{arith}
use native.Mathlib.Nat.{le_refl}
use borrow.Author.Tests.{le-ltb}
use lib.Dec.{T, eqb, lit<}
use lib.ListN.{length, get_or, take, drop}
use lib.Seq.{drop-drop, drop_at, take_all}
use Rattle.linear_model.specs.Bits.{Bytes}
use Rattle.linear_model.specs.Trits.{fit_trits, pack_trits}
use Rattle.linear_model.proofs.Strings.{bytes_append}
use Rattle.linear_model.proofs.Vectors.{length-pack_trits, bytes_pack_trits, fit_pack}
use Rattle.numbers.specs.Number.{◌when◌, first, merge}
use Rattle.pair_model.specs.Scheme.{Files, faults_in, reading_number, Scheme, field}
use Rattle.pair_model.specs.Tape.{tape_bytes, r0, Accepted}
use Rattle.source_model.specs.Disjoint.{sampling}
use Rattle.source_model.specs.Draw.{copied, trit_of, drawn, tape_from}
use Rattle.source_model.proofs.Draws.{drawn-small}
use Rattle.source_model.proofs.Copied.{length-copied, bytes_copied}
use Rattle.pair_model.specs.Sampler.{copied_bytes, wanted_trits, sampled, next_pair, sample_conditions, sample_number}
use Rattle.pair_model.specs.Dealer.{dealt_bytes, deal_conditions, deal_number}
use Rattle.numbers.proofs.Numbers.{is_true, denied, equal, at_least, is_equal, Positive, none_holds, first-zero, first-merge}
use Rattle.pair_model.proofs.Theorem.StepLaws.{fit_length, fit_faults}

-- ---- tapes

module _ (S : Scheme) (lent : Files) (positive : Positive (faults_in S.product_reading lent)) (fit : reading_number S.product_reading lent ≡ 0)
    (tape : List ℕ) (bytes : (i : ℕ) → get_or tape i 0 < 256) where
  abbrev is_fit : Bool
  is_fit = fit_trits S.inner_bytes (8 * S.inner_bytes) (r0 S tape)

  -- where what is read is fit, the tape alone decides
  tape_decides : deal_number S lent tape (dealt_bytes S) ≡ first (1 when not (eqb (length tape) (tape_bytes S)) ∷ 10 when not is_fit ∷ [])
  unfolding deal_conditions first
  tape_decides =
      (λ j. first (1 when not (eqb (length tape) (tape_bytes S)) ∷ 1 when at_least (dealt_bytes S) (dealt_bytes S) (le_refl (dealt_bytes S)) j
      ∷ 1 when fit_length S.product_reading lent fit j ∷ merge (faults_in S.product_reading lent) (10 when not is_fit ∷ [])))
      ∙ ap (cond (not (eqb (length tape) (tape_bytes S))) 1)
      (first-merge (faults_in S.product_reading lent) (10 when not is_fit ∷ [])
      (none_holds (faults_in S.product_reading lent) positive (fit_faults S.product_reading lent fit)))

  -- the dealer takes a tape of bytes exactly if it is accepted
  pub deal-accepted : (deal_number S lent tape (dealt_bytes S) ≡ 0) ↔ Accepted S tape
  deal-accepted = (forth, back)
    where
      forth : deal_number S lent tape (dealt_bytes S) ≡ 0 → Accepted S tape
      forth e =
          let h = none_holds (1 when not (eqb (length tape) (tape_bytes S)) ∷ 10 when not is_fit ∷ []) (lit< tt, (lit< tt, tt)) (sym tape_decides ∙ e) in
          record { bytes = record { size = is_equal (length tape) (tape_bytes S) h.0; small = bytes }; fit = denied is_fit h.1.0 }

      back : Accepted S tape → deal_number S lent tape (dealt_bytes S) ≡ 0
      back h =
          tape_decides
          ∙ first-zero (1 when not (eqb (length tape) (tape_bytes S)) ∷ 10 when not is_fit ∷ [])
          (ap not (equal (length tape) (tape_bytes S) h.bytes.size), (ap not (is_true is_fit h.fit), tt))

-- ---- sampled tapes

module _ (S : Scheme) where
  -- r0 stands after the copied bytes
  r0-after : (s : List ℕ) → r0 S s ≡ take (2 * S.inner_bytes) (drop (copied_bytes S) s)
  unfolding r0 field
  r0-after s =
      ap (take (2 * S.inner_bytes))
      (ap (λ (x : List ℕ). drop m (drop m (drop n (drop n x)))) (drop-drop n n s) ∙ ap (λ (x : List ℕ). drop m (drop m (drop n x))) (drop-drop n (n + n) s)
      ∙ ap (λ (x : List ℕ). drop m (drop m x)) (drop-drop n (n + n + n) s) ∙ ap (drop m) (drop-drop m (n + n + n + n) s) ∙ drop-drop m (n + n + n + n + m) s
      ∙ ap (λ (k : ℕ). drop k s) size)
    where
      n : ℕ
      n = S.key_bytes

      m : ℕ
      m = S.inner_bytes

      size : n + n + n + n + m + m ≡ copied_bytes S
      size = omega arith

  module _ (source : List ℕ) (s : ℕ) where
    -- the trits that are drawn
    abbrev trits : ℕ → ℕ
    trits = trit_of (drawn (copied_bytes S) (wanted_trits S) source s).trits

    -- they are below 3
    trits_lt : (j : ℕ) → trits j < 3
    trits_lt = drawn-small (copied_bytes S) (wanted_trits S) source s

    -- r0 of a sampled tape is these trits
    r0-sampled : r0 S (sampled S source s) ≡ pack_trits S.inner_bytes trits
    unfolding sampled tape_from
    r0-sampled =
        r0-after (sampled S source s)
        ∙ ap (take (2 * S.inner_bytes))
        (drop_at (copied (copied_bytes S) source s) (pack_trits S.inner_bytes trits) (copied_bytes S) (length-copied (copied_bytes S) source s))
        ∙ take_all (2 * S.inner_bytes) (pack_trits S.inner_bytes trits) (omega (arith, length-pack_trits S.inner_bytes trits))

    -- what the sampler makes is accepted
    pub sampled-accepted : Accepted S (sampled S source s)
    unfolding sampled tape_from
    sampled-accepted =
        record {
          bytes =
              subst (λ (k : ℕ). Bytes k (sampled S source s)) whole
              (bytes_append (bytes_copied (copied_bytes S) source s) (bytes_pack_trits S.inner_bytes trits (λ j. omega (arith, trits_lt j))));
          fit =
              subst (λ (v : List ℕ). T (fit_trits S.inner_bytes (8 * S.inner_bytes) v)) (sym r0-sampled)
              (fit_pack S.inner_bytes (8 * S.inner_bytes) trits trits_lt (le_refl (8 * S.inner_bytes)));
        }
      where
        whole : copied_bytes S + (S.inner_bytes + S.inner_bytes) ≡ tape_bytes S
        whole = omega arith

    -- it is the sampling of so many bytes and trits
    pub sampler_is_lem : let A = sampling (copied_bytes S) (wanted_trits S) S.inner_bytes in
        (sample_number S source s (tape_bytes S) ≡ A.number source s) × (sampled S source s ≡ A.tape source s) × (next_pair S source s ≡ A.next source s)
    unfolding first sample_conditions sampled next_pair
    sampler_is_lem = (rw (le-ltb (tape_bytes S) (tape_bytes S) (le_refl (tape_bytes S))), refl, refl)
