-- The sampler's number and what it writes, by what was drawn, at any sizes.
use mathlib.Core.Path.{◌≡◌, sym, ap, ◌∙◌}
use mathlib.Core.Logic.{◌≢◌}
use mathlib.Core.List.{List, ◌++◌, append-nil, append_assoc}
use Prim.Native.Nat.{ℕ, ◌+◌, ◌-◌, ◌*◌, ◌<◌, ◌≤◌}
use native.Mathlib.Omega.{arith}
use borrow.Author.Tests.{lt-ltb, le-ltb}
use lib.ListN.{length, take, drop, length-take, length-drop, length-append, drop_of_length-le, take-append-drop}
use lib.Seq.{drop-drop, take_at, drop_at}
use Rattle.numbers.specs.Number.{first, output}
use Rattle.numbers.proofs.Outputs.{output-refused, output_whole}
use Rattle.linear_model.specs.Trits.{pack_trits}
use Rattle.linear_model.proofs.Vectors.{length-pack_trits}
use Rattle.source_model.specs.Draw.{copied, trit_of, drawn, tape_from, source_number}
use Rattle.source_model.proofs.Copied.{length-copied}
use Rattle.pair_model.specs.Scheme.{Scheme}
use Rattle.pair_model.specs.Tape.{tape_bytes}
use Rattle.pair_model.specs.Sampler.{copied_bytes, wanted_trits, sampled, next_pair, sample_conditions, sample_number}

-- a part of a string has its length
pub part_long : (c m : ℕ) (o : List ℕ) → c + m ≤ length o → m ≤ length (take (c + m - c) (drop c o))
part_long c m o h = simp (length-take, length-drop) (omega arith)

module _ (S : Scheme) (s : List ℕ) (start : ℕ) where
  -- too short an output slice
  pub sample_output : (n : ℕ) → n < tape_bytes S → 1 ≡ sample_number S s start n
  unfolding first sample_conditions
  sample_output n h = simp (lt-ltb n (tape_bytes S) h)

  -- a draw of c copied bytes and w trits is the scheme's
  module _ {c w : ℕ} (ec : c ≡ copied_bytes S) (ew : w ≡ wanted_trits S) where
    pub sample_number_lem : (n r : ℕ) → tape_bytes S ≤ n → r ≡ source_number c w s start → r ≡ sample_number S s start n
    unfolding first sample_conditions
    sample_number_lem n r h e = e ∙ (λ i. source_number (ec i) (ew i) s start) ∙ rw (le-ltb n (tape_bytes S) h)

    pub sample_next : (v : ℕ) → v ≡ (drawn c w s start).next → v ≡ next_pair S s start
    unfolding next_pair
    sample_next v e = e ∙ (λ i. (drawn (ec i) (ew i) s start).next)

    -- a refusal leaves the part that was lent, and so all
    pub sample_refused : (k r : ℕ) (d o : List ℕ) → r ≢ 0 → o ≡ output r (copied c s start) (take k d) → o ++ drop k d ≡ output r (sampled S s start) d
    sample_refused k r d o n e =
        ap (λ (x : List ℕ). x ++ drop k d) (e ∙ sym (output-refused r (copied c s start) (take k d) n)) ∙ take-append-drop k d
        ∙ output-refused r (sampled S s start) d n

    -- the copied bytes in the first k, then the planes of the trits in the 2 × m after them
    module _ (k m : ℕ) (ek : c ≡ k) (em : S.inner_bytes ≡ m) (d : List ℕ) (room : k + 2 * m ≤ length d) where
      pub sample_written : (r : ℕ) (t o v : List ℕ) → r ≡ 0 → o ≡ output r (copied c s start) (take k d) → t ≡ (drawn c w s start).trits
          → v ≡ pack_trits m (trit_of t) ++ drop (2 * m) (take (k + 2 * m - k) (drop k (o ++ drop k d)))
          → take k (o ++ drop k d) ++ (v ++ drop (k + 2 * m - k) (drop k (o ++ drop k d))) ≡ output r (sampled S s start) d
      unfolding output sampled tape_from
      sample_written r t o v z eo et ev =
          let x = copied c s start in
          let p = pack_trits m (trit_of t) in
          let n : k + 2 * m - k ≡ 2 * m = omega arith in
          let lx : length x ≡ k = length-copied c s start ∙ ek in
          let front : o ≡ x = eo ∙ ap (λ (y : ℕ). output y x (take k d)) z ∙ output_whole x (take k d) (omega (arith, length-take k d)) in
          let lo : length o ≡ k = ap length front ∙ lx in
          let behind : drop k (o ++ drop k d) ≡ drop k d = drop_at o (drop k d) k lo in
          let only : v ≡ p =
          ev ∙ (λ i. p ++ drop (2 * m) (take (n i) (behind i)))
          ∙ ap (λ (y : List ℕ). p ++ y) (drop_of_length-le (take (2 * m) (drop k d)) {i = 2 * m} (omega (arith, length-take (2 * m) (drop k d)))) ∙ append-nil p in
          let tape : sampled S s start ≡ x ++ p =
          (λ i. copied (sym ec i) s start ++ pack_trits (em i) (trit_of (drawn (sym ec i) (sym ew i) s start).trits)) ∙ ap (λ (y : List ℕ). x ++ pack_trits m (trit_of y)) (sym et) in
          let long : k + 2 * m ≡ length (x ++ p) = sym (length-append x p ∙ (λ i. lx i + length-pack_trits m (trit_of t) i)) in
          (λ i. take_at o (drop k d) k lo i ++ (only i ++ drop (n i) (behind i))) ∙ ap (λ (y : List ℕ). o ++ (p ++ y)) (drop-drop (2 * m) k d)
          ∙ (λ i. front i ++ (p ++ drop (long i) d)) ∙ sym (append_assoc x p (drop (length (x ++ p)) d)) ∙ ap (λ (y : List ℕ). y ++ drop (length y) d) (sym tape)
          ∙ ap (λ (y : ℕ). output y (sampled S s start) d) (sym z)
