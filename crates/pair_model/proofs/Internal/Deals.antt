-- The dealer's number, by its tests, and what it writes.
use mathlib.Core.Path.{◌≡◌, sym, ap, ◌∙◌}
use mathlib.Core.List.{List, [], ◌∷◌, ◌++◌, append-nil, append_assoc}
use mathlib.Core.Bool.{false, not}
use Prim.Native.Nat.{ℕ, ◌+◌, ◌-◌, ◌*◌, ◌/◌, ◌<◌, ◌≤◌, min}
use native.Mathlib.Omega.{arith}
use native.Mathlib.Nat.{le_refl}
use borrow.Author.Tests.{lt-ltb, le-ltb}
use lib.Dec.{ltb, eqb, lit<}
use lib.ListN.{length, take, drop, length-append, length-drop, drop_of_length-le}
use lib.Seq.{take_at, drop_at, take_all, drop-drop, length-take-le}
use Rattle.linear_model.specs.Bits.{zeros}
use Rattle.linear_model.specs.Trits.{fit_trits}
use Rattle.linear_model.proofs.Strings.{bytes_add, length-zeros}
use Rattle.linear_model.proofs.Vectors.{length-pack_trits, bytes_subtract}
use Rattle.numbers.specs.Number.{first, output}
use Rattle.source_model.specs.Draw.{trit_of, drawn, tape_from}
use Rattle.source_model.proofs.Copied.{length-copied}
use Rattle.pair_model.specs.Scheme.{Files, bad_length, faults_in, Scheme, Side, side0, side1, layout_bytes, concat}
use Rattle.pair_model.specs.Tape.{tape_bytes, w̃, z, r0, r, deal_layout, deal}
use Rattle.pair_model.specs.Frame.{SharedParameters, parameters_of, deal_kind, frame_bytes, header_bytes}
use Rattle.pair_model.specs.Sampler.{copied_bytes, wanted_trits, sampled, sample_conditions, sample_number}
use Rattle.pair_model.specs.Dealer.{deal_frame, dealt, dealt_bytes, deal_conditions, deal_number, deal_source_conditions, deal_source_number}
use Rattle.numbers.proofs.Outputs.{output_whole}
use Rattle.numbers.proofs.Numbers.{at_least, first-none, is_equal, is_at_least, NoneHolds, first-merge}
use Rattle.pair_model.proofs.Internal.Fields.{tape_K̃0, tape_K̃1, tape_x̃0, tape_x̃1, tape-z0, tape-r0}
use Rattle.pair_model.proofs.Internal.Lengths.{length-frame}
use Rattle.pair_model.proofs.Internal.Contents.{fit_vector}

module _ (S : Scheme) where
  abbrev m : ℕ
  m = S.inner_bytes

  -- the end of a tape, judged in two planes, is r0
  pub fit_r0 : (t : List ℕ) → length t ≡ tape_bytes S → let v = take (2 * m) (drop (4 * S.key_bytes + 2 * m) t) in
      fit_trits (length v / 2) (min (8 * m) (8 * (length v / 2))) v ≡ fit_trits m (8 * m) (r0 S t)
  fit_r0 t e =
      fit_vector m _ (length-take-le (2 * m) (drop (4 * S.key_bytes + 2 * m) t) (rw length-drop (omega arith))) ∙ ap (fit_trits m (8 * m)) (tape-r0 S t)

  -- what is accepted has a tape of the stated length and room for both frames
  pub record Fits (t : List ℕ) (n : ℕ) : Type 0 where
    pub tape-length : length t ≡ tape_bytes S
    pub room : dealt_bytes S ≤ n

  pub deal_fits : (lent : Files) (t : List ℕ) (n : ℕ) → deal_number S lent t n ≡ 0 → Fits t n
  unfolding deal_conditions
  deal_fits lent t n e =
      let l = first-none 1 (not (eqb (length t) (tape_bytes S))) _ (lit< tt) e in
      let r = first-none 1 (ltb n (dealt_bytes S)) _ (lit< tt) l.1 in
      record { tape-length = is_equal (length t) (tape_bytes S) l.0; room = is_at_least n (dealt_bytes S) r.0 }

  -- over source bytes: too little room, or else, where what the product reads is fit, the sampler's number
  module _ (lent : Files) (source : List ℕ) (s n : ℕ) where
    pub source_room : n < dealt_bytes S → 1 ≡ deal_source_number S lent source s n
    unfolding first deal_source_conditions
    source_room h = simp (lt-ltb n (dealt_bytes S) h)

    pub source_number_lem : bad_length S.product_reading lent ≡ false → NoneHolds (faults_in S.product_reading lent) → dealt_bytes S ≤ n
        → sample_number S source s (tape_bytes S) ≡ deal_source_number S lent source s n
    unfolding first sample_conditions deal_source_conditions
    source_number_lem e none h =
        rw (at_least (tape_bytes S) (tape_bytes S) (le_refl (tape_bytes S)), le-ltb n (dealt_bytes S) h, e, first-merge (faults_in S.product_reading lent) _ none)

  -- a sampled tape has its length whatever the source
  pub length-sampled : (source : List ℕ) (s : ℕ) → length (sampled S source s) ≡ tape_bytes S
  unfolding sampled tape_from
  length-sampled source s =
      let trits = trit_of (drawn (copied_bytes S) (wanted_trits S) source s).trits in
      rw length-append (omega (arith, length-copied (copied_bytes S) source s, length-pack_trits m trits))

  -- so it fills its bytes
  pub sampled_whole : (source : List ℕ) (s : ℕ) → output 0 (sampled S source s) (zeros (tape_bytes S)) ≡ sampled S source s
  sampled_whole source s = output_whole (sampled S source s) (zeros (tape_bytes S)) (omega (arith, length-zeros (tape_bytes S), length-sampled source s))

  -- ---- what is written

  -- a deal is as long as its fields
  four_long : (a b c d : List ℕ) → length a ≡ S.key_bytes → length b ≡ S.key_bytes → length c ≡ m → length d ≡ 2 * m
      → length (concat (a ∷ b ∷ c ∷ d ∷ [])) ≡ layout_bytes (deal_layout S)
  unfolding concat
  four_long a b c d ea eb ec ed = simp length-append (omega arith)

  module _ (lent : Files) (t : List ℕ) (e : length t ≡ tape_bytes S) where
    part : (k n : ℕ) {s : List ℕ} → k + n ≤ tape_bytes S → take n (drop k t) ≡ s → length s ≡ n
    part k n h q = ap length (sym q) ∙ length-take-le n (drop k t) (rw length-drop (omega arith))

    deal_long : (i : Side) → length (deal S lent t i) ≡ layout_bytes (deal_layout S)
    unfolding deal z r
    deal_long side0 =
        four_long _ _ _ _ (part 0 S.key_bytes (omega arith) (tape_K̃0 S t)) (part (2 * S.key_bytes) S.key_bytes (omega arith) (tape_x̃0 S t))
        (part (4 * S.key_bytes + m) m (omega arith) (tape-z0 S t)) (part (4 * S.key_bytes + 2 * m) (2 * m) (omega arith) (tape-r0 S t))
    deal_long side1 =
        four_long _ _ _ _ (part S.key_bytes S.key_bytes (omega arith) (tape_K̃1 S t)) (part (3 * S.key_bytes) S.key_bytes (omega arith) (tape_x̃1 S t))
        (bytes_add m _ _).size (omega (arith, (bytes_subtract m (w̃ S t) (r0 S t)).size))

    -- a deal frame is as long as its kind says
    pub frame_long : (shared : SharedParameters) (i : Side) → length (deal_frame S shared lent t i) ≡ frame_bytes S deal_kind
    unfolding deal_frame
    frame_long shared i = length-frame deal_kind (parameters_of i shared) (deal S lent t i) ∙ ap (λ (k : ℕ). header_bytes + k) (deal_long i)

  -- the second frame behind the first, over the front of d
  pub deal-written : (shared : SharedParameters) (lent : Files) (t d o p : List ℕ) → length t ≡ tape_bytes S → dealt_bytes S ≤ length d → let w = frame_bytes S deal_kind in
      o ≡ deal_frame S shared lent t side0 ++ drop w d → p ≡ deal_frame S shared lent t side1 ++ drop w (take (length o - w) (drop w o))
      → take w o ++ (p ++ drop (length o - w) (drop w o)) ≡ output 0 (dealt S shared lent t) d
  unfolding output dealt
  deal-written shared lent t d o p l h e ep =
      let w = frame_bytes S deal_kind in
      let a : List ℕ = deal_frame S shared lent t side0 in
      let b : List ℕ = deal_frame S shared lent t side1 in
      let la : length a ≡ w = frame_long lent t l shared side0 in
      let lb : length b ≡ w = frame_long lent t l shared side1 in
      let front : take w o ≡ a = ap (take w) e ∙ take_at a (drop w d) w la in
      let behind : drop w o ≡ drop w d = ap (drop w) e ∙ drop_at a (drop w d) w la in
      let rest : take (length o - w) (drop w o) ≡ drop w d = take_all (length o - w) (drop w o) (rw length-drop (omega arith)) ∙ behind in
      let second : p ≡ b ++ drop (w + w) d = ep ∙ (λ i. b ++ drop w (rest i)) ∙ ap (λ (x : List ℕ). b ++ x) (drop-drop w w d) in
      let none : drop (length o - w) (drop w o) ≡ [] = drop_of_length-le (drop w o) {i = length o - w} (rw length-drop (omega arith)) in
      let both : length (a ++ b) ≡ w + w = length-append a b ∙ (λ i. la i + lb i) in
      (λ i. front i ++ (second i ++ none i)) ∙ ap (λ (x : List ℕ). a ++ x) (append-nil (b ++ drop (w + w) d)) ∙ sym (append_assoc a b (drop (w + w) d))
      ∙ ap (λ (k : ℕ). (a ++ b) ++ drop k d) (sym both)
