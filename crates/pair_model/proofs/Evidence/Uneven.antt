-- A dealer that uses K̃1 unevenly has no pairing in which each tape has one of its own: two tapes of the first run would share one of the second.
use Prim.Native.Nat.{ℕ, zero, suc, ◌*◌, ◌/◌, ◌%◌, ◌<◌}
use mathlib.Core.Path.{◌≡◌, refl, sym, ap, ap₂, ◌∙◌}
use mathlib.Core.List.{List, [], ◌∷◌}
use mathlib.Core.Bool.{Bool, true, false, cond}
use native.Mathlib.Omega.{arith}
use native.Mathlib.Nat.{le_refl}
use borrow.Author.Tests.{eqb-true}
use lib.Dec.{eqb, lit<}
use lib.ListN.{length, get_or, drop}
use Rattle.linear_model.specs.Bits.{Bytes, zeros, from_bits, bit, pack, add_bits}
use Rattle.linear_model.specs.Tables.{tabulate, sum, every}
use Rattle.linear_model.specs.Trits.{trit, fit_trits}
use Rattle.linear_model.specs.Products.{bit_product}
use Rattle.linear_model.proofs.Strings.{bytes_zeros}
use Rattle.pair_model.specs.Scheme.{side0, side1, field, concat}
use Rattle.pair_model.specs.Tape.{Accepted, K̃, x̃, w̃, z0, r0, z, r}
use Rattle.pair_model.specs.Frame.{frame, header, body_of, open_layout}
use Rattle.pair_model.specs.Unit.{State, least_output}
use Rattle.pair_model.specs.Run.{run_of}
use Rattle.pair_model.specs.View.{View, view}
use Rattle.pair_model.specs.Theorem.{Hides, Privacy}
use Rattle.pair_model.specs.Leaky.{small, without_bit0, with_uneven_mask, uneven_mask_dealt}
use Rattle.pair_model.proofs.Theorem.TapeParts.{Parts, Whole, tape_of, accepted_of, parts_of, parts-tape, whole_parts, tape-parts}
use Rattle.pair_model.proofs.Theorem.Pairing.{inner_of}
use Rattle.pair_model.proofs.Theorem.MaskLaws.{mask-sum, open_key, open_label}
use Rattle.pair_model.proofs.Theorem.Stages.{incoming, unit_at, open_field}
use Rattle.pair_model.proofs.Evidence.Small.{a, b, well₁, well₂, same_for, zero_one, small_linear, zero-tape}
use Rattle.pair_model.proofs.Evidence.Leaky.{event_at}
use Rattle.pair_model.proofs.Evidence.WithoutZ.{apart}
use Rattle.pair_model.proofs.Evidence.OtherTape.{five, Seen, seen, same_five}

-- ---- the tape that is dealt

bytes_without : (s : List ℕ) → Bytes 1 s → Bytes 1 (without_bit0 s)
bytes_without [] h = h
bytes_without (x ∷ s) h = record { size = h.size; small = at }
  where
    at : (i : ℕ) → get_or (x / 2 * 2 ∷ s) i 0 < 256
    at zero = omega (arith, h.small 0)
    at (suc i) = h.small (suc i)

module _ (tape : List ℕ) (h : Accepted small tape) where
  abbrev first : List ℕ
  first = K̃ small tape side0

  abbrev second : List ℕ
  second = cond (eqb (bit first 0) 1) (K̃ small tape side1) (without_bit0 (K̃ small tape side1))

  -- its parts
  abbrev parts : Parts
  parts =
      let p = parts_of small tape in
      record {
        key_mask = λ i. elim i [ side0 ↦ without_bit0 first | side1 ↦ second ];
        label_mask = p.label_mask;
        innermask = p.innermask;
        z0 = p.z0;
        r0 = p.r0;
      }

  whole : Whole small parts
  whole =
      let w = whole_parts small tape h in
      record {
        key_mask = λ i. elim i as (λ j. Bytes 1 (parts.key_mask j)) [ side0 ↦ bytes_without first (w.key_mask side0) | side1 ↦ either (eqb (bit first 0) 1) ];
        label_mask = w.label_mask;
        innermask = w.innermask;
        z0 = w.z0;
        r0 = w.r0;
        fit = w.fit;
      }
    where
      either : (c : Bool) → Bytes 1 (cond c (K̃ small tape side1) (without_bit0 (K̃ small tape side1)))
      either true = (whole_parts small tape h).key_mask side1
      either false = bytes_without (K̃ small tape side1) ((whole_parts small tape h).key_mask side1)

  parts_are : parts_of small (with_uneven_mask small tape) ≡ parts
  unfolding with_uneven_mask tape_of
  parts_are = parts-tape small parts whole

  accepted : Accepted small (with_uneven_mask small tape)
  unfolding with_uneven_mask tape_of
  accepted = accepted_of small parts whole

-- ---- what a view of the second run tells of its tape

-- the one tape of the second run that shows what zeros show in the first
abbrev only : List ℕ
only = 1 ∷ 1 ∷ 0 ∷ 0 ∷ 1 ∷ 0 ∷ 0 ∷ 0 ∷ []

-- a string of one byte
one_byte : (s : List ℕ) → length s ≡ 1 → s ≡ get_or s 0 0 ∷ []
one_byte [] e = absurd (zero-not_one e)
  where
    zero-not_one : ¬ (◌≡◌ {A = ℕ} 0 1)
    zero-not_one q = omega arith
one_byte (x ∷ []) e = refl
one_byte (x ∷ y ∷ s) e = absurd (omega (arith, e))

-- bytes from which K̃0 was dealt as 0 and K̃1 as 1
module _ (x y : ℕ) (e : x / 2 * 2 ≡ 0) where
  both_one : (c : Bool) → eqb (x / 1 % 2) 1 ≡ c → get_or (cond c (y ∷ []) (y / 2 * 2 ∷ [])) 0 0 ≡ 1 → (x ≡ 1) × (y ≡ 1)
  both_one true q h = (omega (arith, e, eqb-true (x / 1 % 2) 1 q), h)
  both_one false q h = absurd (omega (arith, h))

module _ (u : List ℕ) (h : Accepted small u) where
  abbrev dealt : Parts
  dealt = parts_of small (with_uneven_mask small u)

  -- what must have been dealt
  record Dealt : Type 0 where
    first_is : dealt.key_mask side0 ≡ 0 ∷ []
    second_is : dealt.key_mask side1 ≡ 1 ∷ []
    label_0 : dealt.label_mask side0 ≡ 0 ∷ []
    label_1 : dealt.label_mask side1 ≡ 0 ∷ []
    inner_is : dealt.innermask ≡ 1 ∷ []
    z_is : dealt.z0 ≡ 0 ∷ []
    r_is : dealt.r0 ≡ 0 ∷ 0 ∷ []

  -- it is dealt from one tape alone
  is_only : Dealt → u ≡ only
  unfolding tape_of concat bit
  is_only d =
      sym (tape-parts small u h)
      ∙ (λ j.
      concat (key_0 j ∷ key_1 j ∷ part (λ p. p.label_mask side0) d.label_0 j ∷ part (λ p. p.label_mask side1) d.label_1 j
      ∷ part (λ p. p.innermask) d.inner_is j ∷ part (λ p. p.z0) d.z_is j ∷ part (λ p. p.r0) d.r_is j ∷ []))
    where
      w : Whole small (parts_of small u)
      w = whole_parts small u h

      x : ℕ
      x = get_or (K̃ small u side0) 0 0

      y : ℕ
      y = get_or (K̃ small u side1) 0 0

      x_is : K̃ small u side0 ≡ x ∷ []
      x_is = one_byte (K̃ small u side0) (w.key_mask side0).size

      y_is : K̃ small u side1 ≡ y ∷ []
      y_is = one_byte (K̃ small u side1) (w.key_mask side1).size

      half : x / 2 * 2 ≡ 0
      half =
          ap (λ (s : List ℕ). get_or (without_bit0 s) 0 0) (sym x_is)
          ∙ ap (λ (p : Parts). get_or (p.key_mask side0) 0 0) (sym (parts_are u h)) ∙ ap (λ (s : List ℕ). get_or s 0 0) d.first_is

      kept : get_or (cond (eqb (x / 1 % 2) 1) (y ∷ []) (y / 2 * 2 ∷ [])) 0 0 ≡ 1
      kept =
          (λ j. get_or (cond (eqb (bit (sym x_is j) 0) 1) (sym y_is j) (without_bit0 (sym y_is j))) 0 0)
          ∙ ap (λ (p : Parts). get_or (p.key_mask side1) 0 0) (sym (parts_are u h)) ∙ ap (λ (s : List ℕ). get_or s 0 0) d.second_is

      ones : (x ≡ 1) × (y ≡ 1)
      ones = both_one x y half (eqb (x / 1 % 2) 1) refl kept

      key_0 : K̃ small u side0 ≡ 1 ∷ []
      key_0 = x_is ∙ ap (λ (n : ℕ). n ∷ []) ones.0

      key_1 : K̃ small u side1 ≡ 1 ∷ []
      key_1 = y_is ∙ ap (λ (n : ℕ). n ∷ []) ones.1

      -- the other parts are dealt as they are
      part : (f : Parts → List ℕ) {s : List ℕ} → f dealt ≡ s → f (parts u h) ≡ s
      part f e = ap f (sym (parts_are u h)) ∙ e

-- ---- a view of the second run that is the first one's with zeros dealt

module _ (t u : List ℕ) (h₁ : Accepted small t) (h₂ : Accepted small u) (zeros-dealt : with_uneven_mask small t ≡ zeros 8)
    (views : view (uneven_mask_dealt small) side0 (run_of a t) (five small a.files) ≡ view (uneven_mask_dealt small) side0 (run_of b u) (five small a.files)) where
  s₁ : Seen small small_linear (with_uneven_mask small) a t well₁ (accepted t h₁) (view (uneven_mask_dealt small) side0 (run_of a t) (five small a.files))
  s₁ = seen small small_linear (with_uneven_mask small) a t well₁ (accepted t h₁) a.files refl

  s₂ : Seen small small_linear (with_uneven_mask small) b u well₂ (accepted u h₂) (view (uneven_mask_dealt small) side0 (run_of b u) (five small a.files))
  s₂ = seen small small_linear (with_uneven_mask small) b u well₂ (accepted u h₂) a.files refl

  state_same : unit_at small a (zeros 8) side0 2 ≡ unit_at small b (with_uneven_mask small u) side0 2
  state_same =
      ap (λ (τ : List ℕ). unit_at small a τ side0 2) (sym zeros-dealt) ∙ sym s₁.after ∙ ap (λ (v : View). (event_at 1 v).after) views ∙ s₂.after

  open_same : incoming small a (zeros 8) side0 1 ≡ incoming small b (with_uneven_mask small u) side0 1
  open_same =
      ap (λ (τ : List ℕ). incoming small a τ side0 1) (sym zeros-dealt) ∙ sym s₁.open_frame ∙ ap (λ (v : View). (event_at 1 v).frame) views ∙ s₂.open_frame

  mask_same : incoming small a (zeros 8) side0 2 ≡ incoming small b (with_uneven_mask small u) side0 2
  mask_same =
      ap (λ (τ : List ℕ). incoming small a τ side0 2) (sym zeros-dealt) ∙ sym s₁.mask-frame ∙ ap (λ (v : View). (event_at 2 v).frame) views ∙ s₂.mask-frame

  abbrev τ : List ℕ
  τ = with_uneven_mask small u

  -- what side 1 opens, key half and label half
  opened : (k : ℕ) → get_or (open_key small a (zeros 8) side1 ∷ open_label small a (zeros 8) side1 ∷ []) k []
      ≡ get_or (open_key small b τ side1 ∷ open_label small b τ side1 ∷ []) k []
  unfolding incoming frame header
  opened k =
      sym (open_field small small_linear a (zeros 8) well₁ zero-tape side0 a.files (least_output small) (le_refl (least_output small)) side1 k)
      ∙ ap (λ (f : List ℕ). field (open_layout small) k (body_of f)) open_same
      ∙ open_field small small_linear b τ well₂ (accepted u h₂) side0 b.files (least_output small) (le_refl (least_output small)) side1 k

  -- both masks, and so w under w̃
  masks : add_bits 1 (inner_of small a) (w̃ small (zeros 8)) ≡ add_bits 1 (inner_of small b) (w̃ small τ)
  unfolding unit_at incoming frame header
  masks =
      sym (mask-sum small small_linear a (zeros 8)) ∙ ap₂ (add_bits 1) (ap (λ (s : State). s.secrets.own_mask) state_same) (ap body_of mask_same)
      ∙ mask-sum small small_linear b τ

  -- so the dealt tape of the second run is known part by part
  all_dealt : Dealt u h₂
  unfolding unit_at z r K̃ x̃ w̃ z0 r0 field add_bits pack tabulate from_bits bit bit_product sum
  all_dealt =
      let w = whole_parts small τ (accepted u h₂) in
      record {
        first_is = sym (ap (λ (s : State). s.secrets.key_mask) state_same);
        second_is = apart (K̃ small τ side1) (1 ∷ []) (0 ∷ []) (w.key_mask side1) (opened 0);
        label_0 = sym (ap (λ (s : State). s.secrets.label_mask) state_same);
        label_1 = apart (x̃ small τ side1) (0 ∷ []) (0 ∷ []) (w.label_mask side1) (opened 1);
        inner_is = apart (w̃ small τ) (1 ∷ []) (0 ∷ []) w.innermask masks;
        z_is = sym (ap (λ (s : State). s.secrets.z) state_same);
        r_is = sym (ap (λ (s : State). s.secrets.r) state_same);
      }

-- ---- two tapes of the first run that deal zeros

abbrev t₁ : List ℕ
t₁ = zeros 8

abbrev t₂ : List ℕ
t₂ = 0 ∷ 1 ∷ zeros 6

second-accepted : Accepted small t₂
unfolding r0 field fit_trits every trit bit
second-accepted = record { bytes = record { size = refl; small = at }; fit = tt }
  where
    at : (i : ℕ) → get_or t₂ i 0 < 256
    at zero = lit< tt
    at (suc zero) = lit< tt
    at (suc (suc i)) = (bytes_zeros 6).small i

deals_zeros : (with_uneven_mask small t₁ ≡ zeros 8) × (with_uneven_mask small t₂ ≡ zeros 8)
unfolding with_uneven_mask K̃ x̃ w̃ z0 r0 field concat bit
deals_zeros = (refl, refl)

-- they would have one partner
pub uneven_mask : ¬ Privacy (uneven_mask_dealt small)
uneven_mask privacy =
    zero_one _ _ (ap (drop 1) (sym (H.pairing.back_forth t₁ zero-tape)
    ∙ ap H.pairing.back (partner t₁ zero-tape deals_zeros.0 ∙ sym (partner t₂ second-accepted deals_zeros.1))
    ∙ H.pairing.back_forth t₂ second-accepted))
  where
    H : Hides (uneven_mask_dealt small) side0 a b
    H = privacy side0 a b well₁ well₂ same_for

    partner : (t : List ℕ) (h : Accepted small t) → with_uneven_mask small t ≡ zeros 8 → H.pairing.forth t ≡ only
    partner t h e =
        let k = H.pairing.forth_holds t h in
        is_only (H.pairing.forth t) k (all_dealt t (H.pairing.forth t) h k e (same_five small small_linear (with_uneven_mask small) a b well₁ t h (accepted t h) H))
