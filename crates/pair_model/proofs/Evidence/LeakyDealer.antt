-- A dealer that puts w̃ in the place of z0 does not have `Privacy`: with it and both masks unit 0 knows the inner vector w.
use Prim.Native.Nat.{ℕ}
use mathlib.Core.Path.{◌≡◌, refl, sym, ap, ◌∙◌}
use mathlib.Core.Logic.{◌≢◌}
use mathlib.Core.List.{List}
use Rattle.linear_model.specs.Bits.{Bytes, add_bits}
use Rattle.linear_model.proofs.Strings.{add_twice}
use Rattle.pair_model.specs.Scheme.{Files, Scheme, Linear, side0}
use Rattle.pair_model.specs.Tape.{Accepted, w̃, z}
use Rattle.pair_model.specs.Frame.{frame, header, body_of}
use Rattle.pair_model.specs.Run.{Inputs, WellFormed, run_of}
use Rattle.pair_model.specs.View.{View, view}
use Rattle.pair_model.specs.Theorem.{SameForFixed, Hides, Privacy}
use Rattle.pair_model.specs.Leaky.{with_inner_mask, inner_mask_dealt}
use Rattle.pair_model.proofs.Theorem.TapeParts.{Parts, Whole, tape_of, accepted_of, parts_of, parts-tape, whole_parts}
use Rattle.pair_model.proofs.Theorem.Pairing.{inner_of}
use Rattle.pair_model.proofs.Theorem.MaskLaws.{mask-sum}
use Rattle.pair_model.proofs.Theorem.Stages.{incoming, unit_at}
use Rattle.pair_model.proofs.Evidence.Leaky.{event_at}
use Rattle.pair_model.proofs.Evidence.OtherTape.{five, Seen, seen, same_five}

module _ (S : Scheme) (tape : List ℕ) (h : Accepted S tape) where
  -- the parts of the tape that is dealt
  abbrev parts : Parts
  parts = let p = parts_of S tape in record { key_mask = p.key_mask; label_mask = p.label_mask; innermask = p.innermask; z0 = p.innermask; r0 = p.r0 }

  whole : Whole S parts
  whole =
      let w = whole_parts S tape h in
      record { key_mask = w.key_mask; label_mask = w.label_mask; innermask = w.innermask; z0 = w.innermask; r0 = w.r0; fit = w.fit }

  parts_are : parts_of S (with_inner_mask S tape) ≡ parts
  unfolding with_inner_mask tape_of
  parts_are = parts-tape S parts whole

  accepted : Accepted S (with_inner_mask S tape)
  unfolding with_inner_mask tape_of
  accepted = accepted_of S parts whole

-- what unit 0 computes of its state and the other's mask
abbrev known : Scheme → View → List ℕ
known S v =
    let s = (event_at 1 v).after.secrets in
    add_bits S.inner_bytes (add_bits S.inner_bytes s.own_mask (body_of (event_at 2 v).frame)) s.z

-- is the inner vector
knows : (S : Scheme) → Linear S → (a : Inputs) (tape : List ℕ) → WellFormed S a → Accepted S tape → Bytes S.inner_bytes (inner_of S a)
    → (lent : Files) → lent ≡ a.files → known S (view (inner_mask_dealt S) side0 (run_of a tape) (five S lent)) ≡ inner_of S a
unfolding unit_at incoming frame header z
knows S L a tape well h b lent e =
    (λ j.
    let s = (v.after j).secrets in
    add_bits S.inner_bytes (add_bits S.inner_bytes s.own_mask (body_of (v.mask-frame j))) s.z)
    ∙ (λ j. add_bits S.inner_bytes (mask-sum S L a τ j) (parts_are S tape h j).z0)
    ∙ ap (λ (x : List ℕ). add_bits S.inner_bytes (add_bits S.inner_bytes (inner_of S a) x) (w̃ S tape)) (λ j. (parts_are S tape h j).innermask)
    ∙ add_twice S.inner_bytes (inner_of S a) (w̃ S tape) b
  where
    τ : List ℕ
    τ = with_inner_mask S tape

    v : Seen S L (with_inner_mask S) a tape well (accepted S tape h) (view (inner_mask_dealt S) side0 (run_of a tape) (five S lent))
    v = seen S L (with_inner_mask S) a tape well (accepted S tape h) lent e

-- inputs of different inner vectors are told apart
pub inner-mask_leaks : (S : Scheme) → Linear S → (a b : Inputs) → WellFormed S a → WellFormed S b → SameForFixed side0 a b
    → Bytes S.inner_bytes (inner_of S a) → Bytes S.inner_bytes (inner_of S b) → inner_of S a ≢ inner_of S b
    → (tape : List ℕ) → Accepted S tape → ¬ Privacy (inner_mask_dealt S)
inner-mask_leaks S L a b well₁ well₂ g bytes₁ bytes₂ differ tape h privacy =
    differ (sym (knows S L a tape well₁ h bytes₁ a.files refl)
    ∙ ap (known S) (same_five S L (with_inner_mask S) a b well₁ tape h (accepted S tape h) H)
    ∙ knows S L b (H.pairing.forth tape) well₂ (H.pairing.forth_holds tape h) bytes₂ a.files g.files)
  where
    H : Hides (inner_mask_dealt S) side0 a b
    H = privacy side0 a b well₁ well₂ g
