-- `pair_slices::slices::advance_slice` meets its contract: by what the state in the slice waits for.
use mathlib.Core.Path.{◌≡◌, refl, sym, ap, subst, ◌∙◌}
use mathlib.Core.List.{List}
use Prim.Native.Nat.{ℕ, ◌≤◌}
use native.Mathlib.Omega.{arith}
use lib.ListN.{length}
use Rattle.linear_model.specs.Products.{plane_bytes}
use Rattle.numbers.specs.Number.{at_front}
use Rattle.pair_frames.specs.Schemes.{scheme_in}
use Rattle.pair_model.specs.Scheme.{Files, files, no_files, Scheme}
use Rattle.pair_model.specs.Frame.{carried_parameters, mask_kind, share_kind, kind_of, frame_bytes, body_of}
use Rattle.pair_model.specs.Unit.{Stepped, step_number, step_reading}
use Rattle.pair_model.specs.StateSlice.{encode_state, decode_as}
use Rattle.pair_model.proofs.Theorem.StepLaws.{Fits, fits}
use Rattle.pair_model.proofs.Internal.Lengths.{deal-length, open_length, share-length}
use Rattle.pair_model.proofs.Internal.Advances.{advance-deal, advance_open, advance-mask}
use Rattle.pair_slices.proofs.slices.advance_slice.Goals as goal

-- what is known of a frame that is accepted, by the slice's bytes
module _ (S : Scheme) (s f : List ℕ) (lent : Files) (n : ℕ) (z : step_number S (carried_parameters s) (kind_of s) f lent n ≡ 0) where
  accepted : Fits S (carried_parameters s) (kind_of s) f lent n
  accepted = fits S (carried_parameters s) (kind_of s) f lent n z

  long : (k : ℕ) → kind_of s ≡ k → length f ≡ frame_bytes S k
  long k e = accepted.frame-length ∙ ap (frame_bytes S) e

  -- what waits for neither a deal nor an open frame waits for a mask frame
  last : (kind_of s ≡ 1 → ⊥) → (kind_of s ≡ 2 → ⊥) → kind_of s ≡ mask_kind
  last d o = let h = accepted in omega (arith, h.low, h.high, d, o)

  share_fits : plane_bytes S.digits ≤ S.key_bytes → frame_bytes S share_kind ≤ n
  share_fits e = omega (arith, accepted.room)

  read : kind_of s ≡ mask_kind → length (S.rows_reading.content lent) ≡ S.rows_reading.bytes
  read e = subst (λ (k : ℕ). length ((step_reading S k).content lent) ≡ (step_reading S k).bytes) e accepted.read_length

-- the stage of the state in a slice is its first byte
waits : (S : Scheme) (s : List ℕ) (k : ℕ) → kind_of s ≡ k → (decode_as S s).stage ≡ k
unfolding decode_as
waits S s k e = e

-- what was done is the step w, where that is v
moved : (v w : Stepped) (r : ℕ) (s o out : List ℕ) → w ≡ v → r ≡ length v.written → s ≡ encode_state v.next → out ≡ at_front v.written o
    → record { count : r ≡ length w.written; state : s ≡ encode_state w.next; output : out ≡ at_front w.written o }
moved v w r s o out e a b c =
    record {
      count = a ∙ sym (ap (λ (x : Stepped). length x.written) e);
      state = b ∙ sym (ap (λ (x : Stepped). encode_state x.next) e);
      output = c ∙ sym (ap (λ (x : Stepped). at_front x.written o) e);
    }

pub deal_in_place-requires : goal.deal_in_place-requires
deal_in_place-requires c =
    let a = c.args in
    let S = scheme_in a.sizes in
    let lent = files a.file.now in
    let n = length a.out.now in
    (c.requires.0, long S a.state.now a.f.now lent n c.requires.1 1 c.in-1.is, (accepted S a.state.now a.f.now lent n c.requires.1).room)

pub returns-in-1 : goal.returns-in-1
returns-in-1 c =
    let a = c.args in
    let S = scheme_in a.sizes in
    let u = decode_as S a.state.now in
    let b = body_of a.f.now in
    let e = advance-deal S u b (files a.file.now) (waits S a.state.now 1 c.in-1.is) in
    moved _ _ _ _ a.out.now _ e (c.frame_bytes.ensures ∙ deal-length S u b) c.deal_in_place.ensures.state c.deal_in_place.ensures.output

pub open_in_place-requires : goal.open_in_place-requires
open_in_place-requires c =
    let a = c.args in
    let S = scheme_in a.sizes in
    let lent = files a.file.now in
    let n = length a.out.now in
    (c.requires.0, long S a.state.now a.f.now lent n c.requires.1 2 c.in-2.is, (accepted S a.state.now a.f.now lent n c.requires.1).room)

pub returns-in-2 : goal.returns-in-2
returns-in-2 c =
    let a = c.args in
    let S = scheme_in a.sizes in
    let u = decode_as S a.state.now in
    let b = body_of a.f.now in
    let e = advance_open S u b (files a.file.now) no_files refl (waits S a.state.now 2 c.in-2.is) in
    moved _ _ _ _ a.out.now _ e (c.frame_bytes-in-2.ensures ∙ open_length S u b no_files) c.open_in_place.ensures.state c.open_in_place.ensures.output

pub mask_in_place-requires : goal.mask_in_place-requires
mask_in_place-requires c =
    let a = c.args in
    let S = scheme_in a.sizes in
    let t = a.state.now in
    let f = a.f.now in
    let lent = files a.file.now in
    let n = length a.out.now in
    let m = last S t f lent n c.requires.1 (omega arith) (omega arith) in
    (c.requires.0, long S t f lent n c.requires.1 3 m, share_fits S t f lent n c.requires.1 c.args.sizes.fits.share, read S t f lent n c.requires.1 m)

pub returns-in_default : goal.returns-in_default
returns-in_default c =
    let a = c.args in
    let S = scheme_in a.sizes in
    let lent = files a.file.now in
    let u = decode_as S a.state.now in
    let b = body_of a.f.now in
    let m = last S a.state.now a.f.now lent (length a.out.now) c.requires.1 (omega arith) (omega arith) in
    let e = advance-mask S u b lent (waits S a.state.now 3 m) in
    moved _ _ _ _ a.out.now _ e (c.frame_bytes-in_default.ensures ∙ share-length S u b lent) c.mask_in_place.ensures.state c.mask_in_place.ensures.output
