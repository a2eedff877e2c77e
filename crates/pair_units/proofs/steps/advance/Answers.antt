-- `pair_units::steps::advance` meets its contract: by what the unit waits for.
use mathlib.Core.Path.{◌≡◌, refl, sym, ap, ◌∙◌, subst}
use mathlib.Core.List.{List}
use Prim.Native.Nat.{ℕ}
use native.Mathlib.Omega.{arith}
use lib.ListN.{length}
use Rattle.linear_model.specs.Bits.{zeros}
use Rattle.linear_model.proofs.Strings.{length-zeros}
use Rattle.numbers.specs.Number.{at_front}
use Rattle.pair_frames.specs.declared.sizes.Sizes.{Sizes}
use Rattle.pair_frames.specs.Headers.{parameters_in}
use Rattle.pair_frames.specs.Schemes.{numbers_in, scheme_in}
use Rattle.pair_model.specs.Scheme.{Files, files, no_files}
use Rattle.pair_model.specs.Frame.{frame_bytes, body_of}
use Rattle.pair_model.specs.Unit.{State, Stepped, done_stage, step_reading, take_mask}
use Rattle.pair_model.proofs.Theorem.StepLaws.{fits}
use Rattle.pair_model.proofs.Internal.Lengths.{deal-length, open_length, share-length}
use Rattle.pair_model.proofs.Internal.Advances.{advance-deal, advance_open, advance-mask}
use Rattle.pair_units.specs.declared.state.UnitState.{UnitState}
use Rattle.pair_units.specs.Units.{state_at, unit_of}
use Rattle.pair_units.proofs.Rooms.{halves_read}
use Rattle.pair_units.proofs.steps.advance.Goals as goal

-- the struct of the done state stands for it
done_read : (z : Sizes) (u : UnitState) (body : List ℕ) (lent : Files) → let s = (take_mask (scheme_in z) (state_at z u) body lent).next in state_at z (unit_of s) ≡ s
unfolding take_mask
done_read z u body lent =
    let n = z.key_bytes in
    halves_read (numbers_in z) (parameters_in u.parameters) done_stage (zeros n) (zeros n) (length-zeros n) (length-zeros n)

-- what a step at this stage leaves is what the state advances to
taken : (s t : Stepped) → s ≡ t → (written : ℕ) (n : State) (o old : List ℕ) → written ≡ length t.written → n ≡ t.next → o ≡ at_front t.written old
    → record { count : written ≡ length s.written; next : n ≡ s.next; output : o ≡ at_front s.written old }
taken s t e written n o old l m p =
    let P : Stepped → Type 0 = λ s. record { count : written ≡ length s.written; next : n ≡ s.next; output : o ≡ at_front s.written old } in
    subst P (sym e) (record { count = l; next = m; output = p })

pub take_deal-requires : goal.take_deal-requires
take_deal-requires c =
    let a = c.args in
    let S = scheme_in a.sizes in
    let u = state_at a.sizes a.u in
    let h = fits S u.parameters u.stage a.f.now (files a.file.now) (length a.out.now) c.requires in
    (h.frame-length ∙ ap (frame_bytes S) c.in-1.is, h.room)

pub returns-in-1 : goal.returns-in-1
returns-in-1 c =
    let a = c.args in
    let S = scheme_in a.sizes in
    let u = state_at a.sizes a.u in
    let b = body_of a.f.now in
    taken _ _ (advance-deal S u b (files a.file.now) c.in-1.is) _ _ _ _ (c.frame_bytes.ensures ∙ deal-length S u b) c.take_deal.ensures.next c.take_deal.ensures.output

pub take_open-requires : goal.take_open-requires
take_open-requires c =
    let a = c.args in
    let S = scheme_in a.sizes in
    let u = state_at a.sizes a.u in
    let h = fits S u.parameters u.stage a.f.now (files a.file.now) (length a.out.now) c.requires in
    (h.frame-length ∙ ap (frame_bytes S) c.in-2.is, h.room)

pub returns-in-2 : goal.returns-in-2
returns-in-2 c =
    let a = c.args in
    let S = scheme_in a.sizes in
    let u = state_at a.sizes a.u in
    let b = body_of a.f.now in
    taken _ _ (advance_open S u b (files a.file.now) no_files refl c.in-2.is) _ _ _ _ (c.frame_bytes-in-2.ensures ∙ open_length S u b no_files) c.take_open.ensures.next c.take_open.ensures.output

pub take_mask-requires : goal.take_mask-requires
take_mask-requires c =
    let a = c.args in
    let S = scheme_in a.sizes in
    let u = state_at a.sizes a.u in
    let h = fits S u.parameters u.stage a.f.now (files a.file.now) (length a.out.now) c.requires in
    let m : u.stage ≡ 3 = omega (arith, h.low, h.high) in
    (h.frame-length ∙ ap (frame_bytes S) m, omega (arith, h.room, c.args.sizes.fits.share), subst (λ (kind : ℕ). length ((step_reading S kind).content (files a.file.now)) ≡ (step_reading S kind).bytes) m h.read_length)

pub returns-in_default : goal.returns-in_default
returns-in_default c =
    let a = c.args in
    let S = scheme_in a.sizes in
    let lent = files a.file.now in
    let u = state_at a.sizes a.u in
    let b = body_of a.f.now in
    let h = fits S u.parameters u.stage a.f.now lent (length a.out.now) c.requires in
    let m : u.stage ≡ 3 = omega (arith, h.low, h.high) in
    let t = c.take_mask.ensures in
    taken _ _ (advance-mask S u b lent m) _ _ _ _ (c.frame_bytes-in_default.ensures ∙ share-length S u b lent) (ap (state_at a.sizes) t.next ∙ done_read a.sizes a.u b lent) t.output
