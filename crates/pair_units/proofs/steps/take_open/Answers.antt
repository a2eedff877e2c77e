-- `pair_units::steps::take_open` meets its contract: the own mask stands in the frame and in the state.
use mathlib.Core.Path.{ap, ◌∙◌}
use mathlib.Core.List.{◌++◌}
use Prim.Native.Nat.{ℕ, ◌+◌}
use lib.ListN.{drop}
use Rattle.linear_model.specs.Bits.{zeros}
use Rattle.pair_frames.specs.Schemes.{scheme_in}
use Rattle.pair_frames.proofs.Fronts.{lent_front, lent_long}
use Rattle.pair_model.specs.Scheme.{no_files}
use Rattle.pair_model.specs.Frame.{mask_kind, frame, body_of, header_bytes}
use Rattle.pair_model.specs.Unit.{with_mask, take_open}
use Rattle.pair_model.specs.StateSlice.{string_room}
use Rattle.pair_model.proofs.Internal.Lengths.{open_length}
use Rattle.pair_units.specs.Units.{state_at}
use Rattle.pair_units.proofs.steps.take_open.Goals as goal

pub returns : goal.returns
unfolding take_open
returns c =
    let a = c.args in
    let S = scheme_in a.sizes in
    let u = state_at a.sizes a.u in
    let o = a.out.now in
    let b = body_of a.f.now in
    let l = c.write_own_mask in
    let ŵi = lent_front c.args.sizes.inner_bytes (zeros string_room) l.new.out c.args.sizes.fits.inner l.auto.out ∙ l.ensures in
    let long = lent_long c.args.sizes.inner_bytes (zeros string_room) l.new.out c.args.sizes.fits.inner l.auto.out in record {
      next = (λ i. with_mask S u (ŵi i));
      output = c.write_frame.ensures ∙ (λ i. frame mask_kind u.parameters (ŵi i) ++ drop (header_bytes + long i) o)
          ∙ ap (λ (k : ℕ). (take_open S u b no_files).written ++ drop k o) (open_length S u b no_files);
    }
