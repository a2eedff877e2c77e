-- `pair_units::begin::cleared` meets its contract: both halves are zeros too.
use mathlib.Core.Path.{ap, ◌∙◌}
use mathlib.Core.List.{List}
use Prim.Native.Nat.{ℕ}
use Rattle.pair_frames.specs.Headers.{parameters_in}
use Rattle.pair_frames.specs.Schemes.{scheme_in}
use Rattle.pair_frames.proofs.Fronts.{zeros-front}
use Rattle.pair_model.specs.Unit.{state, halves}
use Rattle.pair_model.specs.StateSlice.{string_room}
use Rattle.pair_units.specs.Units.{unit_of}
use Rattle.pair_units.proofs.begin.cleared.Goals as goal

pub returns : goal.returns
returns c =
    let a = c.args in
    c.with_halves.ensures
    ∙ ap (λ (x : List ℕ). unit_of (state a.sizes.set (parameters_in a.parameters) a.stage (halves (scheme_in a.sizes) x x)))
    (zeros-front a.sizes.key_bytes string_room c.args.sizes.fits.key)
