-- `pair_units::begin::with_halves` meets its contract: each half in its room, and zeros in the others.
use Prim.Native.Nat.{◌*◌}
use native.Mathlib.Omega.{arith}
use Rattle.pair_frames.proofs.Parts.{room_copied}
use Rattle.pair_frames.proofs.Fronts.{zeros_room}
use Rattle.pair_model.specs.StateSlice.{string_room, trits_room}
use Rattle.pair_units.proofs.begin.with_halves.Goals as goal

pub returns : goal.returns
returns c =
    let a = c.args in
    let n = a.sizes.key_bytes in
    let m = a.sizes.inner_bytes in
    let key = room_copied string_room a.key.now _ c.put.ensures in
    let label = room_copied string_room a.label.now _ c.put-2.ensures in
    let mask = zeros_room n string_room c.args.sizes.fits.key in
    let inner = zeros_room m string_room c.args.sizes.fits.inner in
    let trits = zeros_room (2 * m) trits_room (omega (arith, c.args.sizes.fits.inner)) in
    λ i. record {
      set = a.sizes.set;
      parameters = a.parameters;
      stage = a.stage;
      key = key i;
      label = label i;
      key_mask = mask i;
      label_mask = mask i;
      z = inner i;
      r = trits i;
      own_mask = inner i;
    }
