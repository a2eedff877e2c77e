-- `linear_rotations::rotations::step` meets its contract. The masks, the rotation, and then what is added.
use native.Mathlib.Omega.{arith}
use Rattle.linear_model.proofs.Internal.Rotations.{words_stepped}
use Rattle.linear_rotations.proofs.rotations.step.Goals as goal

pub returns : goal.returns
returns g c =
    let a = c.args in
    let h = c.requires in
    words_stepped g.row.W g.row.N a.key.now a.label.now a.q (omega arith) h.3 (omega arith) c.masks_of_places.ensures c.rotate.ensures
    c.add_rows.ensures
