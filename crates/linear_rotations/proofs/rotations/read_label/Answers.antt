-- `linear_rotations::rotations::read_label` meets its contract. The label's words twice over and the first again, and then one rotation after the other.
use native.Mathlib.Omega.{arith}
use lib.Dec.{lit<}
use Rattle.linear_model.proofs.Internal.Rotations.{rotations_first, rotations_more}
use Rattle.linear_rotations.proofs.rotations.read_label.Goals as goal

pub returns : goal.returns
returns c =
    let a = c.args in
    let h = c.requires in
    let z = rotations_first c.args.w a.label.now h.0 (omega arith) c.read.ensures c.read-2.ensures in
    (rotations_more c.args.w 3 h.1 (lit< tt) (lit< tt)
    (rotations_more c.args.w 2 h.1 (lit< tt) (lit< tt) (rotations_more c.args.w 1 h.1 (lit< tt) (lit< tt) z c.rotate.ensures) c.rotate-2.ensures)
    c.rotate-3.ensures).rows
