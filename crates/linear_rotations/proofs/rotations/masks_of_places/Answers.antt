use mathlib.Core.Path.{◌∙◌}
use native.Mathlib.Nat.{not-suc-le-zero}
use native.Mathlib.Omega.{arith}
use Rattle.linear_model.proofs.Internal.Rotations.{masks_more}
use Rattle.linear_rotations.proofs.rotations.masks_of_places.Goals as goal

pub loop-p-init : goal.loop-p-init
loop-p-init g c = (omega arith, λ r h. absurd (not-suc-le-zero h))

pub loop-p-preserved : goal.loop-p-preserved
loop-p-preserved g c =
    let a = c.args in
    let s = c.masks.ensures in
    (s.long ∙ c.loop-p.invariant.0, masks_more a.key.now a.q g.row.W c.loop-p.p (omega arith) c.loop-p.invariant.1 s)
