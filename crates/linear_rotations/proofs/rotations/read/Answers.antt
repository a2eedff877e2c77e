use mathlib.Core.Path.{◌≡◌, refl}
use Prim.Native.Nat.{◌+◌, ◌*◌}
use native.Mathlib.Omega.{arith}
use Rattle.linear_model.proofs.Internal.Overwriting.{overwritten_none, overwritten_more}
use Rattle.linear_rotations.proofs.rotations.read.Goals as goal

pub loop-j-init : goal.loop-j-init
loop-j-init c = overwritten_none

pub loop-j-preserved : goal.loop-j-preserved
loop-j-preserved c =
    let a = c.args in
    let e : 8 * (8 * c.loop-j.j) ≡ 64 * c.loop-j.j = omega arith in
    overwritten_more (a.o + c.loop-j.j) c.loop-j.invariant refl (omega arith) (rw e at c.word_at.ensures)
