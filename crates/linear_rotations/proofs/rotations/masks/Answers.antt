use mathlib.Core.Path.{refl}
use Prim.Native.Nat.{◌+◌}
use native.Mathlib.Omega.{arith}
use Rattle.linear_model.proofs.Internal.Overwriting.{overwritten_none, overwritten_more}
use Rattle.linear_rotations.proofs.rotations.masks.Goals as goal

pub loop-a-init : goal.loop-a-init
loop-a-init g c = overwritten_none

pub loop-a-preserved : goal.loop-a-preserved
loop-a-preserved g c =
    overwritten_more (c.args.o + c.loop-a.a) c.loop-a.invariant refl (omega arith) c.mask.ensures
