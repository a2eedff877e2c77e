use mathlib.Core.Path.{◌≡◌, refl}
use Prim.Native.Nat.{◌+◌}
use native.Mathlib.Omega.{arith}
use Rattle.linear_model.proofs.Internal.Overwriting.{overwritten_none, overwritten_more}
use Rattle.elimination_rows.proofs.rows.copy_words.Goals as goal

pub loop-m-init : goal.loop-m-init
loop-m-init c = overwritten_none

pub loop-m-preserved : goal.loop-m-preserved
loop-m-preserved c =
    overwritten_more (c.args.e + c.loop-m.m) c.loop-m.invariant refl (omega arith) refl

pub returns : goal.returns
returns c =
    let e : c.loop-m.m ≡ c.args.n = omega arith in
    rw e at c.loop-m.invariant
