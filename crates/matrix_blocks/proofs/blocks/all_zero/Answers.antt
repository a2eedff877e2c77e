use mathlib.Core.Path.{◌≡◌, refl, ◌∙◌}
use native.Mathlib.Omega.{arith}
use lib.ListN.{length}
use Rattle.linear_model.specs.Tables.{every}
use Rattle.matrix_model.specs.Block.{zero_byte}
use Rattle.linear_model.proofs.Tables.{every_more}
use Rattle.matrix_model.proofs.Internal.Tests.{or-zero}
use Rattle.matrix_blocks.proofs.blocks.all_zero.Goals as goal

pub loop-x-init : goal.loop-x-init
unfolding every
loop-x-init c = refl

pub loop-x-preserved : goal.loop-x-preserved
loop-x-preserved c =
    or-zero c.loop-x.any _ ∙ rw (every_more c.loop-x.x-index (zero_byte c.args.s.now), c.loop-x.invariant)

pub returns : goal.returns
returns c =
    let e : c.loop-x.x-index ≡ length c.args.s.now = omega arith in
    rw e at c.loop-x.invariant
