use native.Mathlib.Omega.{arith}
use Rattle.matrix_digits.proofs.digits.gather.Goals as goal

pub loop-all-init : goal.loop-all-init
loop-all-init c = (c.requires.1, c.requires.2)

pub more-all-requires : goal.more-all-requires
more-all-requires c =
    (c.requires.0, c.loop-all.invariant.0, c.loop-all.invariant.1, omega (arith, c.requires.3), omega (arith, c.requires.3))

pub loop-all-smaller : goal.loop-all-smaller
loop-all-smaller c = omega (arith, c.more-all.ensures.1)

pub loop-all-preserved : goal.loop-all-preserved
loop-all-preserved c = (c.more-all.ensures.0, omega (arith, c.more-all.ensures.1, c.loop-all.invariant.1))

pub returns : goal.returns
returns c = (c.loop-all.invariant.0, c.loop-all.invariant.1, omega arith)
