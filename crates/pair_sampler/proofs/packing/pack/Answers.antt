-- `pair_sampler::packing::pack` meets its contract.
use native.Mathlib.Omega.{arith}
use lib.ListN.{length-set}
use Rattle.linear_model.proofs.Filling.{planes_none, planes_more, planes_all}
use Rattle.pair_sampler.proofs.Planes.{planes_of}
use Rattle.pair_sampler.proofs.packing.pack.Goals as goal

pub loop-i-init : goal.loop-i-init
loop-i-init c = planes_none (omega (arith, c.requires.1))

pub bounds-out-m : goal.bounds-out-m
bounds-out-m c = let i = c.loop-i.invariant in simp length-set (omega arith)

pub loop-i-preserved : goal.loop-i-preserved
loop-i-preserved c =
    planes_more c.loop-i.invariant c.loop-i-test.true
    (planes_of c.args.trits.now c.requires.2 c.loop-i.i _ _ c.plane_byte.ensures c.plane_byte-in-loop-i.ensures)

pub returns : goal.returns
returns c = planes_all c.loop-i.invariant (omega arith)
