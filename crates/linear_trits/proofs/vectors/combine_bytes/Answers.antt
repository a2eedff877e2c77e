use native.Mathlib.Omega.{arith}
use Rattle.linear_model.proofs.Filling.{planes_more, planes_all}
use Rattle.linear_model.proofs.Internal.Planes.{plane_bits_narrow}
use Rattle.linear_trits.specs.Results.{result_trit}
use Rattle.linear_trits.proofs.Combined.{combined}
use Rattle.linear_trits.proofs.vectors.combine_bytes.Goals as goal

pub loop-i-preserved : goal.loop-i-preserved
loop-i-preserved g c =
    let a = c.args in
    let i = c.loop-i.i in
    let f = g.O.Operation.trit a.op in
    let r = result_trit f a.high a.m a.a.now a.b.now in
    planes_more {f = r} c.loop-i.invariant (omega arith)
    (plane_bits_narrow r i _ _ _ _ c.narrow-t.ensures
    (combined 8 a.high a.m i a.a.now a.b.now _ _ f c.byte_trits.ensures c.byte_trits-in-loop-i.ensures c.apply.ensures))

pub returns : goal.returns
returns g c =
    let e = c.requires.0 in
    rw (← e) (planes_all c.loop-i.invariant (omega arith))
