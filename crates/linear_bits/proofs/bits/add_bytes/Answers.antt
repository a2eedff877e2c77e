use native.Mathlib.Omega.{arith}
use Rattle.linear_model.specs.Bits.{add_bits, pack}
use Rattle.linear_model.proofs.Filling.{filling_more, filling_all}
use Rattle.linear_model.proofs.Strings.{sum_byte}
use Rattle.linear_bits.proofs.bits.add_bytes.Goals as goal

pub loop-i-preserved : goal.loop-i-preserved
loop-i-preserved c =
    let args = c.args in
    filling_more c.loop-i.invariant (omega arith)
    (sum_byte args.a.now args.b.now c.loop-i.i _ _ c.byte_at.ensures c.byte_at-in-loop-i.ensures c.byte_at.type_inv c.byte_at-in-loop-i.type_inv)

pub returns : goal.returns
returns c = unfold add_bits pack in filling_all c.loop-i.invariant (omega arith)
