use native.Mathlib.Omega.{arith}
use Rattle.linear_model.specs.Bits.{add_bits, pack}
use Rattle.linear_model.proofs.Filling.{filling_more, filling_at, filling_all}
use Rattle.linear_model.proofs.Strings.{sum_byte}
use Rattle.linear_bits.proofs.bits.add_bytes_to.Goals as goal

pub loop-i-preserved : goal.loop-i-preserved
loop-i-preserved c =
    let a = c.args in
    filling_more c.loop-i.invariant (omega arith)
    (sum_byte a.out.now a.a.now c.loop-i.i _ _ (filling_at c.loop-i.invariant) c.byte_at.ensures (omega arith) c.byte_at.type_inv)

pub returns : goal.returns
returns c = unfold add_bits pack in filling_all c.loop-i.invariant (omega arith)
