use Prim.Native.Nat.{◌*◌}
use native.Mathlib.Omega.{arith}
use Rattle.linear_model.specs.Tables.{from}
use Rattle.linear_model.specs.Bits.{from_bits}
use Rattle.linear_model.specs.Products.{bit_row, circulant}
use Rattle.linear_model.proofs.NumberBits.{or_more}
use Rattle.linear_circulant.proofs.circulant.circulant_rows.Goals as goal

pub loop-q-init : goal.loop-q-init
loop-q-init c = unfold from_bits in omega arith

pub loop-q-preserved : goal.loop-q-preserved
loop-q-preserved c =
    let a = c.args in
    let f = from (8 * a.p) (bit_row a.n (circulant a.n a.key.now) a.x.now) in
    or_more 8 c.loop-q.q _ _ f c.loop-q-test.true (λ i. omega arith) c.loop-q.invariant c.row_bit.ensures
