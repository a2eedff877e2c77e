-- `linear_circulant::circulant::row_bit` meets its contract. A row is two shifted products: the columns from 8p + q on, and those before.
use Prim.Native.Nat.{◌+◌, ◌-◌, ◌*◌}
use native.Mathlib.Omega.{arith}
use Rattle.linear_model.proofs.Internal.Circulant.{row_sum}
use Rattle.linear_circulant.proofs.circulant.row_bit.Goals as goal

pub returns-then-q-eq0 : goal.returns-then-q-eq0
returns-then-q-eq0 c =
    let a = c.args in
    row_sum a.n a.key.now a.x.now (8 * a.p + a.q) (8 * (a.n - a.p) + 0) _ _ _ _ (omega arith) (omega arith)
    c.front.ensures.0 c.front-then-q-eq0.ensures.0 c.dot-up.ensures c.dot.ensures

pub returns : goal.returns
returns c =
    let a = c.args in
    row_sum a.n a.key.now a.x.now (8 * a.p + a.q) (8 * (a.n - a.p - 1) + (8 - a.q)) _ _ _ _ (omega arith) (omega arith)
    c.front.ensures.0 c.front-2.ensures.0 c.dot-up.ensures c.dot-2.ensures
