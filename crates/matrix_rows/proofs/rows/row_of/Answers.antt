-- `matrix_rows::rows::row_of` meets its contract.
use mathlib.Core.Path.{◌≡◌}
use Prim.Native.Nat.{◌+◌, ◌-◌, ◌*◌}
use native.Mathlib.Omega.{arith}
use Rattle.matrix_rows.proofs.rows.row_of.Goals as goal

pub returns : goal.returns
returns c =
    let a = c.args in
    let e : a.n * a.i + a.n - a.n * a.i ≡ a.n = omega arith in
    rw e
