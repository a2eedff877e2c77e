-- `linear_rows::rows::row_digit` meets its contract. Where a plane is whole words they are the row; else the digits after them are added.
use mathlib.Core.Path.{◌≡◌}
use Prim.Native.Nat.{◌*◌, ◌/◌}
use native.Mathlib.Omega.{arith}
use Rattle.linear_rows.proofs.rows.row_digit.Goals as goal

pub returns-then-m-eq0 : goal.returns-then-m-eq0
returns-then-m-eq0 c =
    let e : c.args.m / 8 * 8 ≡ c.args.m = omega arith in
    rw e at c.row_words-d.ensures
