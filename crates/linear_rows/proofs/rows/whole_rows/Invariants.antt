-- `linear_rows::rows::whole_rows` meets its contract. The invariant of its loop: `at` is where the rows before row 8p end, `left` rows are left from there, and the first p bytes of each plane are those of the product.
use mathlib.Core.Path.{◌≡◌}
use Prim.Native.Nat.{◌-◌, ◌*◌, min}
use Rattle.linear_model.specs.Tables.{below}
use Rattle.linear_model.specs.Products.{row_digit}
use Rattle.linear_model.proofs.Filling.{Planes}
use Rattle.linear_rows.proofs.rows.whole_rows.Given as goal

abbrev pub invariant-loop-p : goal.invariant-loop-p
invariant-loop-p l =
    (l.at ≡ 2 * l.m * min (8 * l.p) l.t) × (l.left ≡ l.t - 8 * l.p) × Planes l.n (below l.t (row_digit l.m l.rows l.v)) l.p l.initial.out l.out
