-- `linear_digits::partial::first_row` meets its contract. The first row stands at the start.
use mathlib.Core.Path.{◌∙◌}
use native.Mathlib.Omega.{arith}
use Rattle.linear_model.specs.Tables.{sum}
use Rattle.linear_model.proofs.Internal.Matrix.{matrix-first, matrix-none}
use Rattle.linear_digits.proofs.partial.first_row.Goals as goal

pub row_product-requires : goal.row_product-requires
row_product-requires c = unfold sum in (omega arith, omega arith, omega arith)

pub returns-then-t-gt0 : goal.returns-then-t-gt0
returns-then-t-gt0 c =
    let a = c.args in
    c.row_product.ensures ∙ matrix-first _ a.t a.rows.now a.v.now (omega arith)

pub returns-else-t-gt0 : goal.returns-else-t-gt0
returns-else-t-gt0 c =
    let a = c.args in
    matrix-none _ a.t a.rows.now a.v.now (omega arith)
