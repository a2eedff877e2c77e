-- `matrix_rows::rows::check_row` meets its contract: the tests of one row decide.
use mathlib.Core.Path.{refl}
use native.Mathlib.Omega.{arith}
use Rattle.matrix_model.proofs.Layouts.{bytes_few}
use Rattle.matrix_model.proofs.Internal.RowNumbers.{one_row}
use Rattle.matrix_blocks.specs.Layouts.{layout_in}
use Rattle.matrix_rows.proofs.rows.check_row.Goals as goal

pub overflow_mul-m : goal.overflow_mul-m
overflow_mul-m c = omega (arith, bytes_few (layout_in c.args.layout) c.args.layout.fits)

pub returns-then-not-planes_fit : goal.returns-then-not-planes_fit
returns-then-not-planes_fit c =
    rw c.if-not-planes_fit.true at (one_row (layout_in c.args.layout) c.args.row.now _ _ _ c.requires.0 (omega arith) c.planes_fit.ensures refl)

pub returns : goal.returns
returns c =
    rw c.if-not-planes_fit.false
    at (one_row (layout_in c.args.layout) c.args.row.now _ _ _ c.requires.0 (omega arith) c.planes_fit.ensures c.row_is_zero.ensures)
