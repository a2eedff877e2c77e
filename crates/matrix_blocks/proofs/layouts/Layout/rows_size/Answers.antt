-- `matrix_blocks::layouts::Layout::rows_size` meets its contract: the rows are few bytes.
use native.Mathlib.Omega.{arith}
use Rattle.matrix_model.proofs.Layouts.{rows_small}
use Rattle.matrix_blocks.specs.Layouts.{layout_in}
use Rattle.matrix_blocks.proofs.layouts.Layout.rows_size.Goals as goal

pub overflow_mul-result : goal.overflow_mul-result
overflow_mul-result c = omega (arith, rows_small (layout_in c.args.self) c.args.self.fits)
