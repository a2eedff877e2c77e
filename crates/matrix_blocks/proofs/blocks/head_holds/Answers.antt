-- `matrix_blocks::blocks::head_holds` meets its contract: the four bytes are compared with those of the head.
use mathlib.Core.Path.{refl}
use native.Mathlib.Omega.{arith}
use Rattle.linear_model.specs.Tables.{every}
use Rattle.matrix_model.proofs.Layouts.{count_byte}
use Rattle.matrix_blocks.specs.Layouts.{layout_in}
use Rattle.matrix_blocks.proofs.blocks.head_holds.Goals as goal

pub rows_in-n-requires : goal.rows_in-n-requires
rows_in-n-requires c = c.requires.1

pub overflow_cast-result : goal.overflow_cast-result
overflow_cast-result c = omega (arith, c.args.layout.fits.blocks_in_byte)

pub overflow_cast-result-2 : goal.overflow_cast-result-2
overflow_cast-result-2 c =
    omega (arith, c.rows_in-n.ensures, count_byte (layout_in c.args.layout) c.args.layout.fits c.args.b)

pub returns : goal.returns
unfolding every
returns c = rw c.rows_in-n.ensures refl
