-- `matrix_rows::rows::check_each_row` meets its contract. The invariant of its loop: the rows before block b are fit, and whether one is all zero.
use Prim.Native.Nat.{◌*◌, min}
use Rattle.matrix_model.proofs.Internal.RowNumbers.{Judging}
use Rattle.matrix_blocks.specs.Layouts.{layout_in}
use Rattle.matrix_blocks.specs.Standing.{rows_held}
use Rattle.matrix_rows.proofs.rows.check_each_row.Given as goal

abbrev pub invariant-loop-b : goal.invariant-loop-b
invariant-loop-b l =
    Judging (layout_in l.layout) (rows_held l.rows) (min ((layout_in l.layout).block_rows * l.b) (layout_in l.layout).row_count) l.zero
