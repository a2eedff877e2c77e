-- `matrix_rows::rows::check_rows` meets its contract. The invariant of its loop: the rows before i are fit, and whether one is all zero.
use Rattle.matrix_model.proofs.Internal.RowNumbers.{Judging}
use Rattle.matrix_blocks.specs.Layouts.{layout_in}
use Rattle.matrix_rows.proofs.rows.check_rows.Given as goal

abbrev pub invariant-loop-i : goal.invariant-loop-i
invariant-loop-i l = Judging (layout_in l.layout) l.rows l.i l.zero
