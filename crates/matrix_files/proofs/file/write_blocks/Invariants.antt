-- `matrix_files::file::write_blocks` meets its contract. The invariant of its loop: the blocks before b are written.
use Prim.Native.Nat.{◌*◌}
use Rattle.linear_model.specs.Tables.{tabulate}
use Rattle.linear_model.proofs.Copies.{Copied}
use Rattle.matrix_model.specs.File.{file_byte}
use Rattle.matrix_blocks.specs.Layouts.{layout_in}
use Rattle.matrix_files.proofs.file.write_blocks.Given as goal

abbrev pub invariant-loop-b : goal.invariant-loop-b
invariant-loop-b l = Copied (tabulate (512 * l.b) (file_byte (layout_in l.rows.layout) l.rows.bytes.now)) l.initial.out l.out
