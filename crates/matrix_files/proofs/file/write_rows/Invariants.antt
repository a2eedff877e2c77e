-- `matrix_files::file::write_rows` meets its contract. The invariant of its loop: the rows of the blocks before b are written.
use Prim.Native.Nat.{◌*◌, min}
use Rattle.linear_model.specs.Tables.{tabulate}
use Rattle.linear_model.proofs.Copies.{Copied}
use Rattle.matrix_model.specs.File.{rows_size, row_byte}
use Rattle.matrix_blocks.specs.Layouts.{layout_in}
use Rattle.matrix_files.proofs.file.write_rows.Given as goal

abbrev pub invariant-loop-b : goal.invariant-loop-b
invariant-loop-b l =
    let layout = layout_in l.file.layout in
    Copied (tabulate (min (layout.row_bytes * layout.block_rows * l.b) (rows_size layout)) (row_byte layout l.file.bytes.now)) l.initial.out l.out
