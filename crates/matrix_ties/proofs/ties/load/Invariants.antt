-- `matrix_ties::ties::load` meets its contract. The invariant of its loop: the rows before block b are loaded.
use Prim.Native.Nat.{◌*◌, min}
use Rattle.elimination_model.specs.Independence.{trit_at}
use Rattle.elimination_model.specs.Internal.Words.{RowsWritten, LoadedWord}
use Rattle.matrix_model.specs.File.{row_plane_of}
use Rattle.matrix_blocks.specs.Layouts.{layout_in}
use Rattle.matrix_blocks.specs.Standing.{rows_held}
use Rattle.matrix_ties.proofs.ties.load.Given as goal

abbrev pub invariant-loop-b : goal.invariant-loop-b
invariant-loop-b l =
    RowsWritten l.w 0 (min ((layout_in l.layout).block_rows * l.b) (layout_in l.layout).row_count) (LoadedWord l.f (trit_at (row_plane_of (layout_in l.layout)) (rows_held l.rows))) l.initial.words l.words
