-- `elimination_rows::loading::load_rows` meets its contract. The invariant of its loop: the first i rows are loaded.
use Prim.Native.Nat.{◌+◌}
use Rattle.elimination_model.specs.Internal.Words.{RowsWritten, LoadedWord, rows_after}
use Rattle.elimination_rows.proofs.loading.load_rows.Given as goal

abbrev pub invariant-loop-i : goal.invariant-loop-i
invariant-loop-i l = RowsWritten l.w l.first (l.first + l.i) (LoadedWord l.f (rows_after l.first l.bytes l.rows)) l.initial.words l.words
