-- `elimination::elimination::clear_rows` meets its contract. The invariant of its loop: the rows after row r and before row i are cleared.
use Prim.Native.Nat.{◌+◌}
use Rattle.elimination_model.specs.Internal.Words.{RowsWritten, ClearedWord}
use Rattle.elimination.proofs.elimination.clear_rows.Given as goal

abbrev pub invariant-loop-i : goal.invariant-loop-i
invariant-loop-i l = RowsWritten l.w (l.r + 1) l.i (ClearedWord l.w l.r l.column.word l.column.bit l.initial.words) l.initial.words l.words
