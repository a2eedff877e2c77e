-- `elimination_rows::rows::add_row` meets its contract. The invariant of its loop: the first m words of each plane are added.
use Rattle.elimination_model.specs.Internal.Words.{RowWritten, SumWord}
use Rattle.elimination_rows.proofs.rows.add_row.Given as goal

abbrev pub invariant-loop-m : goal.invariant-loop-m
invariant-loop-m l = RowWritten l.w l.b l.m (SumWord l.w l.table l.a l.initial.words l.b) l.initial.words l.words
