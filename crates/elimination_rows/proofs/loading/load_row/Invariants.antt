-- `elimination_rows::loading::load_row` meets its contract. The invariant of its loop: the first m words of each plane are loaded.
use Rattle.elimination_model.specs.Independence.{trit_at}
use Rattle.elimination_model.specs.Internal.Words.{RowWritten, LoadedWord}
use Rattle.elimination_rows.proofs.loading.load_row.Given as goal

abbrev pub invariant-loop-m : goal.invariant-loop-m
invariant-loop-m l = RowWritten l.w l.b l.m (LoadedWord l.f (λ _. trit_at l.bytes l.rows l.i) l.r) l.initial.words l.words
