-- `elimination_rows::rows::copy_words` meets its contract. The invariant of its loop: m words are copied.
use Rattle.linear_model.specs.Internal.Rotations.{Overwritten}
use Rattle.elimination_model.specs.Internal.Words.{word_after}
use Rattle.elimination_rows.proofs.rows.copy_words.Given as goal

abbrev pub invariant-loop-m : goal.invariant-loop-m
invariant-loop-m l = Overwritten (word_after l.words l.a) l.e l.m l.initial.table l.table
