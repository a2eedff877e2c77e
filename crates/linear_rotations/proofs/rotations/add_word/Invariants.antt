-- `linear_rotations::rotations::add_word` meets its contract. The invariant of its loop: s words are added.
use Rattle.linear_model.specs.Internal.Rotations.{Overwritten, added_at}
use Rattle.linear_rotations.proofs.rotations.add_word.Given as goal

abbrev pub invariant-loop-s : goal.invariant-loop-s
invariant-loop-s g l = Overwritten (added_at l.initial.acc l.label l.o l.m) 0 l.s l.initial.acc l.acc
