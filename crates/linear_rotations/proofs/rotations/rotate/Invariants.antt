-- `linear_rotations::rotations::rotate` meets its contract. The invariant of its loop: s words are stored, and none that it still reads.
use Rattle.linear_model.specs.Internal.Rotations.{Overwritten, rotated_at}
use Rattle.linear_rotations.proofs.rotations.rotate.Given as goal

abbrev pub invariant-loop-s : goal.invariant-loop-s
invariant-loop-s l = Overwritten (rotated_at l.n l.initial.words) l.o l.s l.initial.words l.words
