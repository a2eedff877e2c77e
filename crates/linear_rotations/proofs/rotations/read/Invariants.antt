-- `linear_rotations::rotations::read` meets its contract. The invariant of its loop: j words are stored.
use Rattle.linear_model.specs.Bits.{bit}
use Rattle.linear_model.specs.Internal.Rotations.{Overwritten, word_of}
use Rattle.linear_rotations.proofs.rotations.read.Given as goal

abbrev pub invariant-loop-j : goal.invariant-loop-j
invariant-loop-j l = Overwritten (word_of (bit l.s)) l.o l.j l.initial.to l.to
