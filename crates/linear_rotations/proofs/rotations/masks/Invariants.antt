-- `linear_rotations::rotations::masks` meets its contract. The invariant of its loop: a masks are stored.
use Rattle.linear_model.specs.Internal.Rotations.{Overwritten, mask_at}
use Rattle.linear_rotations.proofs.rotations.masks.Given as goal

abbrev pub invariant-loop-a : goal.invariant-loop-a
invariant-loop-a g l = Overwritten (mask_at l.key l.q) l.o l.a l.initial.to l.to
