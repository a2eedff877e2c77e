-- `linear_rotations::rotations::masks_of_places` meets its contract. The invariant of its loop: the masks of p places are stored.
use mathlib.Core.Path.{◌≡◌}
use lib.ListN.{length}
use Rattle.linear_model.specs.Internal.Rotations.{Masks}
use Rattle.linear_rotations.proofs.rotations.masks_of_places.Given as goal

abbrev pub invariant-loop-p : goal.invariant-loop-p
invariant-loop-p g l = (length l.to ≡ 32) × Masks l.key l.q g.row.W l.p l.to
