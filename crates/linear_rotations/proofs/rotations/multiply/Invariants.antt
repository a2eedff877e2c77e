-- `linear_rotations::rotations::multiply` meets its contract. The invariant of its loop: `acc` is the sum over the bits from n i on of each of the key's words.
use mathlib.Core.Path.{◌≡◌}
use Prim.Native.Nat.{ℕ, ◌-◌, ◌*◌}
use lib.ListN.{length}
use Rattle.linear_model.specs.Internal.Rotations.{Words, Factors, horner}
use Rattle.linear_rotations.proofs.rotations.multiply.Given as goal

abbrev pub invariant-loop-i : goal.invariant-loop-i
invariant-loop-i g l =
    (length l.acc ≡ 9) × ((key label : ℕ → ℕ) → Factors g.row.W 4 key label l.key l.label → Words (horner g.row.W key label (g.row.N * l.i) (64 - g.row.N * l.i)) g.row.W l.acc)
