-- `linear_rotations::rotations::add_rows` meets its contract. The invariant of its loop: the words of p rows are added.
use mathlib.Core.Path.{◌≡◌}
use Prim.Native.Nat.{ℕ, ◌+◌, ◌*◌, ◌<◌, ◌^◌}
use lib.ListN.{length, get_or}
use Rattle.linear_model.specs.Internal.Rotations.{Bits, Words, added_rows}
use Rattle.linear_rotations.proofs.rotations.add_rows.Given as goal

abbrev pub invariant-loop-p : goal.invariant-loop-p
invariant-loop-p g l =
    (length l.acc ≡ 9)
    × (((r : ℕ) → r < g.row.N → (a : ℕ) → a < g.row.W → get_or l.m (8 * r + a) 0 < 2 ^ 64) → (f : ℕ → ℕ) → Bits f → Words f g.row.W l.initial.acc → Words (added_rows g.row.W l.p f l.m l.label) g.row.W l.acc)
