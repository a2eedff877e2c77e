-- `linear_rotations::rotations::add_words` meets its contract. The invariant of its loop: the words of the label are added under the first a masks.
use mathlib.Core.Path.{◌≡◌}
use Prim.Native.Nat.{ℕ, ◌+◌, ◌*◌, ◌<◌, ◌^◌}
use lib.ListN.{length, get_or}
use Rattle.linear_model.specs.Internal.Rotations.{Bits, Words, added}
use Rattle.linear_rotations.proofs.rotations.add_words.Given as goal

abbrev pub invariant-loop-a : goal.invariant-loop-a
invariant-loop-a g l =
    (length l.acc ≡ 9)
    × (((j : ℕ) → j < g.row.W → get_or l.m (8 * l.p + j) 0 < 2 ^ 64) → (f : ℕ → ℕ) → Bits f → Words f g.row.W l.initial.acc → Words (added l.a f l.m l.label l.p) g.row.W l.acc)
