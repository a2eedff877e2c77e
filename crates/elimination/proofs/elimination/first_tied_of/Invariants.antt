-- `elimination::elimination::first_tied_of` meets its contract. The invariant of its loop: r rows have had their turn, and what rows
-- carry is still right.
use mathlib.Core.Path.{◌≡◌}
use Prim.Native.Nat.{ℕ, ◌+◌, ◌*◌, ◌≤◌}
use lib.ListN.{length}
use Rattle.elimination_model.specs.Internal.Elimination.{Carried}
use Rattle.elimination_model.specs.Internal.Words.{digit_at, carried_at, FitRows, Table}
use Rattle.elimination_model.proofs.Elimination.{Reduced}
use Rattle.elimination.proofs.elimination.first_tied_of.Given as goal

abbrev pub invariant-loop-r : goal.invariant-loop-r
invariant-loop-r l =
    record {
      long : length l.words ≡ length l.initial.words;
      fit : FitRows l.w l.t l.words;
      table : Table l.w l.table;
      reduced : Reduced (64 * l.f) l.t (digit_at l.w l.initial.words) (digit_at l.w l.words) l.r;
      carried : (a : ℕ → ℕ → ℕ) → 64 * l.f + l.t ≤ 64 * l.w
          → Carried (64 * l.f) l.t a (digit_at l.w l.initial.words) (carried_at l.w l.f l.initial.words) → Carried (64 * l.f) l.t a (digit_at l.w l.words) (carried_at l.w l.f l.words);
    }
