-- `linear_fit::fit::row_is_zero` meets its contract. The invariant of its loop: all trits before 8i + q are 0.
use mathlib.Core.Path.{◌≡◌}
use mathlib.Core.Bool.{true}
use Prim.Native.Nat.{◌+◌, ◌-◌, ◌*◌, ◌<◌, ◌≤◌}
use Rattle.linear_model.specs.Tables.{every}
use Rattle.linear_model.specs.Internal.Tests.{zero_after}
use Rattle.linear_fit.proofs.fit.row_is_zero.Given as goal

abbrev pub invariant-loop-i : goal.invariant-loop-i
invariant-loop-i l = (true ≡ every (8 * l.i + l.q) (zero_after l.m 0 l.row)) × (l.q < 8) × (8 * l.i + l.q ≤ 8 * l.m)

abbrev pub decreases-loop-i : goal.decreases-loop-i
decreases-loop-i l = 8 * (l.m - l.i) - l.q
