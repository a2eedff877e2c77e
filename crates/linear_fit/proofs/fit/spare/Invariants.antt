-- `linear_fit::fit::spare` meets its contract. The invariant of its loop: `seen` has gathered what the first i bytes of each plane show.
use mathlib.Core.Path.{◌≡◌}
use Prim.Native.Nat.{min, ◌*◌}
use lib.Dec.{eqb}
use Rattle.linear_model.specs.Tables.{every}
use Rattle.linear_model.specs.Internal.Tests.{zero_after}
use Rattle.linear_fit.proofs.fit.spare.Given as goal

abbrev pub invariant-loop-i : goal.invariant-loop-i
invariant-loop-i l = eqb l.seen 0 ≡ every (8 * min l.i l.m) (zero_after l.m l.t l.v)
