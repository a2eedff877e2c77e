-- `linear_fit::fit::unfit_words` meets its contract. The invariant of its loop: `seen` has gathered what the first i words of each plane show. The last word shows some of it again.
use mathlib.Core.Path.{◌≡◌}
use Prim.Native.Nat.{◌*◌}
use lib.Dec.{eqb}
use Rattle.linear_model.specs.Tables.{every}
use Rattle.linear_model.specs.Internal.Tests.{fit_before}
use Rattle.linear_fit.proofs.fit.unfit_words.Given as goal

abbrev pub invariant-loop-i : goal.invariant-loop-i
invariant-loop-i l = eqb l.seen 0 ≡ every (8 * (8 * l.i)) (fit_before l.m l.t l.v)
