-- `elimination_ties::ties::leading_digit` meets its contract. The invariant of its loop: the first k digits are 0.
use mathlib.Core.Path.{◌≡◌}
use Prim.Native.Nat.{ℕ, ◌<◌}
use Rattle.elimination_model.specs.Internal.Words.{carried_at}
use Rattle.elimination_ties.proofs.ties.leading_digit.Given as goal

abbrev pub invariant-loop-k : goal.invariant-loop-k
invariant-loop-k l = (i : ℕ) → i < l.k → carried_at l.w l.f l.words l.r i ≡ 0
