-- `elimination::elimination::nonzero_column` meets its contract. The invariant of its loop: the words before this one are 0 in both planes.
use mathlib.Core.Path.{◌≡◌}
use Prim.Native.Nat.{ℕ, ◌<◌}
use Rattle.elimination_model.specs.Internal.Words.{word_trit}
use Rattle.elimination.proofs.elimination.nonzero_column.Given as goal

abbrev pub invariant-loop-word : goal.invariant-loop-word
invariant-loop-word l = (m : ℕ) → m < l.word → (k : ℕ) → word_trit l.w l.words l.a m k ≡ 0
