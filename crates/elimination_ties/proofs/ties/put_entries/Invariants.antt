-- `elimination_ties::ties::put_entries` meets its contract. The invariant of its loop: the entries of the first k digits are written.
use mathlib.Core.Path.{◌≡◌}
use mathlib.Core.List.{List}
use Prim.Native.Nat.{ℕ, ◌*◌, ◌%◌}
use lib.ListN.{length}
use Rattle.elimination_model.specs.Internal.Words.{carried_at}
use Rattle.elimination_ties.proofs.Entries.{Written}
use Rattle.elimination_ties.proofs.ties.put_entries.Given as goal

-- the digits that are written
abbrev pub multiplied : ℕ → ℕ → ℕ → ℕ → List ℕ → ℕ → ℕ
multiplied w f r lead words k = lead * carried_at w f words r k % 3

abbrev pub invariant-loop-k : goal.invariant-loop-k
invariant-loop-k l =
    (length l.out ≡ length l.initial.out) × Written (multiplied l.w l.f l.r l.lead l.words) l.k l.initial.out l.n l.out
