use mathlib.Core.Path.{ap₂, ◌≡◌}
use mathlib.Core.Logic.{◌⊎◌, inl, inr}
use mathlib.Core.List.{List}
use Prim.Native.Nat.{◌^◌, ℕ, ◌+◌, ◌-◌, ◌*◌, ◌/◌, ◌%◌, ◌<◌, ◌≤◌}
use native.Mathlib.Omega.{arith}
use lib.Bits.{bit_or}
use lib.ListN.{get_or}
use Rattle.linear_model.specs.Internal.Rotations.{Overwritten}
use Rattle.linear_model.proofs.Internal.Overwriting.{overwritten_none, overwritten_more}
use Rattle.linear_rotations.proofs.rotations.rotate.Goals as goal

-- what is still to be read is as it was
unread : {g : ℕ → ℕ} {o s count : ℕ} {d l : List ℕ} → Overwritten g o s d l → (o ≡ 0) ⊎ (count < o) → (j : ℕ) → s ≤ j → j ≤ count → get_or l j 0 ≡ get_or d j 0
unread p (inl z) j h h' = p.after j (omega arith)
unread p (inr r) j h h' = p.before j (omega arith)

pub loop-s-init : goal.loop-s-init
loop-s-init c = overwritten_none

pub loop-s-preserved : goal.loop-s-preserved
loop-s-preserved c =
    let a = c.args in
    let s = c.loop-s.s in
    let p = c.loop-s.invariant in
    let still = unread p c.requires.2 in
    overwritten_more (a.o + s) p (omega arith) (omega arith)
    (ap₂ (λ (x y : ℕ). bit_or (x / 2 ^ a.n) (y * 2 ^ (64 - a.n) % 2 ^ 64)) (still s (omega arith) (omega arith)) (still (s + 1) (omega arith) (omega arith)))
