use mathlib.Core.Path.{◌≡◌, ap}
use Prim.Native.Nat.{ℕ, ◌+◌}
use native.Mathlib.Omega.{arith}
use lib.Bits.{bit_xor, bit_and}
use lib.ListN.{get_or}
use Rattle.linear_model.proofs.Internal.Overwriting.{overwritten_none, overwritten_more}
use Rattle.linear_rotations.proofs.rotations.add_word.Goals as goal

pub loop-s-init : goal.loop-s-init
loop-s-init g c = overwritten_none

pub loop-s-preserved : goal.loop-s-preserved
loop-s-preserved g c =
    let a = c.args in
    let s = c.loop-s.s in
    let p = c.loop-s.invariant in
    let e : get_or c.loop-s.acc s 0 ≡ get_or a.acc.now s 0 = p.after s (omega arith) in
    overwritten_more s p (omega arith) (omega arith) (ap (λ (y : ℕ). bit_xor y (bit_and a.m (get_or a.label.now (a.o + s) 0))) e)
