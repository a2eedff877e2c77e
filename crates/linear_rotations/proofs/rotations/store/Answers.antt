use Prim.Native.Nat.{◌*◌}
use native.Mathlib.Omega.{arith}
use Rattle.linear_model.proofs.Filling.{filling_none}
use Rattle.linear_model.proofs.Internal.Overwriting.{word_stored, words_stored}
use Rattle.linear_rotations.proofs.rotations.store.Goals as goal

pub loop-i-init : goal.loop-i-init
loop-i-init c f b ws = filling_none

pub loop-i-preserved : goal.loop-i-preserved
loop-i-preserved c f b ws =
    let a = c.args in
    rw c.put_word.ensures (word_stored a.w f a.acc.now c.loop-i.i b ws (omega arith) (omega arith) (c.loop-i.invariant f b ws))

pub returns : goal.returns
returns c f b ws = words_stored (8 * c.args.w) f (omega arith) (c.loop-i.invariant f b ws) (omega arith)
