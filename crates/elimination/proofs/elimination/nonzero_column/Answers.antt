use mathlib.Core.Path.{◌≡◌}
use Prim.Native.Nat.{◌+◌}
use native.Mathlib.Omega.{arith}
use lib.Bits.{bit_or}
use lib.ListN.{get_or}
use Rattle.elimination_model.proofs.Internal.Turns.{either_set, zero_more}
use Rattle.elimination.proofs.elimination.nonzero_column.Goals as goal

pub returns-then-some-ne0-clause-found : goal.returns-then-some-ne0-clause-found
returns-then-some-ne0-clause-found c =
    let a = c.args in
    (omega arith, either_set (get_or a.words.now (a.a + c.loop-word.word) 0) (get_or a.words.now (a.a + a.w + c.loop-word.word) 0) c.set_bit.result c.set_bit.ensures.1)

pub loop-word-preserved : goal.loop-word-preserved
loop-word-preserved c =
    let a = c.args in
    let e : bit_or (get_or a.words.now (a.a + c.loop-word.word) 0) (get_or a.words.now (a.a + a.w + c.loop-word.word) 0) ≡ 0 = omega arith in
    zero_more a.w a.words.now a.a c.loop-word.word c.loop-word.invariant e
