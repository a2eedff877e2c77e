use mathlib.Core.Path.{◌≡◌}
use Prim.Native.Nat.{◌+◌, ◌*◌}
use native.Mathlib.Omega.{arith}
use Rattle.linear_model.specs.Bits.{add_bits, sum_bit}
use Rattle.linear_model.proofs.Internal.Stores.{filling_turn, filling_pack, sum_word}
use Rattle.linear_bits.proofs.bits.add_words.Goals as goal

pub loop-k-preserved : goal.loop-k-preserved
loop-k-preserved c =
    let r = c.requires in
    let a = c.args in
    let e : 16 * (c.loop-k.k + 1) ≡ 16 * c.loop-k.k + 16 = omega arith in
    rw e
    (filling_turn r.0 (omega arith) c.min-p.ensures c.min-q.ensures {g = sum_bit a.a.now a.b.now} (λ j. omega arith) r.1 c.loop-k.invariant
    (sum_word a.a.now a.b.now (8 * c.min-p.result) _ _ c.word.ensures c.word-in-loop-k.ensures)
    (sum_word a.a.now a.b.now (8 * c.min-q.result) _ _ c.word-in-loop-k-2.ensures c.word-in-loop-k-3.ensures) c.put_word.ensures
    c.put_word-in-loop-k.ensures)

pub returns : goal.returns
returns c = unfold add_bits in filling_pack (λ j. omega arith) c.loop-k.invariant (omega arith)
