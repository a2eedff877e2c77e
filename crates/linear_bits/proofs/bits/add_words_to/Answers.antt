use mathlib.Core.Path.{◌≡◌}
use Prim.Native.Nat.{◌+◌, ◌-◌, ◌*◌}
use native.Mathlib.Omega.{arith}
use Rattle.linear_model.specs.Bits.{add_bits, sum_bit}
use Rattle.linear_model.proofs.Internal.Stores.{filling_word, filling_word_at, filling_pack, sum_word}
use Rattle.linear_bits.proofs.bits.add_words_to.Goals as goal

pub loop-k-preserved : goal.loop-k-preserved
loop-k-preserved c =
    let a = c.args in
    let i = 8 * c.loop-k.k in
    let e : 8 * (c.loop-k.k + 1) ≡ i + 8 = omega arith in
    rw (e, c.put_word.ensures)
    (filling_word {g = sum_bit a.out.now a.a.now} (λ j. omega arith) i _ c.loop-k.invariant (omega arith) (omega arith) (omega arith)
    (sum_word a.out.now a.a.now (8 * i) _ _ (filling_word_at i _ c.loop-k.invariant (omega arith) c.word-in-loop-k.ensures) c.word-in-loop-k-2.ensures))

pub returns-then-n-ne0 : goal.returns-then-n-ne0
unfolding add_bits
returns-then-n-ne0 c =
    let a = c.args in
    let p = a.n - 8 in
    let h = filling_word {g = sum_bit a.out.now a.a.now} (λ j. omega arith) p _ c.loop-k.invariant (omega arith) (omega arith) (omega arith)
    (sum_word a.out.now a.a.now (8 * p) _ _ c.word.ensures c.word-2.ensures)
    in
    rw c.put_word-then-n-ne0.ensures (filling_pack (λ j. omega arith) h (omega (arith, h.long)))

pub returns-else-n-ne0 : goal.returns-else-n-ne0
returns-else-n-ne0 c = unfold add_bits in filling_pack (λ j. omega arith) c.loop-k.invariant (omega arith)
