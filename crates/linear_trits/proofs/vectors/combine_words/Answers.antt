use mathlib.Core.Path.{◌≡◌}
use Prim.Native.Nat.{◌+◌, ◌-◌, ◌*◌}
use native.Mathlib.Omega.{arith}
use Rattle.linear_model.proofs.Filling.{planes_all}
use Rattle.linear_model.proofs.Internal.Stores.{planes_turn, planes_word}
use Rattle.linear_trits.specs.Results.{result_trit}
use Rattle.linear_trits.proofs.Combined.{below_four}
use Rattle.linear_trits.proofs.vectors.combine_words.Goals as goal

pub loop-k-preserved : goal.loop-k-preserved
loop-k-preserved g c =
    let a = c.args in
    let f = g.O.Operation.trit a.op in
    let small = below_four f a.high a.m a.a.now a.b.now (g.met.O.Operation.fits a.op) in
    let e : 16 * (c.loop-k.k + 1) ≡ 16 * c.loop-k.k + 16 = omega arith in
    rw e
    (planes_turn c.requires.0 (omega arith) (omega arith) (omega arith) {f = result_trit f a.high a.m a.a.now a.b.now} small c.loop-k.invariant
    c.combined_word-first.ensures c.combined_word-second.ensures c.put_trits.ensures c.put_trits-in-loop-k.ensures)

-- what is left after the loop: two words, one, or none
pub returns-then-rest-gt8 : goal.returns-then-rest-gt8
returns-then-rest-gt8 g c =
    let a = c.args in
    let f = g.O.Operation.trit a.op in
    let small = below_four f a.high a.m a.a.now a.b.now (g.met.O.Operation.fits a.op) in
    let e = c.requires.1 in
    rw (← e)
    (planes_all
    (planes_turn c.requires.0 (omega arith) (omega arith) (omega arith) {f = result_trit f a.high a.m a.a.now a.b.now} small c.loop-k.invariant
    c.combined_word-next.ensures c.combined_word-last.ensures c.put_trits-then-rest-gt8.ensures c.put_trits-then-rest-gt8-2.ensures)
    (omega arith))

pub returns-then-rest-ne0 : goal.returns-then-rest-ne0
returns-then-rest-ne0 g c =
    let a = c.args in
    let f = g.O.Operation.trit a.op in
    let small = below_four f a.high a.m a.a.now a.b.now (g.met.O.Operation.fits a.op) in
    let e = c.requires.1 in
    rw (c.put_trits-then-rest-ne0.ensures, ← e)
    (planes_all (planes_word (a.m - 8) small c.loop-k.invariant (omega arith) (omega arith) (omega arith) c.combined_word-only.ensures) (omega arith))

pub returns-else-rest-ne0 : goal.returns-else-rest-ne0
returns-else-rest-ne0 g c =
    let e = c.requires.1 in
    rw (← e) (planes_all c.loop-k.invariant (omega arith))
