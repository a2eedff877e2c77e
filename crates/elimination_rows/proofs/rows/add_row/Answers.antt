use mathlib.Core.Path.{◌≡◌, ap, ap₂, ◌∙◌}
use Prim.Native.Nat.{ℕ, ◌+◌, ◌%◌}
use native.Mathlib.Omega.{arith}
use lib.ListN.{length-set}
use Rattle.linear_model.specs.Internal.Planes.{trit_of}
use Rattle.elimination_model.specs.Internal.Words.{word_trit}
use Rattle.elimination_model.proofs.Internal.Writing.{written_none, written_more}
use Rattle.elimination_rows.proofs.rows.add_row.Goals as goal

pub loop-m-init : goal.loop-m-init
loop-m-init c = written_none _ _ _ _

pub bounds-words-b-in-loop-m-3 : goal.bounds-words-b-in-loop-m-3
bounds-words-b-in-loop-m-3 c = simp length-set (omega arith)

pub loop-m-preserved : goal.loop-m-preserved
loop-m-preserved c =
    let w = c.args.w in
    let b = c.args.b in
    let m = c.loop-m.m in
    let same : (k : ℕ) → word_trit w c.loop-m.words b m k ≡ word_trit w c.args.words.now b m k =
    λ k. ap₂ (λ (x u : ℕ). trit_of x u k) (c.loop-m.invariant.low (b + m) (omega arith) (omega arith)) (c.loop-m.invariant.high (b + w + m) (omega arith)) in
    written_more w b m _ _ _ _ _ c.loop-m.invariant (omega arith) c.requires.1.long
    (λ k. c.add-s.ensures k (rw (same k) (c.requires.1.fit m (omega arith) k)) (c.requires.0.fit m (omega arith) k)
    ∙ ap (λ (v : ℕ). (v + word_trit w c.args.table.now c.args.a m k) % 3) (same k))

pub returns : goal.returns
returns c =
    let e : c.loop-m.m ≡ c.args.w = omega arith in
    rw e at c.loop-m.invariant
