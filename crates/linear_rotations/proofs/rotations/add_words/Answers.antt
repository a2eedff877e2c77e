use mathlib.Core.Path.{◌∙◌}
use native.Mathlib.Omega.{arith}
use Rattle.linear_model.proofs.Internal.Rotations.{words_none, words_more}
use Rattle.linear_rotations.proofs.rotations.add_words.Goals as goal

pub loop-a-init : goal.loop-a-init
loop-a-init g c =
    let a = c.args in
    (omega arith, λ small f b ws. words_none f a.m.now a.label.now a.p g.row.W a.acc.now b ws)

pub loop-a-preserved : goal.loop-a-preserved
loop-a-preserved g c =
    let a = c.args in
    let p = c.add_word.ensures in (
      p.long ∙ c.loop-a.invariant.0,
      λ small f b ws. words_more f a.m.now a.label.now a.p c.loop-a.a g.row.W (small c.loop-a.a (omega arith)) (c.loop-a.invariant.1 small f b ws) p,
    )
