use native.Mathlib.Omega.{arith}
use Rattle.linear_model.proofs.Internal.Rotations.{rows_none, rows_more}
use Rattle.linear_rotations.proofs.rotations.add_rows.Goals as goal

pub loop-p-init : goal.loop-p-init
loop-p-init g c =
    let a = c.args in
    (omega arith, λ small f b ws. rows_none f a.m.now a.label.now g.row.W a.acc.now b ws)

pub loop-p-preserved : goal.loop-p-preserved
loop-p-preserved g c =
    let a = c.args in
    let s = c.add_words.ensures in (
      s.long,
      λ small f b ws. rows_more f a.m.now a.label.now g.row.W c.loop-p.p (small c.loop-p.p (omega arith)) (c.loop-p.invariant.1 small f b ws) s,
    )
