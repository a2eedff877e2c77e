use mathlib.Core.Path.{◌≡◌}
use native.Mathlib.Omega.{arith}
use lib.ListN.{length-set}
use Rattle.elimination_model.proofs.Internal.Writing.{written_none, written_more}
use Rattle.elimination_rows.proofs.loading.load_row.Goals as goal

pub loop-m-init : goal.loop-m-init
loop-m-init c = written_none _ _ _ _

pub bounds-words-b-in-loop-m : goal.bounds-words-b-in-loop-m
bounds-words-b-in-loop-m c = simp length-set (omega arith)

pub loop-m-preserved : goal.loop-m-preserved
loop-m-preserved c =
    written_more _ _ _ _ _ _ _ _ c.loop-m.invariant (omega arith) (omega arith) c.row_word-s.ensures

pub returns : goal.returns
returns c =
    let e : c.loop-m.m ≡ c.args.w = omega arith in
    rw e at c.loop-m.invariant
