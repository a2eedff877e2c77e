use mathlib.Core.Path.{sym, ◌∙◌}
use Prim.Native.Nat.{◌+◌, ◌*◌, ◌≤◌}
use native.Mathlib.Nat.{mul-le-mul_left}
use native.Mathlib.Omega.{arith}
use lib.ListN.{length}
use Rattle.std.proofs.lemmas.Result.{err_from_is_err_and}
use Rattle.matrix_model.proofs.Internal.RowNumbers.{Among, among_part, one_part, judging_none, judging_all, judging_more, judging_unfit}
use Rattle.matrix_blocks.specs.Layouts.{layout_in}
use Rattle.matrix_rows.proofs.rows.check_rows.Goals as goal
use Rattle.matrix_rows.proofs.rows.check_rows.Goals.{After-row_of, In-loop-i}

-- row i is within the rows
within : (c : In-loop-i)
    → (let a = c.args in
    (layout_in a.layout).row_bytes * (c.loop-i.i + 1) ≤ length a.rows.now)
within c =
    omega (arith, c.requires.0, mul-le-mul_left {m = c.loop-i.i + 1} {n = c.args.n} (layout_in c.args.layout).row_bytes (omega arith))

-- the row that is looked at
row : (c : After-row_of)
    → (let a = c.args in
    Among (layout_in a.layout) a.rows.now c.loop-i.i 1 c.row_of.result.now)
row c =
    let a = c.args in
    among_part c.loop-i.i 1 (omega (arith, c.requires.0, mul-le-mul_left {m = c.loop-i.i + 1} {n = c.args.n} (layout_in c.args.layout).row_bytes (omega arith))) (one_part (layout_in a.layout).row_bytes c.loop-i.i a.rows.now c.row_of.ensures)

pub loop-i-init : goal.loop-i-init
loop-i-init c = judging_none

pub row_of-requires : goal.row_of-requires
row_of-requires c = omega (arith, within (goal.at.row_of-requires c).In-loop-i)

pub check_row-requires : goal.check_row-requires
check_row-requires c =
    (omega (arith, (row (goal.at.check_row-requires c).After-row_of).long), c.requires.1)

pub returns-in_err-zero : goal.returns-in_err-zero
returns-in_err-zero c =
    let p = err_from_is_err_and c.from_residual.result c.from_residual.ensures.1 in
    rw (p.1, p.2) (judging_unfit c.args.layout.fits (row (goal.at.returns-in_err-zero c).After-row_of) c.loop-i.invariant _ (omega arith) (sym c.check_row.ensures ∙ c.in_err-zero.was))

pub loop-i-preserved : goal.loop-i-preserved
loop-i-preserved c =
    judging_more c.args.layout.fits (row (goal.at.loop-i-preserved c).After-row_of) c.loop-i.invariant (sym c.check_row.ensures ∙ c.in_ok-zero.was)

pub returns : goal.returns
returns c = judging_all _ c.loop-i.invariant (omega arith)
