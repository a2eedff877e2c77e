-- `matrix_ties::ties::check_all_rows` meets its contract: a zero row is a case of tied rows, and the lowest number is told.
use mathlib.Core.Path.{sym, ◌∙◌}
use Rattle.std.proofs.lemmas.Result.{err_from_is_err_and}
use Rattle.matrix_model.proofs.Internal.TiedRows.{judged_unfit, judged_zero, judged_together}
use Rattle.matrix_blocks.specs.Standing.{layout_held, rows_held}
use Rattle.matrix_ties.proofs.ties.check_all_rows.Goals as goal
use Rattle.matrix_ties.proofs.ties.check_all_rows.Goals.{then-zero-via-then-zero, then-zero-via-else-zero+then-not-independent}

pub returns-in_err-zero : goal.returns-in_err-zero
returns-in_err-zero c =
    let p = err_from_is_err_and c.from_residual.result c.from_residual.ensures.1 in
    rw (p.1, p.2) (judged_unfit (layout_held c.args.rows) (rows_held c.args.rows) (sym c.check_each_row.ensures ∙ c.in_err-zero.was))

pub returns-then-zero : goal.returns-then-zero
returns-then-zero c =
    let layout = layout_held c.args.rows in
    let rows = rows_held c.args.rows in
    let e = sym c.check_each_row.ensures ∙ c.in_ok-zero.was in
    elim c.then-zero.branch [
      | then-zero-via-then-zero w ↦ judged_zero layout rows e w.if-zero.true
      | then-zero-via-else-zero+then-not-independent w ↦ rw w.if-not-independent.true at (judged_together layout rows e w.independent.ensures)
    ]

pub returns : goal.returns
returns c =
    rw c.if-not-independent.false
    at (judged_together (layout_held c.args.rows) (rows_held c.args.rows) (sym c.check_each_row.ensures ∙ c.in_ok-zero.was) c.independent.ensures)
