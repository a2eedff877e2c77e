-- `matrix_files::ties::check_form` meets its contract: the conditions are looked at in the table's order, each over the whole file.
use mathlib.Core.Path.{refl, sym, ◌∙◌}
use Rattle.std.proofs.lemmas.Result.{err_from_is_err_and}
use Rattle.numbers.proofs.Refusals.{refused}
use Rattle.matrix_model.proofs.Internal.TieNumbers.{form_blocks, form_unfit, form_fit}
use Rattle.matrix_files.proofs.ties.check_form.Goals as goal

pub returns-in_err-check_blocks : goal.returns-in_err-check_blocks
returns-in_err-check_blocks c =
    let p = err_from_is_err_and c.from_residual.result c.from_residual.ensures.1 in
    rw (p.1, p.2) (form_blocks _ _ _ c.in_err-check_blocks.ensures (refused _ refl))

pub returns-in_err-_zero : goal.returns-in_err-_zero
returns-in_err-_zero c =
    let p = err_from_is_err_and c.from_residual-in_err-_zero.result c.from_residual-in_err-_zero.ensures.1 in
    rw (p.1, p.2) (form_unfit _ _ (sym c.in_ok-check_blocks.ensures) (sym c.check_each_row.ensures ∙ c.in_err-_zero.was))

pub returns : goal.returns
returns c = sym (form_fit _ _ (sym c.in_ok-check_blocks.ensures) (sym c.check_each_row.ensures ∙ c.in_ok-_zero.was))
