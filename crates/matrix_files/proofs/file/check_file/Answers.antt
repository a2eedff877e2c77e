-- `matrix_files::file::check_file` meets its contract: the conditions are looked at in the table's order, each over the whole file.
use mathlib.Core.Path.{refl, sym, ◌∙◌}
use Rattle.std.proofs.lemmas.Result.{err_from_is_err_and}
use Rattle.numbers.proofs.Refusals.{refused}
use Rattle.matrix_model.proofs.Internal.TieNumbers.{faulty_blocks, faulty_rows}
use Rattle.matrix_files.proofs.file.check_file.Goals as goal

pub returns-in_err-check_blocks : goal.returns-in_err-check_blocks
returns-in_err-check_blocks c =
    let p = err_from_is_err_and c.from_residual.result c.from_residual.ensures.1 in
    rw (p.1, p.2) (faulty_blocks _ _ c.in_err-check_blocks.ensures (refused _ refl))

pub returns : goal.returns
returns c = c.check_all_rows.ensures ∙ faulty_rows _ _ (sym c.in_ok-check_blocks.ensures)
