-- `matrix_files::file::file_check` meets its contract: a file of another length is 1, and of any other the number is that of its faults.
use mathlib.Core.Path.{◌∙◌}
use Rattle.std.proofs.lemmas.Result.{err_from_is_err_and}
use Rattle.matrix_model.proofs.Internal.Reading.{other_check, whole_check}
use Rattle.matrix_blocks.specs.Layouts.{layout_in}
use Rattle.matrix_files.proofs.file.file_check.Goals as goal

pub returns-in_err-new : goal.returns-in_err-new
returns-in_err-new c =
    let p = err_from_is_err_and c.from_residual.result c.from_residual.ensures.1 in
    let other = c.in_err-new.ensures in
    rw (p.1, p.2, other.0) (other_check (layout_in c.args.layout) c.args.file.now other.1)

pub returns : goal.returns
returns c =
    let same = c.in_ok-new.ensures in
    let e = rw (same.0, same.1) at c.check_file.ensures in
    e ∙ whole_check (layout_in c.args.layout) c.args.file.now (rw (same.0, same.1) at c.in_ok-new.field-0.long)
