-- `matrix::file::matrix_check` meets its contract: a set that there is has its layout.
use Rattle.std.proofs.lemmas.Result.{err_from_is_err_and}
use Rattle.matrix_model.specs.Block.{Layout}
use Rattle.matrix_model.specs.File.{check_conditions_of, check_number}
use Rattle.matrix.proofs.Calls.{set_eliminable, number_of-set, number_of-none}
use Rattle.matrix.proofs.file.matrix_check.Goals as goal

pub returns-in_err-named_layout : goal.returns-in_err-named_layout
unfolding check_number
returns-in_err-named_layout c =
    let p = err_from_is_err_and c.from_residual.result c.from_residual.ensures.1 in
    let none = c.in_err-named_layout.ensures in
    rw (p.1, p.2, none.0) (number_of-none c.args.set none.1 (λ (x : Layout). check_conditions_of x c.args.file.now))

pub file_check-requires : goal.file_check-requires
file_check-requires c = let found = c.in_ok-named_layout.ensures in set_eliminable c.args.set found.0 found.1

pub returns : goal.returns
unfolding check_number
returns c =
    let found = c.in_ok-named_layout.ensures in
    number_of-set c.args.set found.0 found.1 (λ (x : Layout). check_conditions_of x c.args.file.now) c.file_check.ensures
