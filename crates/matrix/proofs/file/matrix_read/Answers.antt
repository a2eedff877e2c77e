-- `matrix::file::matrix_read` meets its contract: a set that there is has its layout.
use mathlib.Core.List.{List}
use Prim.Native.Nat.{ℕ}
use lib.ListN.{length, take}
use Rattle.std.proofs.lemmas.Result.{err_from_is_err_and}
use Rattle.matrix_model.specs.Block.{Layout}
use Rattle.matrix_model.specs.File.{rows_size, rows_of, layout_of, read_conditions_of, RestoresOf, read_number}
use Rattle.matrix.proofs.Calls.{set_eliminable, called_of_set, called_of_none}
use Rattle.matrix.proofs.file.matrix_read.Goals as goal

-- what holds with a layout of what is written
abbrev holds : List ℕ → Layout → List ℕ → Type 0
holds s x new = RestoresOf x (take (rows_size x) new) s

pub returns-in_err-named_layout : goal.returns-in_err-named_layout
unfolding read_number
returns-in_err-named_layout c =
    let a = c.args in
    let p = err_from_is_err_and c.from_residual.result c.from_residual.ensures.1 in
    let none = c.in_err-named_layout.ensures in
    rw (p.1, p.2, none.0)
    (called_of_none a.set none.1 (λ x. read_conditions_of x a.file.now (length a.out.now)) (rows_of (layout_of a.set) a.file.now) (holds a.file.now (layout_of a.set) a.out.now) a.out.now)

pub file_read-requires : goal.file_read-requires
file_read-requires c = let found = c.in_ok-named_layout.ensures in set_eliminable c.args.set found.0 found.1

pub returns : goal.returns
unfolding read_number
returns c =
    let a = c.args in
    let found = c.in_ok-named_layout.ensures in
    called_of_set a.set found.0 found.1 (λ x. read_conditions_of x a.file.now (length a.out.now)) (λ x. rows_of x a.file.now) (holds a.file.now) a.out.now c.file_read.ensures
