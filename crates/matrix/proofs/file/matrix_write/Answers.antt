-- `matrix::file::matrix_write` meets its contract: a set that there is has its layout.
use mathlib.Core.List.{List}
use Prim.Native.Nat.{ℕ}
use lib.ListN.{length, take}
use Rattle.std.proofs.lemmas.Result.{err_from_is_err_and}
use Rattle.matrix_model.specs.Block.{Layout}
use Rattle.matrix_model.specs.File.{file_size, file_from, layout_of, write_conditions_of, SurvivesOf, write_number}
use Rattle.matrix.proofs.Calls.{set_eliminable, called_of_set, called_of_none}
use Rattle.matrix.proofs.file.matrix_write.Goals as goal

-- what holds with a layout of what is written
abbrev holds : List ℕ → Layout → List ℕ → Type 0
holds s x new = SurvivesOf x s (take (file_size x) new)

pub returns-in_err-named_layout : goal.returns-in_err-named_layout
unfolding write_number
returns-in_err-named_layout c =
    let a = c.args in
    let p = err_from_is_err_and c.from_residual.result c.from_residual.ensures.1 in
    let none = c.in_err-named_layout.ensures in
    rw (p.1, p.2, none.0)
    (called_of_none a.set none.1 (λ x. write_conditions_of x a.rows.now (length a.out.now)) (file_from (layout_of a.set) a.rows.now) (holds a.rows.now (layout_of a.set) a.out.now) a.out.now)

pub file_write-requires : goal.file_write-requires
file_write-requires c = let found = c.in_ok-named_layout.ensures in set_eliminable c.args.set found.0 found.1

pub returns : goal.returns
unfolding write_number
returns c =
    let a = c.args in
    let found = c.in_ok-named_layout.ensures in
    called_of_set a.set found.0 found.1 (λ x. write_conditions_of x a.rows.now (length a.out.now)) (λ x. file_from x a.rows.now) (holds a.rows.now) a.out.now c.file_write.ensures
