-- `matrix_files::ties::file_tied_rows` meets its contract: a refusal leaves the slice, and a list that is not empty is the only one.
use mathlib.Core.Path.{◌≡◌, refl, sym}
use native.Mathlib.Omega.{arith}
use lib.ListN.{length}
use Rattle.std.proofs.lemmas.Result.{err_from_is_err_and}
use Rattle.numbers.proofs.Refusals.{refused}
use Rattle.numbers.specs.declared.refusal.Refusal.TheVariants.{WrongLength}
use Rattle.matrix_model.specs.File.{file_size}
use Rattle.matrix_model.proofs.Internal.TieNumbers.{other_tie, short_tie, form_tie, tie_refused, none_listed, some_listed}
use Rattle.matrix_blocks.specs.Layouts.{layout_in}
use Rattle.matrix_files.proofs.ties.file_tied_rows.Goals as goal
use Rattle.matrix_files.proofs.ties.file_tied_rows.Goals.{In_ok-file}

-- the file has the right length
long : (c : In_ok-file) → length c.args.file.now ≡ file_size (layout_in c.args.layout)
long c = let same = c.in_ok-file.ensures in rw (same.0, same.1) at c.in_ok-file.file.long

pub returns-in_err-file : goal.returns-in_err-file
returns-in_err-file c =
    let a = c.args in
    let p = err_from_is_err_and c.from_residual.result c.from_residual.ensures.1 in
    let other = c.in_err-file.ensures in
    rw (p.1, p.2, other.0) (tie_refused (layout_in a.layout) a.file.now a.out.now WrongLength (other_tie (layout_in a.layout) a.file.now (length a.out.now) other.1) refl)

pub returns-then-out-layout : goal.returns-then-out-layout
returns-then-out-layout c =
    let a = c.args in
    tie_refused (layout_in a.layout) a.file.now a.out.now WrongLength (short_tie (layout_in a.layout) a.file.now (length a.out.now) (omega arith)) refl

pub returns-in_err-check_form : goal.returns-in_err-check_form
returns-in_err-check_form c =
    let a = c.args in
    let p = err_from_is_err_and c.from_residual-in_err-check_form.result c.from_residual-in_err-check_form.ensures.1 in
    let same = c.in_ok-file.ensures in
    let e = rw (same.0, same.1) at c.in_err-check_form.ensures in
    rw (p.1, p.2)
    (tie_refused (layout_in a.layout) a.file.now a.out.now _
    (form_tie (layout_in a.layout) a.file.now (length a.out.now) (long (goal.at.returns-in_err-check_form c).In_ok-file) (omega arith) _ e (refused _ refl)) refl)

pub list_tied-count-requires : goal.list_tied-count-requires
list_tied-count-requires c =
    let same = c.in_ok-file.ensures in
    rw same.0 (c.requires.0, c.requires.1, c.requires.1.room, omega arith)

pub returns-then-count-eq0 : goal.returns-then-count-eq0
returns-then-count-eq0 c =
    let a = c.args in
    let same = c.in_ok-file.ensures in
    let form = sym (rw (same.0, same.1) at c.in_ok-check_form.ensures) in
    none_listed (layout_in a.layout) a.file.now a.out.now (long (goal.at.returns-then-count-eq0 c).In_ok-file) (omega arith) form (rw (same.0, same.1) at c.list_tied-count.ensures) c.if-count-eq0.true

pub returns : goal.returns
returns c =
    let a = c.args in
    let same = c.in_ok-file.ensures in
    let form = sym (rw (same.0, same.1) at c.in_ok-check_form.ensures) in
    some_listed (layout_in a.layout) a.file.now a.out.now (long (goal.at.returns c).In_ok-file) (omega arith) form (rw (same.0, same.1) at c.list_tied-count.ensures) c.if-count-eq0.false
