-- `matrix_files::file::file_read` meets its contract: a refusal leaves the slice, and what is written restores the file.
use mathlib.Core.Path.{◌≡◌, refl, sym, ap, ◌∙◌}
use native.Mathlib.Omega.{arith}
use lib.ListN.{length, take}
use lib.Seq.{take_at}
use Rattle.std.proofs.lemmas.Result.{err_from_is_err_and}
use Rattle.numbers.specs.Number.{first}
use Rattle.numbers.proofs.Outputs.{refusal, success}
use Rattle.numbers.proofs.Refusals.{refused}
use Rattle.matrix_model.specs.File.{file_size, rows_size, rows_of, faults_of}
use Rattle.matrix_model.proofs.Rows.{length_rows}
use Rattle.matrix_model.proofs.RoundTrip.{restored}
use Rattle.matrix_model.proofs.Internal.Reading.{other_read, short_read, whole_read, whole_check}
use Rattle.matrix_blocks.specs.Layouts.{layout_in}
use Rattle.matrix_files.proofs.Clauses.{written}
use Rattle.matrix_files.proofs.file.file_read.Goals as goal
use Rattle.matrix_files.proofs.file.file_read.Goals.{In_ok-file}

-- the file has the right length
long : (c : In_ok-file) → length c.args.file.now ≡ file_size (layout_in c.args.layout)
long c = let same = c.in_ok-file.ensures in rw (same.0, same.1) at c.in_ok-file.file.long

pub returns-in_err-file : goal.returns-in_err-file
returns-in_err-file c =
    let a = c.args in
    let p = err_from_is_err_and c.from_residual.result c.from_residual.ensures.1 in
    let other = c.in_err-file.ensures in
    rw (p.1, p.2, other.0) (written (refusal _ _ (other_read (layout_in a.layout) a.file.now (length a.out.now) other.1) (λ z. omega arith)))

pub returns-then-out-rows_size : goal.returns-then-out-rows_size
returns-then-out-rows_size c =
    let a = c.args in
    written (refusal _ _ (short_read (layout_in a.layout) a.file.now (length a.out.now) (omega (arith, c.rows_size.ensures))) (λ z. omega arith))

pub returns-in_err-check_file : goal.returns-in_err-check_file
returns-in_err-check_file c =
    let a = c.args in
    let p = err_from_is_err_and c.from_residual-in_err-check_file.result c.from_residual-in_err-check_file.ensures.1 in
    let same = c.in_ok-file.ensures in
    let e = rw (same.0, same.1) at c.in_err-check_file.ensures in
    rw (p.1, p.2)
    (written (refusal _ _ (e ∙ whole_read (layout_in a.layout) a.file.now (length a.out.now) (long (goal.at.returns-in_err-check_file c).In_ok-file) (omega (arith, c.rows_size.ensures))) (refused _ refl)))

pub write_rows-requires : goal.write_rows-requires
write_rows-requires c = let same = c.in_ok-file.ensures in rw same.0 (omega (arith, c.rows_size.ensures))

pub returns : goal.returns
returns c =
    let layout = layout_in c.args.layout in
    let file = c.args.file.now in
    let same = c.in_ok-file.ensures in
    let e = rw (same.0, same.1) at c.write_rows.ensures in
    let fit : first (faults_of layout file) ≡ 0 = sym (rw (same.0, same.1) at c.in_ok-check_file.ensures) in
    let long = long (goal.at.returns c).In_ok-file in
    written (success (rows_of layout file) c.args.out.now (sym fit ∙ whole_read layout file (length c.args.out.now) long (omega (arith, c.rows_size.ensures))) refl (rw (length_rows layout file) e)
    (rw (ap (take (rows_size layout)) e ∙ take_at (rows_of layout file) _ (rows_size layout) (length_rows layout file)) (restored layout file c.args.layout.fits (sym (whole_check layout file long) ∙ fit))))
