-- `matrix_files::file::file_write` meets its contract: a refusal leaves the slice, and the rows survive in what is written.
use mathlib.Core.Path.{◌≡◌, refl, sym, ap, ◌∙◌}
use native.Mathlib.Omega.{arith}
use lib.ListN.{length, take}
use lib.Seq.{take_at}
use Rattle.std.proofs.lemmas.Result.{err_from_is_err_and}
use Rattle.numbers.specs.Number.{first}
use Rattle.numbers.proofs.Outputs.{refusal, success}
use Rattle.numbers.proofs.Refusals.{refused}
use Rattle.matrix_model.specs.File.{file_size, rows_size, file_from, row_faults_of}
use Rattle.matrix_model.proofs.RoundTrip.{length_file, survives}
use Rattle.matrix_model.proofs.Internal.Reading.{other_write, short_write, whole_write}
use Rattle.matrix_blocks.specs.Layouts.{layout_in}
use Rattle.matrix_files.proofs.Clauses.{written}
use Rattle.matrix_files.proofs.file.file_write.Goals as goal
use Rattle.matrix_files.proofs.file.file_write.Goals.{In_ok-rows}

-- the rows have the right length
long : (c : In_ok-rows) → length c.args.rows.now ≡ rows_size (layout_in c.args.layout)
long c = let same = c.in_ok-rows.ensures in rw (same.0, same.1) at c.in_ok-rows.rows.long

pub returns-in_err-rows : goal.returns-in_err-rows
returns-in_err-rows c =
    let a = c.args in
    let p = err_from_is_err_and c.from_residual.result c.from_residual.ensures.1 in
    let other = c.in_err-rows.ensures in
    rw (p.1, p.2, other.0) (written (refusal _ _ (other_write (layout_in a.layout) a.rows.now (length a.out.now) other.1) (λ z. omega arith)))

pub returns-then-out-file_size : goal.returns-then-out-file_size
returns-then-out-file_size c =
    let a = c.args in
    written (refusal _ _ (short_write (layout_in a.layout) a.rows.now (length a.out.now) (omega (arith, c.file_size.ensures))) (λ z. omega arith))

pub returns-in_err-check_all_rows : goal.returns-in_err-check_all_rows
returns-in_err-check_all_rows c =
    let a = c.args in
    let p = err_from_is_err_and c.from_residual-in_err-check_all_rows.result c.from_residual-in_err-check_all_rows.ensures.1 in
    let same = c.in_ok-rows.ensures in
    let e = rw (same.0, same.1) at c.in_err-check_all_rows.ensures in
    rw (p.1, p.2)
    (written (refusal _ _ (e ∙ whole_write (layout_in a.layout) a.rows.now (length a.out.now) (long (goal.at.returns-in_err-check_all_rows c).In_ok-rows) (omega (arith, c.file_size.ensures))) (refused _ refl)))

pub write_blocks-requires : goal.write_blocks-requires
write_blocks-requires c = let same = c.in_ok-rows.ensures in rw same.0 (omega (arith, c.file_size.ensures))

pub returns : goal.returns
returns c =
    let layout = layout_in c.args.layout in
    let set = c.args.rows.now in
    let same = c.in_ok-rows.ensures in
    let e = rw (same.0, same.1) at c.write_blocks.ensures in
    let fit : first (row_faults_of layout set) ≡ 0 = sym (rw (same.0, same.1) at c.in_ok-check_all_rows.ensures) in
    let long = long (goal.at.returns c).In_ok-rows in
    let file = length_file layout c.args.layout.fits set long in
    written (success (file_from layout set) c.args.out.now (sym fit ∙ whole_write layout set (length c.args.out.now) long (omega (arith, c.file_size.ensures))) refl (rw file e)
    (rw (ap (take (file_size layout)) e ∙ take_at (file_from layout set) _ (file_size layout) file) (survives layout c.args.layout.fits set long fit)))
