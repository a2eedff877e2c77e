use mathlib.Core.Path.{◌≡◌, ◌∙◌}
use Prim.Native.Nat.{◌+◌, ◌*◌, ◌<◌, min}
use native.Mathlib.Omega.{arith}
use lib.ListN.{length}
use Rattle.linear_model.specs.Tables.{tabulate}
use Rattle.linear_model.proofs.Tables.{length-tabulate}
use Rattle.matrix_model.specs.Block.{rows_in}
use Rattle.matrix_model.specs.File.{block_count, rows_size, row_byte, rows_of}
use Rattle.matrix_model.proofs.Layouts.{next_bytes, covered_bytes}
use Rattle.matrix_model.proofs.Internal.Copies.{copied_none, copied_long, copied_table}
use Rattle.matrix_model.proofs.Internal.Rows.{rows_part, long_part}
use Rattle.matrix_blocks.specs.Layouts.{layout_in}
use Rattle.matrix_files.proofs.file.write_rows.Goals as goal
use Rattle.matrix_files.proofs.file.write_rows.Goals.{After-rows_of_block, In-loop-b}

-- b is a block
inside : (c : In-loop-b) → c.loop-b.b < block_count (layout_in c.args.file.layout)
inside c = omega (arith, c.block_count-b-end.ensures)

long : (c : After-rows_of_block)
    → (let layout = layout_in c.args.file.layout in
    length c.rows_of_block.result.now ≡ layout.row_bytes * rows_in layout c.loop-b.b)
long c =
    long_part (layout_in c.args.file.layout) c.args.file.layout.fits c.args.file.bytes.now c.loop-b.b c.args.file.long (omega (arith, c.block_count-b-end.ensures)) c.rows_of_block.result.now c.rows_of_block.ensures

pub loop-b-init : goal.loop-b-init
unfolding tabulate
loop-b-init c =
    let layout = layout_in c.args.file.layout in
    let e : min (layout.row_bytes * layout.block_rows * 0) (rows_size layout) ≡ 0 = omega arith in
    rw e copied_none

pub put-requires : goal.put-requires
put-requires c =
    omega (arith, c.bytes_before.ensures, long (goal.at.put-requires c).After-rows_of_block, next_bytes (layout_in c.args.file.layout) c.args.file.layout.fits c.loop-b.b (inside (goal.at.put-requires c).In-loop-b), copied_long c.loop-b.invariant)

pub loop-b-preserved : goal.loop-b-preserved
loop-b-preserved c =
    let layout = layout_in c.args.file.layout in
    let file = c.args.file.bytes.now in
    let b = c.loop-b.b in
    let at = layout.row_bytes * layout.block_rows * b in
    let n = layout.row_bytes * rows_in layout b in
    let next = next_bytes layout c.args.file.layout.fits b (inside (goal.at.loop-b-preserved c).In-loop-b) in
    let e : min at (rows_size layout) ≡ at = omega arith in
    let f : min (layout.row_bytes * layout.block_rows * (b + 1)) (rows_size layout) ≡ at + n = omega arith in
    rw f (copied_table at (row_byte layout file) c.rows_of_block.result.now n (rw e at c.loop-b.invariant)
    (rw c.bytes_before.ensures at c.put.ensures) (c.rows_of_block.ensures ∙ rows_part layout c.args.file.layout.fits file b c.args.file.long (inside (goal.at.loop-b-preserved c).In-loop-b)) (omega arith))

pub shape_of-out : goal.shape_of-out
shape_of-out c = copied_long c.loop-b.invariant

pub returns : goal.returns
unfolding rows_of
returns c =
    let layout = layout_in c.args.file.layout in
    let d : c.loop-b.b ≡ block_count layout = omega (arith, c.block_count-b-end.ensures) in
    let e : min (layout.row_bytes * layout.block_rows * c.loop-b.b) (rows_size layout) ≡ rows_size layout = rw d (omega (arith, covered_bytes layout c.args.file.layout.fits)) in
    let w = rw e at c.loop-b.invariant in
    rw (length-tabulate (rows_size layout) (row_byte layout c.args.file.bytes.now)) at w.is
