use mathlib.Core.Path.{◌≡◌, ap, ◌∙◌}
use Prim.Native.Nat.{◌+◌, ◌*◌, ◌<◌}
use native.Mathlib.Omega.{arith}
use lib.ListN.{length}
use Rattle.linear_model.specs.Tables.{tabulate}
use Rattle.linear_model.proofs.Tables.{length-tabulate}
use Rattle.matrix_model.specs.File.{block_count, file_size, file_byte, file_from}
use Rattle.matrix_model.proofs.Internal.Copies.{copied_none, copied_long, copied_table}
use Rattle.matrix_model.proofs.Blocks.{length-block, block_part}
use Rattle.matrix_blocks.specs.Layouts.{layout_in}
use Rattle.matrix_files.proofs.file.write_blocks.Goals as goal
use Rattle.matrix_files.proofs.file.write_blocks.Goals.{After-block_of-block, In-loop-b}

-- b is a block
inside : (c : In-loop-b) → c.loop-b.b < block_count (layout_in c.args.rows.layout)
inside c = omega (arith, c.block_count-b-end.ensures)

long : (c : After-block_of-block) → length c.block_of-block.result ≡ 512
long c =
    ap length c.block_of-block.ensures ∙ length-block (layout_in c.args.rows.layout) c.args.rows.layout.fits c.args.rows.bytes.now c.args.rows.long c.loop-b.b (omega (arith, c.block_count-b-end.ensures))

pub loop-b-init : goal.loop-b-init
unfolding tabulate
loop-b-init c = copied_none

pub slice_bounds-put-end : goal.slice_bounds-put-end
slice_bounds-put-end c = omega (arith, long (goal.at.slice_bounds-put-end c).After-block_of-block)

pub overflow_mul-b : goal.overflow_mul-b
overflow_mul-b c = omega (arith, inside (goal.at.overflow_mul-b c).In-loop-b)

pub put-requires : goal.put-requires
put-requires c = omega (arith, long (goal.at.put-requires c).After-block_of-block, inside (goal.at.put-requires c).In-loop-b, copied_long c.loop-b.invariant)

pub loop-b-preserved : goal.loop-b-preserved
loop-b-preserved c =
    let layout = layout_in c.args.rows.layout in
    let rows = c.args.rows.bytes.now in
    let b = c.loop-b.b in
    let i = inside (goal.at.loop-b-preserved c).In-loop-b in
    let e : 512 * (b + 1) ≡ 512 * b + 512 = omega arith in
    rw e (copied_table (512 * b) (file_byte layout rows) c.block_of-block.result 512 c.loop-b.invariant
    c.put.ensures (c.block_of-block.ensures ∙ block_part layout c.args.rows.layout.fits rows c.args.rows.long b i) (omega arith))

pub shape_of-out : goal.shape_of-out
shape_of-out c = copied_long c.loop-b.invariant

pub returns : goal.returns
unfolding file_from
returns c =
    let layout = layout_in c.args.rows.layout in
    let e : 512 * c.loop-b.b ≡ file_size layout = omega (arith, c.block_count-b-end.ensures) in
    let w = rw e at c.loop-b.invariant in
    rw (length-tabulate (file_size layout) (file_byte layout c.args.rows.bytes.now)) at w.is
