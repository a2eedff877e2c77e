-- `matrix_blocks::blocks::laid_out` meets its contract: the head holds, and the part that the rows do not use is zero.
use mathlib.Core.Path.{ap, ap₂, ◌∙◌}
use mathlib.Core.Bool.{◌&&◌}
use Prim.Native.Nat.{ℕ, ◌+◌, ◌-◌, ◌≤◌}
use native.Mathlib.Omega.{arith}
use Rattle.linear_model.specs.Tables.{every}
use Rattle.matrix_model.specs.Block.{zero_byte, laid_out}
use Rattle.matrix_model.proofs.Layouts.{before_check}
use Rattle.matrix_model.proofs.Internal.Blocks.{unused_part}
use Rattle.matrix_blocks.specs.Layouts.{layout_in}
use Rattle.matrix_blocks.proofs.blocks.laid_out.Goals as goal
use Rattle.matrix_blocks.proofs.blocks.laid_out.Goals.{After-bytes_in-end}

room : (c : After-bytes_in-end) → 4 + c.bytes_in-end.result ≤ 510
room c =
    rw c.bytes_in-end.ensures (before_check (layout_in c.args.layout) c.args.layout.fits c.args.b)

pub bytes_in-end-requires : goal.bytes_in-end-requires
bytes_in-end-requires c = c.requires.1

pub overflow_add-end : goal.overflow_add-end
overflow_add-end c = omega (arith, room (goal.at.overflow_add-end c).After-bytes_in-end)

pub head_holds-requires : goal.head_holds-requires
head_holds-requires c = c.requires

pub slice_bounds-all_zero-count : goal.slice_bounds-all_zero-count
slice_bounds-all_zero-count c = omega (arith, room (goal.at.slice_bounds-all_zero-count c).After-bytes_in-end)

pub slice_bounds-all_zero-start : goal.slice_bounds-all_zero-start
slice_bounds-all_zero-start c = omega (arith, room (goal.at.slice_bounds-all_zero-start c).After-bytes_in-end)

pub returns : goal.returns
unfolding laid_out
returns c =
    let block = c.args.block.now in
    let unused =
    c.all_zero.ensures
    ∙ unused_part block (4 + c.bytes_in-end.result) (room (goal.at.returns c).After-bytes_in-end) (omega arith)
    ∙ ap (λ (k : ℕ). every (510 - (4 + k)) (λ j. zero_byte block (4 + k + j))) c.bytes_in-end.ensures
    in
    ap₂ ◌&&◌ c.head_holds.ensures unused
