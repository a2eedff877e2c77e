-- `matrix_blocks::files::MatrixRows::rows_for_block` meets its contract: the rows are within the set.
use mathlib.Core.Path.{◌≡◌}
use Prim.Native.Nat.{◌+◌, ◌-◌, ◌*◌, ◌≤◌}
use native.Mathlib.Omega.{arith}
use lib.ListN.{length}
use Rattle.matrix_model.specs.Block.{rows_in}
use Rattle.matrix_model.proofs.Internal.Rows.{within_set}
use Rattle.matrix_blocks.specs.Layouts.{layout_in}
use Rattle.matrix_blocks.proofs.files.MatrixRows.rows_for_block.Goals as goal
use Rattle.matrix_blocks.proofs.files.MatrixRows.rows_for_block.Goals.{After-bytes_in}

within : (c : After-bytes_in) → c.bytes_before-at.result + c.bytes_in.result ≤ length c.args.self.bytes.now
within c =
    rw (c.bytes_in.ensures, c.bytes_before-at.ensures)
    (within_set (layout_in c.args.self.layout) c.args.self.layout.fits c.args.self.bytes.now c.args.b c.args.self.long c.requires)

pub bytes_before-at-requires : goal.bytes_before-at-requires
bytes_before-at-requires c = c.requires

pub bytes_in-requires : goal.bytes_in-requires
bytes_in-requires c = c.requires

pub overflow_add-end : goal.overflow_add-end
overflow_add-end c = omega (arith, within (goal.at.overflow_add-end c).After-bytes_in)

pub slice_bounds-result-end : goal.slice_bounds-result-end
slice_bounds-result-end c = omega (arith, within (goal.at.slice_bounds-result-end c).After-bytes_in)

pub returns : goal.returns
returns c =
    let a = c.args in
    let at = c.bytes_before-at.result in
    let e : at + c.bytes_in.result - at ≡ (layout_in a.self.layout).row_bytes * rows_in (layout_in a.self.layout) a.b = omega (arith, c.bytes_in.ensures) in
    rw (e, c.bytes_before-at.ensures)
