-- `matrix_blocks::files::MatrixRows::block_of` meets its contract: head, rows and check are written over zeros.
use mathlib.Core.List.{[], ◌∷◌}
use native.Mathlib.Omega.{arith}
use Rattle.matrix_model.proofs.Layouts.{before_check, count_byte}
use Rattle.matrix_model.proofs.Internal.Rows.{long_set}
use Rattle.matrix_model.proofs.Internal.Blocks.{block_made}
use Rattle.matrix_blocks.specs.Layouts.{layout_in}
use Rattle.matrix_blocks.proofs.files.MatrixRows.block_of.Goals as goal

pub rows_in-n-requires : goal.rows_in-n-requires
rows_in-n-requires c = c.requires

pub overflow_cast-b : goal.overflow_cast-b
overflow_cast-b c = omega (arith, c.args.self.layout.fits.blocks_in_byte)

pub overflow_cast-n : goal.overflow_cast-n
overflow_cast-n c =
    omega (arith, c.rows_in-n.ensures, count_byte (layout_in c.args.self.layout) c.args.self.layout.fits c.args.b)

pub put-requires-2 : goal.put-requires-2
put-requires-2 c =
    let layout = layout_in c.args.self.layout in
    omega (arith, before_check layout c.args.self.layout.fits c.args.b, long_set layout c.args.self.layout.fits c.args.self.bytes.now c.args.b c.args.self.long c.requires c.rows_for_block.result.now c.rows_for_block.ensures)

pub returns : goal.returns
returns c =
    block_made (layout_in c.args.self.layout) c.args.self.layout.fits c.args.self.bytes.now c.args.b c.rows_in-n.result c.args.self.long c.requires c.rows_in-n.ensures
    c.rows_for_block.result.now (c.sums-first.result.first ∷ c.sums-first.result.second ∷ [])
    c.put.ensures c.rows_for_block.ensures c.put-2.ensures c.put-3.ensures c.sums-first.ensures
