-- `matrix_blocks::files::Standing::rows_at` meets its contract: the rows of a block stand where the layout says, or where the rows before them end.
use mathlib.Core.Path.{◌∙◌}
use Rattle.matrix_model.proofs.Internal.RowNumbers.{block_rows_lem}
use Rattle.matrix_blocks.specs.Layouts.{layout_in}
use Rattle.matrix_blocks.proofs.files.Standing.rows_at.Goals as goal

pub returns-in-InFile : goal.returns-in-InFile
returns-in-InFile c =
    let file = c.in-InFile.file in
    let l = rw c.in-InFile.is at c.requires in
    rw c.in-InFile.is (c.rows_of_block.ensures ∙ block_rows_lem (layout_in file.layout) file.layout.fits file.bytes.now c.args.b file.long l)
