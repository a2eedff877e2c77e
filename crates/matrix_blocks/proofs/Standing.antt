-- Laws of rows where they stand.
use mathlib.Core.Path.{◌≡◌, sym, ap, ◌∙◌}
use mathlib.Core.List.{List}
use Prim.Native.Nat.{ℕ, ◌*◌, ◌<◌}
use lib.ListN.{length}
use Rattle.matrix_model.specs.Block.{Layout, rows_in}
use Rattle.matrix_model.specs.File.{Fits, block_count, rows_size}
use Rattle.matrix_model.specs.Internal.Rows.{rows_for_block}
use Rattle.matrix_model.proofs.Internal.RowNumbers.{Among, among_block}
use Rattle.matrix_model.proofs.Rows.{length_rows}
use Rattle.matrix_blocks.specs.Layouts.{layout_in}
use Rattle.matrix_blocks.specs.declared.layouts.Layout.{Layout as Numbers}
use Rattle.matrix_blocks.specs.declared.files.Standing.{Standing}
use Rattle.matrix_blocks.specs.declared.files.Standing.TheVariants.{InFile, Alone}
use Rattle.matrix_blocks.specs.Standing.{layout_held, rows_held}

-- their layout fits
pub fits_held : (rows : Standing) → Fits (layout_held rows)
fits_held (InFile file) = file.layout.fits
fits_held (Alone rows) = rows.layout.fits

-- and they are as long as it says
pub long_held : (rows : Standing) → length (rows_held rows) ≡ rows_size (layout_held rows)
long_held (InFile file) = length_rows (layout_in file.layout) file.bytes.now
long_held (Alone rows) = rows.long

-- the rows at block b, after those of the blocks before, where a struct has their layout
pub among_held : (rows : Standing) (layout : Numbers) (b : ℕ) {part : List ℕ} → layout_in layout ≡ layout_held rows → b < block_count (layout_in layout)
    → part ≡ rows_for_block (layout_held rows) (rows_held rows) b
    → Among (layout_in layout) (rows_held rows) ((layout_in layout).block_rows * b) (rows_in (layout_in layout) b) part
among_held rows layout b e l h =
    among_block (layout_in layout) layout.fits b (long_held rows ∙ ap rows_size (sym e)) l
    (h ∙ ap (λ (layout : Layout). rows_for_block layout (rows_held rows) b) (sym e))
