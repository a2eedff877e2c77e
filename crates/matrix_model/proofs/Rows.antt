-- Laws of the rows of a file: where they stand.
use mathlib.Core.Path.{◌≡◌, ◌∙◌}
use mathlib.Core.List.{List}
use Prim.Native.Nat.{ℕ, ◌+◌, ◌*◌, ◌<◌}
use lib.ListN.{length, get_or}
use Rattle.linear_model.proofs.Tables.{length-tabulate, get_d_tabulate}
use Rattle.matrix_model.specs.File.{Fits, rows_size, row_byte, rows_of}
use Rattle.matrix_model.specs.Block.{Layout}
use Rattle.matrix_model.proofs.Layouts.{row_byte_lem}

pub length_rows : (layout : Layout) (file : List ℕ) → length (rows_of layout file) ≡ rows_size layout
unfolding rows_of
length_rows layout file = length-tabulate (rows_size layout) (row_byte layout file)

-- byte k of the rows of block b
pub get_d_rows : (layout : Layout) → Fits layout → (file : List ℕ) (b k : ℕ) → k < layout.row_bytes * layout.block_rows
    → layout.row_bytes * layout.block_rows * b + k < rows_size layout
    → get_or (rows_of layout file) (layout.row_bytes * layout.block_rows * b + k) 0 ≡ get_or file (512 * b + 4 + k) 0
unfolding rows_of
get_d_rows layout fits file b k l h =
    get_d_tabulate (rows_size layout) (row_byte layout file) (layout.row_bytes * layout.block_rows * b + k) h ∙ row_byte_lem layout fits file b k l
