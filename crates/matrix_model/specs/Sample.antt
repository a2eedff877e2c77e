-- Rows of given trits, and the matrix of the paper's sample: row i has trit 1 in column i alone.
use Rattle.std.specs.Prelude.{ℕ, ◌/◌, ◌%◌, List, get_or}
use Rattle.linear_model.specs.Tables.{tabulate, one_at}
use Rattle.linear_model.specs.Trits.{pack_trits}
use Rattle.matrix_model.specs.Block.{Layout}
use Rattle.matrix_model.specs.File.{rows_size, row_plane_of, file_from, matrix_b}

-- byte k of the rows whose trit j in row i is `trits i j`
abbrev pub packed_byte : Layout → (ℕ → ℕ → ℕ) → ℕ → ℕ
packed_byte layout trits k = get_or (pack_trits (row_plane_of layout) (trits (k / layout.row_bytes))) (k % layout.row_bytes) 0

-- these rows, one after the other
unfoldable pub packed_rows : Layout → (ℕ → ℕ → ℕ) → List ℕ
packed_rows layout trits = tabulate (rows_size layout) (packed_byte layout trits)

-- the diagonal
abbrev pub diagonal_rows : Layout → List ℕ
diagonal_rows layout = packed_rows layout one_at

-- the file of these rows
abbrev pub sample_file : List ℕ
sample_file = file_from matrix_b (diagonal_rows matrix_b)
