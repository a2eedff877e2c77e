-- The matrix file: its rows, the file of given rows, and the numbers that check, reader and writer give.
use Rattle.std.specs.Prelude.{ℕ, ◌+◌, ◌-◌, ◌*◌, ◌/◌, ◌%◌, ◌<◌, ◌≤◌, ◌≡◌, List, [], ◌∷◌, Bool, not, eqb, ltb, length, get_or, take, drop}
use Rattle.linear_model.specs.Tables.{tabulate, every}
use Rattle.linear_model.specs.Trits.{fit_trits}
use Rattle.linear_model.specs.Products.{plane_bytes, rows_from}
use Rattle.elimination_model.specs.Independence.{tied_rows}
use Rattle.numbers.specs.Number.{Condition, ◌when◌, first, output}
use Rattle.numbers.specs.Sets.{set_bits, set_digits, block_rows, number_in}
use Rattle.matrix_model.specs.Block.{Layout, block_bytes, head_bytes, checked_bytes, check_holds, laid_out, block_of}

-- ---- for any layout

-- the blocks of a file, its bytes, and the bytes of its rows
abbrev pub block_count : Layout → ℕ
block_count layout = (layout.row_count + layout.block_rows - 1) / layout.block_rows

abbrev pub file_size : Layout → ℕ
file_size layout = block_bytes * block_count layout

abbrev pub rows_size : Layout → ℕ
rows_size layout = layout.row_bytes * layout.row_count

-- a layout that fits: a row has two planes, a block has rows, which end before its check, and the letter, the set and each block's number are bytes
pub record Fits (layout : Layout) : Type 0 where
  pub letter_byte : layout.letter < 256
  pub set_byte : layout.set < 256
  pub two_planes : layout.row_bytes % 2 ≡ 0
  pub some_bytes : 0 < layout.row_bytes
  pub some_rows : 0 < layout.block_rows
  pub before_check : head_bytes + layout.row_bytes * layout.block_rows ≤ checked_bytes
  pub blocks_in_byte : block_count layout ≤ 255

-- block b of a file
abbrev pub block : List ℕ → ℕ → List ℕ
block file b = take block_bytes (drop (block_bytes * b) file)

-- the byte of a file at which row i starts
abbrev pub row_place : Layout → ℕ → ℕ
row_place layout i = block_bytes * (i / layout.block_rows) + head_bytes + layout.row_bytes * (i % layout.block_rows)

-- byte k of the rows of a file
abbrev pub row_byte : Layout → List ℕ → ℕ → ℕ
row_byte layout file k = get_or file (row_place layout (k / layout.row_bytes) + k % layout.row_bytes) 0

-- the rows of a file, one after the other
unfoldable pub rows_of : Layout → List ℕ → List ℕ
rows_of layout file = tabulate (rows_size layout) (row_byte layout file)

-- byte i of the file of these rows
abbrev pub file_byte : Layout → List ℕ → ℕ → ℕ
file_byte layout rows i = get_or (block_of layout rows (i / block_bytes)) (i % block_bytes) 0

-- the file of these rows: its blocks, one after the other
unfoldable pub file_from : Layout → List ℕ → List ℕ
file_from layout rows = tabulate (file_size layout) (file_byte layout rows)

-- block b is as it must be, its check and its layout
abbrev pub checked_block : List ℕ → ℕ → Bool
checked_block file b = check_holds (block file b)

abbrev pub laid_out_block : Layout → List ℕ → ℕ → Bool
laid_out_block layout file b = laid_out layout b (block file b)

-- the bytes of a plane of a row
abbrev pub row_plane_of : Layout → ℕ
row_plane_of layout = layout.row_bytes / 2

-- and of a plane of a code, which has a digit for each row
abbrev pub code_plane_of : Layout → ℕ
code_plane_of layout = plane_bytes layout.row_count

-- row i has no trit with both bits set
abbrev pub fit_row : Layout → List ℕ → ℕ → Bool
fit_row layout rows i = fit_trits (row_plane_of layout) (8 * row_plane_of layout) (rows_from (row_plane_of layout) rows i)

-- 8: a block's check differs
unfoldable pub bad_check_of : Layout → List ℕ → Bool
bad_check_of layout file = not (every (block_count layout) (checked_block file))

-- 9: a block's bytes 0 to 3 or its unused bytes differ from the layout
unfoldable pub bad_layout_of : Layout → List ℕ → Bool
bad_layout_of layout file = not (every (block_count layout) (laid_out_block layout file))

-- 10: a trit with both bits set, among rows
unfoldable pub bad_trit_of : Layout → List ℕ → Bool
bad_trit_of layout rows = not (every layout.row_count (fit_row layout rows))

-- 12: the rows are tied: a choice of digits, not all 0, makes the rows so multiplied add to the zero row modulo 3
unfoldable pub tied_rows_of : Layout → List ℕ → Bool
tied_rows_of layout rows = tied_rows (row_plane_of layout) layout.row_count rows

-- what rows may be refused for, in the table's order
unfoldable pub row_faults_of : Layout → List ℕ → List Condition
row_faults_of layout rows = (10 when bad_trit_of layout rows) ∷ (12 when tied_rows_of layout rows) ∷ []

-- and a file of the right length
unfoldable pub faults_of : Layout → List ℕ → List Condition
faults_of layout file =
    (8 when bad_check_of layout file) ∷ (9 when bad_layout_of layout file)
    ∷ (10 when bad_trit_of layout (rows_of layout file)) ∷ (12 when tied_rows_of layout (rows_of layout file)) ∷ []

-- the matrix check
abbrev pub check_conditions_of : Layout → List ℕ → List Condition
check_conditions_of layout file = (1 when not (eqb (length file) (file_size layout))) ∷ faults_of layout file

abbrev pub check_number_of : Layout → List ℕ → ℕ
check_number_of layout file = first (check_conditions_of layout file)

-- the reader, with an output slice of n bytes
abbrev pub read_conditions_of : Layout → List ℕ → ℕ → List Condition
read_conditions_of layout file n =
    (1 when not (eqb (length file) (file_size layout))) ∷ (1 when ltb n (rows_size layout)) ∷ faults_of layout file

abbrev pub read_number_of : Layout → List ℕ → ℕ → ℕ
read_number_of layout file n = first (read_conditions_of layout file n)

-- the writer, with an output slice of n bytes
abbrev pub write_conditions_of : Layout → List ℕ → ℕ → List Condition
write_conditions_of layout rows n =
    (1 when not (eqb (length rows) (rows_size layout))) ∷ (1 when ltb n (file_size layout)) ∷ row_faults_of layout rows

abbrev pub write_number_of : Layout → List ℕ → ℕ → ℕ
write_number_of layout rows n = first (write_conditions_of layout rows n)

-- the reader's and the writer's output slice afterwards
abbrev pub read_output_of : Layout → List ℕ → List ℕ → List ℕ
read_output_of layout file old = output (read_number_of layout file (length old)) (rows_of layout file) old

abbrev pub write_output_of : Layout → List ℕ → List ℕ → List ℕ
write_output_of layout rows old = output (write_number_of layout rows (length old)) (file_from layout rows) old

-- rows survive in a file: the file is fit and has those rows
pub record SurvivesOf (layout : Layout) (rows file : List ℕ) : Type 0 where
  pub fit : check_number_of layout file ≡ 0
  pub same : rows_of layout file ≡ rows

-- rows restore a file: the writer takes them and makes that file of them
pub record RestoresOf (layout : Layout) (rows file : List ℕ) : Type 0 where
  pub fit : write_number_of layout rows (file_size layout) ≡ 0
  pub same : file_from layout rows ≡ file

-- ---- the matrix file of a set

-- its blocks: a row has n trits, and each digit has a row
abbrev pub layout_of : ℕ → Layout
layout_of set = record { letter = 0x42; set = set; row_bytes = set_bits set / 4; block_rows = block_rows set; row_count = set_digits set }

-- the matrix check
unfoldable pub check_number : (set : ℕ) → List ℕ → ℕ
check_number set file = number_in set (check_conditions_of (layout_of set) file)

-- the reader, with an output slice of n bytes
unfoldable pub read_number : (set : ℕ) → List ℕ → ℕ → ℕ
read_number set file n = number_in set (read_conditions_of (layout_of set) file n)

-- the writer, with an output slice of n bytes
unfoldable pub write_number : (set : ℕ) → List ℕ → ℕ → ℕ
write_number set rows n = number_in set (write_conditions_of (layout_of set) rows n)

-- the reader's and the writer's output slice afterwards
abbrev pub read_output : (set : ℕ) → List ℕ → List ℕ → List ℕ
read_output set file old = output (read_number set file (length old)) (rows_of (layout_of set) file) old

abbrev pub write_output : (set : ℕ) → List ℕ → List ℕ → List ℕ
write_output set rows old = output (write_number set rows (length old)) (file_from (layout_of set) rows) old

-- ---- document 01's: set 1, 81 rows of 64 bytes, seven to a block

abbrev pub matrix_b : Layout
matrix_b = layout_of 1

-- 6,144 bytes
abbrev pub file_bytes : ℕ
file_bytes = file_size matrix_b
