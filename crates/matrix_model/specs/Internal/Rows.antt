-- Rows as the code judges them: row by row where they stand, block by block, and then together.
use Rattle.std.specs.Prelude.{ℕ, ◌+◌, ◌*◌, ◌/◌, ◌%◌, ◌≤◌, ◌≡◌, List, [], ◌∷◌, Bool, cond, not, take, drop, Result, Ok, Err}
use Rattle.numbers.specs.declared.refusal.Refusal.{Refusal}
use Rattle.numbers.specs.declared.refusal.Refusal.TheVariants.{UnfitTrit}
use Rattle.linear_model.specs.Tables.{every}
use Rattle.linear_model.specs.Trits.{zero_trits}
use Rattle.linear_model.specs.Products.{rows_from}
use Rattle.elimination_model.specs.Independence.{tied, trit_at}
use Rattle.elimination_model.specs.Tie.{entry_count}
use Rattle.numbers.specs.Number.{◌when◌, first, at_front}
use Rattle.matrix_model.specs.Block.{Layout, block_bytes, head_bytes, rows_in}
use Rattle.matrix_model.specs.Ties.{tie_of_file, tie_size}
use Rattle.matrix_model.specs.File.{row_plane_of, rows_of, fit_row, bad_check_of, bad_layout_of, bad_trit_of}

-- row i is not all zero
abbrev pub nonzero_row : Layout → List ℕ → ℕ → Bool
nonzero_row layout rows i = not (zero_trits (row_plane_of layout) 0 (rows_from (row_plane_of layout) rows i))

-- a row is all zero, which the code tests first: the rows are then tied
unfoldable pub zero_row_of : Layout → List ℕ → Bool
zero_row_of layout rows = not (every layout.row_count (nonzero_row layout rows))

-- the number of the first n of these rows by the tests of each row: 12 stands for a zero row alone, and other ties are not tested
unfoldable pub rows_number : Layout → ℕ → List ℕ → ℕ
rows_number layout n rows =
    first ((10 when not (every n (fit_row layout rows))) ∷ (12 when not (every n (nonzero_row layout rows))) ∷ [])

-- the answer to them, as the code gives it: a trit with both bits set is refused, and else whether a row is all zero
unfoldable pub rows_answer : Layout → ℕ → List ℕ → Result Bool Refusal
rows_answer layout n rows =
    cond (every n (fit_row layout rows)) (Ok (not (every n (nonzero_row layout rows)))) (Err UnfitTrit)

-- a layout whose rows are whole words, at most eight to a plane, and no more words in all than set 3's rows have: there is room for the elimination
pub record Eliminable (layout : Layout) : Type 0 where
  pub whole_words : layout.row_bytes % 16 ≡ 0
  pub few_words : layout.row_bytes ≤ 128
  pub room : layout.row_bytes / 8 * layout.row_count ≤ 2592

-- the words of a plane of a row, and with those behind them in which it carries a combination, a digit for each row
abbrev pub plane_words : Layout → ℕ
plane_words layout = layout.row_bytes / 16

abbrev pub carrying_words : Layout → ℕ
carrying_words layout = plane_words layout + (layout.row_count + 63) / 64

-- there is room for these too, at most eleven to a plane and no more in all than set 3's rows have, and row numbers are bytes
pub record CarryingRoom (layout : Layout) : Type 0 where
  pub few_words : carrying_words layout ≤ 11
  pub room : 2 * carrying_words layout * layout.row_count ≤ 3564
  pub row_numbers : layout.row_count ≤ 256

-- there is room for rows of w words to a plane, at most eleven, the first f of which are those of the rows
abbrev pub LoadingRoom : Layout → ℕ → ℕ → ℕ → Type 0
LoadingRoom layout w f room = (8 * f ≤ row_plane_of layout) × (2 * w * layout.row_count ≤ room) × (w ≤ 11)

-- the rows are tied in the columns of the first v words of each plane
abbrev pub tied_in_columns : Layout → ℕ → List ℕ → Bool
tied_in_columns layout v rows = tied (64 * v) layout.row_count (trit_at (row_plane_of layout) rows)

-- there is room for a file's rows in words with what they carry, and in an output slice of n bytes for the list
abbrev pub ListingRoom : Layout → ℕ → ℕ → Type 0
ListingRoom layout room n =
    Eliminable layout × CarryingRoom layout × (2 * carrying_words layout * layout.row_count ≤ room) × (tie_size layout ≤ n)

-- the list of the file's tied rows, so many, was written to the front of a slice
abbrev pub Listed : Layout → List ℕ → List ℕ → List ℕ → ℕ → Type 0
Listed layout file old new count =
    (count ≡ entry_count (tie_of_file layout file)) × (new ≡ at_front (tie_of_file layout file) old)

-- the number of a file of the right length by its blocks
abbrev pub block_number_of : Layout → List ℕ → ℕ
block_number_of layout file = first ((8 when bad_check_of layout file) ∷ (9 when bad_layout_of layout file) ∷ [])

-- the number of a file of the right length by what is judged before its ties
abbrev pub form_number_of : Layout → List ℕ → ℕ
form_number_of layout file =
    first ((8 when bad_check_of layout file) ∷ (9 when bad_layout_of layout file) ∷ (10 when bad_trit_of layout (rows_of layout file)) ∷ [])

-- the rows of block b, in a file and among rows one after the other
abbrev pub rows_in_file : Layout → List ℕ → ℕ → List ℕ
rows_in_file layout file b = take (layout.row_bytes * rows_in layout b) (drop (block_bytes * b + head_bytes) file)

abbrev pub rows_for_block : Layout → List ℕ → ℕ → List ℕ
rows_for_block layout set b =
    take (layout.row_bytes * rows_in layout b) (drop (layout.row_bytes * layout.block_rows * b) set)
