-- The rows of a matrix file that are tied: the list of W-205, and the numbers that its call gives.
use Rattle.std.specs.Prelude.{ℕ, ◌*◌, List, [], ◌∷◌, not, eqb, ltb, length}
use Rattle.elimination_model.specs.Independence.{trit_at}
use Rattle.elimination_model.specs.Tie.{tie_bytes, OnlyTie}
use Rattle.numbers.specs.Number.{Condition, ◌when◌, first}
use Rattle.numbers.specs.Sets.{number_in}
use Rattle.matrix_model.specs.Block.{Layout}
use Rattle.matrix_model.specs.File.{file_size, rows_of, row_plane_of, bad_check_of, bad_layout_of, bad_trit_of, tied_rows_of, layout_of}

-- ---- for any layout

-- the tie of these rows, as a list of rows and digits
unfoldable pub tie_of : Layout → List ℕ → List ℕ
tie_of layout rows = tie_bytes (8 * row_plane_of layout) layout.row_count (trit_at (row_plane_of layout) rows)

-- and of the rows of a file
abbrev pub tie_of_file : Layout → List ℕ → List ℕ
tie_of_file layout file = tie_of layout (rows_of layout file)

-- a list is one that W-205 asks for, of the rows of a file, and there is no other
abbrev pub OnlyTieOfFile : Layout → List ℕ → List ℕ → Type 0
OnlyTieOfFile layout file list = OnlyTie (8 * row_plane_of layout) layout.row_count (trit_at (row_plane_of layout) (rows_of layout file)) list

-- the least output slice: two bytes for each row
abbrev pub tie_size : Layout → ℕ
tie_size layout = 2 * layout.row_count

-- what a file may be refused for, with an output slice of n bytes; 16: its rows are not tied
abbrev pub tie_conditions_of : Layout → List ℕ → ℕ → List Condition
tie_conditions_of layout file n =
    (1 when not (eqb (length file) (file_size layout))) ∷ (1 when ltb n (tie_size layout))
    ∷ (8 when bad_check_of layout file) ∷ (9 when bad_layout_of layout file)
    ∷ (10 when bad_trit_of layout (rows_of layout file)) ∷ (16 when not (tied_rows_of layout (rows_of layout file))) ∷ []

-- its number
abbrev pub tie_number_of : Layout → List ℕ → ℕ → ℕ
tie_number_of layout file n = first (tie_conditions_of layout file n)

-- ---- of a set

-- the number of the call, with an output slice of n bytes
unfoldable pub tie_number : (set : ℕ) → List ℕ → ℕ → ℕ
tie_number set file n = number_in set (tie_conditions_of (layout_of set) file n)
