-- The digits of a file's rows times a vector, as the code puts them together.
use Rattle.std.specs.Prelude.{ℕ, ◌+◌, ◌-◌, ◌*◌, ◌<◌, ◌≤◌, ◌≡◌, List}
use Rattle.linear_model.specs.Tables.{from, below}
use Rattle.linear_model.specs.Bits.{from_bits}
use Rattle.linear_model.specs.Trits.{low, high}
use Rattle.linear_model.specs.Products.{row_digit}
use Rattle.matrix_model.specs.Block.{Layout}
use Rattle.matrix_model.specs.File.{row_plane_of, rows_of}

-- digit i of the rows of a file times v, and 0 past the last row
abbrev pub code_digit : Layout → List ℕ → List ℕ → ℕ → ℕ
code_digit layout file v = below layout.row_count (row_digit (row_plane_of layout) (rows_of layout file) v)

-- x and y are n bits of each plane of the digits f, from digit i on
pub record Span (n : ℕ) (f : ℕ → ℕ) (i x y : ℕ) : Type 0 where
  pub low_is : x ≡ from_bits n (from i (low f))
  pub high_is : y ≡ from_bits n (from i (high f))

-- x and y are the digits f from `start` on, up to the next row, `done`, which stands at this place of this block
pub record Gathering (layout : Layout) (f : ℕ → ℕ) (start done block place x y : ℕ) : Type 0 where
  pub digits : Span (done - start) f start x y
  pub at : done ≡ layout.block_rows * block + place
  pub inside : place < layout.block_rows
  pub within : done ≤ layout.row_count
