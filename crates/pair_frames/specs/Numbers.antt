-- The numbers of a `Sizes`, as a record that asks nothing of them: the scheme that they stand for, which of them the arrays have room for, and those of each set.
use Rattle.std.specs.Prelude.{ℕ, ◌*◌, ◌/◌, ◌≤◌, ◌≡◌}
use Rattle.linear_model.specs.Products.{plane_bytes, circulant_product}
use Rattle.matrix_model.specs.Block.{Layout}
use Rattle.numbers.specs.Sets.{set_bits, set_digits, block_rows}
use Rattle.matrix_model.specs.File.{rows_of}
use Rattle.matrix_model.specs.File.{Fits as FitsBlocks}
use Rattle.matrix_model.specs.Internal.Rows.{Eliminable}
use Rattle.pair_model.specs.Scheme.{reads_nothing, Scheme}
use Rattle.pair_model.specs.Base.{matrix_reading, block_format}
use Rattle.pair_model.specs.StateSlice.{string_room}

pub record Numbers : Type 0 where
  pub key_bytes : ℕ
  pub inner_bytes : ℕ
  pub digits : ℕ
  pub set : ℕ
  pub block_rows : ℕ

-- the layout of the matrix file: a row is as long as an inner trit vector, and each digit has one
abbrev pub layout_by : Numbers → Layout
layout_by z =
    record {
      letter = 0x42;
      set = z.set;
      row_bytes = 2 * z.inner_bytes;
      block_rows = z.block_rows;
      row_count = z.digits;
    }

-- the circulant scheme of these sizes, with a matrix file of this layout
abbrev pub scheme_by : Numbers → Scheme
scheme_by z =
    record {
      set = z.set;
      key_bytes = z.key_bytes;
      inner_bytes = z.inner_bytes;
      digits = z.digits;
      product_reading = reads_nothing;
      product = λ content key label. circulant_product z.inner_bytes key label;
      rows_reading = matrix_reading (block_format (layout_by z));
      rows = rows_of (layout_by z);
    }

-- the sizes of a set, which stand for its scheme
abbrev pub set_sizes : ℕ → Numbers
set_sizes set = record { key_bytes = set_bits set / 8; inner_bytes = set_bits set / 8; digits = set_digits set; set = set; block_rows = block_rows set }

-- sizes whose strings have room in a unit's state, for a product that is circulant; a share frame is no longer than an open frame, for which a step has room,
-- and the rows of the file have room where they are judged together
pub record Fits (z : Numbers) : Type 0 where
  pub key : z.key_bytes ≤ string_room
  pub inner : z.inner_bytes ≤ string_room
  pub circulant : z.inner_bytes ≡ z.key_bytes
  pub share : plane_bytes z.digits ≤ z.key_bytes
  pub file : FitsBlocks (layout_by z)
  pub rows : Eliminable (layout_by z)
