-- What the code's struct of a layout stands for.
use Rattle.matrix_model.specs.Block.{Layout}
use Rattle.matrix_blocks.specs.declared.layouts.Layout.{Layout as Numbers}

-- the layout of these numbers
abbrev pub layout_in : Numbers → Layout
layout_in numbers =
    record {
      letter = numbers.letter;
      set = numbers.set;
      row_bytes = numbers.row_bytes;
      block_rows = numbers.block_rows;
      row_count = numbers.row_count;
    }
