-- What rows stand for, in the blocks of a file or one after the other.
use Rattle.std.specs.Prelude.{ℕ, List}
use Rattle.matrix_model.specs.Block.{Layout}
use Rattle.matrix_model.specs.File.{rows_of}
use Rattle.matrix_blocks.specs.Layouts.{layout_in}
use Rattle.matrix_blocks.specs.declared.files.Standing.{Standing}
use Rattle.matrix_blocks.specs.declared.files.Standing.TheVariants.{InFile, Alone}

-- their layout
abbrev pub layout_held : Standing → Layout
layout_held (InFile file) = layout_in file.layout
layout_held (Alone rows) = layout_in rows.layout

-- the rows, one after the other
abbrev pub rows_held : Standing → List ℕ
rows_held (InFile file) = rows_of (layout_in file.layout) file.bytes.now
rows_held (Alone rows) = rows.bytes.now
