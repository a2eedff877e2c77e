-- What the code's sizes stand for.
use Rattle.matrix_model.specs.Block.{Layout}
use Rattle.pair_model.specs.Scheme.{Scheme}
use Rattle.pair_frames.specs.declared.sizes.Sizes.{Sizes}
use Rattle.pair_frames.specs.Numbers.{Numbers, layout_by, scheme_by}

-- their numbers
abbrev pub numbers_in : Sizes → Numbers
numbers_in z = record { key_bytes = z.key_bytes; inner_bytes = z.inner_bytes; digits = z.digits; set = z.set; block_rows = z.block_rows }

-- the layout of their matrix file
abbrev pub file_layout : Sizes → Layout
file_layout z = layout_by (numbers_in z)

-- their scheme
abbrev pub scheme_in : Sizes → Scheme
scheme_in z = scheme_by (numbers_in z)
