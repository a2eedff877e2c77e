-- `pair_matrix::rows::check_file` meets its contract: the check of the sizes' layout.
use mathlib.Core.Path.{ap, ◌∙◌}
use Rattle.matrix_model.specs.Block.{Layout}
use Rattle.matrix_model.specs.File.{check_number_of}
use Rattle.pair_frames.specs.Schemes.{file_layout}
use Rattle.pair_model.proofs.Internal.Contents.{reading_number_lem}
use Rattle.pair_matrix.proofs.rows.check_file.Goals as goal

pub returns : goal.returns
returns c =
    let a = c.args in
    c.file_check.ensures ∙ ap (λ (l : Layout). check_number_of l a.file.now) c.file_layout.ensures
    ∙ reading_number_lem (file_layout a.sizes) a.file.now
