-- `matrix_blocks::files::MatrixFile::bad_layout` meets its contract: the tests of its blocks are those of the numbers below their count.
use mathlib.Core.Path.{ap, ◌∙◌}
use mathlib.Core.Bool.{not}
use Prim.Native.Nat.{ℕ}
use native.Mathlib.Omega.{arith}
use Rattle.std.proofs.Common.{rules, tests}
use Rattle.std.proofs.lemmas.Iterator.{YieldsList-from_range}
use Rattle.std.proofs.lemmas.Iterator.Search.{all_from_yields_List}
use Rattle.linear_model.specs.Tables.{every}
use Rattle.matrix_model.specs.File.{laid_out_block, bad_layout_of}
use Rattle.matrix_model.proofs.Internal.Tests.{all_below}
use Rattle.matrix_blocks.specs.Layouts.{layout_in}
use Rattle.matrix_blocks.proofs.files.MatrixFile.bad_layout.Goals as goal

pub returns : goal.returns
unfolding bad_layout_of
returns c =
    let n = c.block_count.result in
    let test = laid_out_block (layout_in c.args.self.layout) c.args.self.bytes.now in
    ap not (all_from_yields_List test _ _ _ c.all.ensures.ran (YieldsList-from_range 0 n n (cc) (omega arith)) (λ x b q k. search (rules, tests))
    ∙ all_below n test ∙ ap (λ (m : ℕ). every m test) c.block_count.ensures)
