use mathlib.Core.Path.{◌≡◌, sym, subst, ◌∙◌}
use mathlib.Core.List.{List}
use mathlib.Core.Bool.{Bool}
use Prim.Native.Nat.{ℕ, ◌+◌, ◌*◌, min}
use native.Mathlib.Omega.{arith}
use Rattle.std.proofs.lemmas.Result.{err_from_is_err_and}
use Rattle.std.specs.Prelude.{Result}
use Rattle.numbers.specs.declared.refusal.Refusal.{Refusal}
use Rattle.matrix_model.specs.Block.{Layout}
use Rattle.matrix_model.specs.File.{block_count}
use Rattle.matrix_model.specs.Internal.Rows.{rows_answer}
use Rattle.matrix_model.proofs.Layouts.{started, covered, next_rows}
use Rattle.matrix_model.proofs.Internal.RowNumbers.{Among, Judging, judging_none, judging_all, judging_more, judging_unfit}
use Rattle.matrix_blocks.specs.Layouts.{layout_in}
use Rattle.matrix_blocks.specs.Standing.{rows_held}
use Rattle.matrix_blocks.proofs.Standing.{among_held}
use Rattle.matrix_rows.proofs.rows.check_each_row.Goals as goal
use Rattle.matrix_rows.proofs.rows.check_each_row.Goals.{After-rows_in}

-- an answer by the layout is one by that of the rows
held : {x layout : Layout} (rows : List ℕ) {answer : Result Bool Refusal} → x ≡ layout → answer ≡ rows_answer x x.row_count rows → answer ≡ rows_answer layout layout.row_count rows
held rows {answer} e h = subst (λ (layout : Layout). answer ≡ rows_answer layout layout.row_count rows) e h

-- the rows that are looked at, after those of the blocks before
block : (c : After-rows_in)
    → (let layout = layout_in c.layout-layout.result in
    Among layout (rows_held c.args.rows) (layout.block_rows * c.loop-b.b) c.rows_in.result c.rows_at.result.now)
block c =
    rw c.rows_in.ensures
    (among_held c.args.rows c.layout-layout.result c.loop-b.b c.layout-layout.ensures (omega (arith, c.block_count-b-end.ensures)) c.rows_at.ensures)

before : (c : After-rows_in)
    → (let layout = layout_in c.layout-layout.result in
    Judging layout (rows_held c.args.rows) (layout.block_rows * c.loop-b.b) c.loop-b.zero)
before c =
    let layout = c.layout-layout.result in
    let e : min (layout.block_rows * c.loop-b.b) layout.row_count ≡ layout.block_rows * c.loop-b.b = omega (arith, started (layout_in layout) layout.fits c.loop-b.b (omega (arith, c.block_count-b-end.ensures))) in
    rw e at c.loop-b.invariant

-- the rows before the next block
next : (c : After-rows_in)
    → (let layout = c.layout-layout.result in
    min (layout.block_rows * (c.loop-b.b + 1)) layout.row_count ≡ layout.block_rows * c.loop-b.b + c.rows_in.result)
next c =
    let layout = c.layout-layout.result in
    omega (arith, c.rows_in.ensures, next_rows (layout_in layout) layout.fits c.loop-b.b (omega (arith, c.block_count-b-end.ensures)))

pub loop-b-init : goal.loop-b-init
loop-b-init c =
    let layout = c.layout-layout.result in
    let e : min (layout.block_rows * 0) layout.row_count ≡ 0 = omega arith in
    rw e judging_none

pub check_block-requires : goal.check_block-requires
check_block-requires c = (block (goal.at.check_block-requires c).After-rows_in).long

pub returns-in_err-zero : goal.returns-in_err-zero
returns-in_err-zero c =
    let at = (goal.at.returns-in_err-zero c).After-rows_in in
    let p = err_from_is_err_and c.from_residual.result c.from_residual.ensures.1 in
    let layout = c.layout-layout in
    rw (p.1, p.2)
    (held (rows_held c.args.rows) layout.ensures (judging_unfit layout.result.fits (block at) (before at) layout.result.row_count (omega (arith, next at)) (sym c.check_block.ensures ∙ c.in_err-zero.was)))

pub loop-b-preserved : goal.loop-b-preserved
loop-b-preserved c =
    let at = (goal.at.loop-b-preserved c).After-rows_in in
    rw (next at) (judging_more c.layout-layout.result.fits (block at) (before at) (sym c.check_block.ensures ∙ c.in_ok-zero.was))

pub returns : goal.returns
returns c =
    let layout = c.layout-layout in
    let e : c.loop-b.b ≡ block_count (layout_in layout.result) = omega (arith, c.block_count-b-end.ensures) in
    held (rows_held c.args.rows) layout.ensures (judging_all layout.result.row_count c.loop-b.invariant (rw e (omega (arith, covered (layout_in layout.result) layout.result.fits))))
