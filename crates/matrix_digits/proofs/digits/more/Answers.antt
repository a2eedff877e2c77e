-- `matrix_digits::digits::more` meets its contract: the rows of one block that are left, but no more than eight.
use Prim.Native.Nat.{◌+◌, ◌<◌, ◌≤◌}
use native.Mathlib.Omega.{arith}
use Rattle.matrix_model.specs.Block.{rows_in}
use Rattle.matrix_model.specs.File.{block_count}
use Rattle.matrix_model.proofs.Layouts.{next_rows, rows_few, count_small}
use Rattle.matrix_model.proofs.Internal.Digits.{code-small, next-block, next_place, gathering_more}
use Rattle.matrix_blocks.specs.Layouts.{layout_in}
use Rattle.matrix_digits.proofs.digits.more.Goals as goal
use Rattle.matrix_digits.proofs.digits.more.Goals.{After-min-n, After-struct_known-8-1, Start}

inside : (c : Start) → c.args.g.block < block_count (layout_in c.args.file.layout)
inside c = next-block c.args.file.layout.fits c.requires.1 c.requires.4

left : (c : Start) → c.args.g.place < rows_in (layout_in c.args.file.layout) c.args.g.block
left c = next_place c.args.file.layout.fits c.requires.1 c.requires.4

-- the rows that are taken are in the block, and one of them at least
taken : (c : After-min-n)
    → (let a = c.args in
    (0 < c.min-n.result) × (c.min-n.result ≤ 8) × (a.g.place + c.min-n.result ≤ rows_in (layout_in a.file.layout) a.g.block))
taken c =
    (omega (arith, c.min-n.ensures, c.rows_in.ensures, next_place c.args.file.layout.fits c.requires.1 c.requires.4), omega (arith, c.min-n.ensures), omega (arith, c.min-n.ensures, c.rows_in.ensures, next_place c.args.file.layout.fits c.requires.1 c.requires.4))

sum-small : (c : After-struct_known-8-1) → (c.args.g.done + c.min-n.result ≤ (layout_in c.args.file.layout).row_count)
sum-small c =
    omega (arith, c.min-n.ensures, c.rows_in.ensures, next_place c.args.file.layout.fits c.requires.1 c.requires.4, c.requires.1.at, next_rows (layout_in c.args.file.layout) c.args.file.layout.fits c.args.g.block (next-block c.args.file.layout.fits c.requires.1 c.requires.4))

pub rows_in-requires : goal.rows_in-requires
rows_in-requires c = (inside (goal.at.rows_in-requires c).Start)

pub overflow_sub-rows_in : goal.overflow_sub-rows_in
overflow_sub-rows_in c = omega (arith, c.rows_in.ensures, left (goal.at.overflow_sub-rows_in c).Start)

pub piece-d-requires : goal.piece-d-requires
piece-d-requires c =
    (c.requires.0, inside (goal.at.piece-d-requires c).Start, (taken (goal.at.piece-d-requires c).After-min-n).2, (taken (goal.at.piece-d-requires c).After-min-n).1)

pub overflow_add-g : goal.overflow_add-g
overflow_add-g c = omega (arith, (taken (goal.at.overflow_add-g c).After-min-n).2, rows_few (layout_in c.args.file.layout) c.args.file.layout.fits)

pub place_of-next-requires : goal.place_of-next-requires
place_of-next-requires c =
    (inside (goal.at.place_of-next-requires c).Start, omega (arith, (taken (goal.at.place_of-next-requires c).After-min-n).2))

pub overflow_add-result : goal.overflow_add-result
overflow_add-result c = omega (arith, sum-small (goal.at.overflow_add-result c).After-struct_known-8-1, count_small (layout_in c.args.file.layout) c.args.file.layout.fits)

pub returns : goal.returns
returns c =
    let layout = layout_in c.args.file.layout in (
      gathering_more c.args.file.layout.fits c.requires.1 (code-small layout c.args.file.layout.fits c.args.file.bytes.now c.args.v.now) c.place_of-next.result.block c.place_of-next.result.row
          c.piece-d.ensures c.requires.2 (omega (arith, (taken (goal.at.returns c).After-min-n).1)) (sum-small (goal.at.returns c).After-struct_known-8-1) c.place_of-next.ensures.0 c.place_of-next.ensures.1,
      omega (arith, (taken (goal.at.returns c).After-min-n).0),
    )
