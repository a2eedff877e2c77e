use mathlib.Core.Path.{◌≡◌, subst, sym}
use lib.ListN.{length}
use Prim.Native.Nat.{◌+◌, ◌*◌, ◌≤◌, min}
use native.Mathlib.Nat.{mul-le-mul_left}
use native.Mathlib.Omega.{arith}
use Rattle.elimination_model.specs.Independence.{trit_at}
use Rattle.elimination_model.specs.Internal.Words.{RowsWritten, LoadedWord}
use Rattle.elimination_model.proofs.Internal.Writing.{rows_none}
use Rattle.matrix_model.specs.Block.{Layout}
use Rattle.matrix_model.specs.File.{block_count, row_plane_of}
use Rattle.matrix_model.specs.Internal.Rows.{LoadingRoom}
use Rattle.matrix_model.proofs.Layouts.{planes, started, covered, next_rows, count_small}
use Rattle.matrix_model.proofs.Internal.RowNumbers.{Among}
use Rattle.matrix_model.proofs.Internal.TiedRows.{loaded_more}
use Rattle.matrix_blocks.specs.Layouts.{layout_in}
use Rattle.matrix_blocks.specs.Standing.{rows_held}
use Rattle.matrix_blocks.proofs.Standing.{among_held}
use Rattle.matrix_ties.proofs.ties.load.Goals as goal
use Rattle.matrix_ties.proofs.ties.load.Goals.{After-layout-layout, After-rows_in-n}

-- the rows that are loaded, after those of the blocks before
block : (c : After-rows_in-n)
    → (let layout = layout_in c.layout-layout.result in
    Among layout (rows_held c.args.rows) (layout.block_rows * c.loop-b.b) c.rows_in-n.result c.rows_at-part.result.now)
block c =
    rw c.rows_in-n.ensures
    (among_held c.args.rows c.layout-layout.result c.loop-b.b c.layout-layout.ensures (omega (arith, c.block_count-b-end.ensures)) c.rows_at-part.ensures)

-- the rows before this block, and before the next
before : (c : After-rows_in-n)
    → (let layout = c.layout-layout.result in
    min (layout.block_rows * c.loop-b.b) layout.row_count ≡ layout.block_rows * c.loop-b.b)
before c =
    let layout = c.layout-layout.result in
    omega (arith, started (layout_in layout) layout.fits c.loop-b.b (omega (arith, c.block_count-b-end.ensures)))

next : (c : After-rows_in-n)
    → (let layout = c.layout-layout.result in
    min (layout.block_rows * (c.loop-b.b + 1)) layout.row_count ≡ layout.block_rows * c.loop-b.b + c.rows_in-n.result)
next c =
    let layout = c.layout-layout.result in
    omega (arith, c.rows_in-n.ensures, next_rows (layout_in layout) layout.fits c.loop-b.b (omega (arith, c.block_count-b-end.ensures)))

-- there is room by the layout
room : (c : After-layout-layout) → LoadingRoom (layout_in c.layout-layout.result) c.args.w c.args.f (length c.args.words.now)
room c = subst (λ (layout : Layout). LoadingRoom layout c.args.w c.args.f (length c.args.words.now)) (sym c.layout-layout.ensures) c.requires

pub loop-b-init : goal.loop-b-init
loop-b-init c =
    let layout = c.layout-layout.result in
    let e : min (layout.block_rows * 0) layout.row_count ≡ 0 = omega arith in
    rw e (rows_none _ _ _ _)

pub load_rows_by_size-requires : goal.load_rows_by_size-requires
load_rows_by_size-requires c =
    let layout = c.layout-layout.result in
    let at = (goal.at.load_rows_by_size-requires c).After-rows_in-n in
    let room = room (goal.at.load_rows_by_size-requires c).After-layout-layout in
    let h : layout.block_rows * c.loop-b.b + c.rows_in-n.result ≤ layout.row_count = omega (arith, next at) in (
      room.0,
      rw (planes (layout_in layout) layout.fits) (omega (arith, (block at).long)),
      omega (arith, room.1, c.loop-b.invariant.size, mul-le-mul_left (2 * c.args.w) h),
      omega (arith, count_small (layout_in layout) layout.fits),
    )

pub loop-b-preserved : goal.loop-b-preserved
loop-b-preserved c =
    let at = (goal.at.loop-b-preserved c).After-rows_in-n in
    let x = rw (before at) at c.loop-b.invariant in
    rw (next at) (loaded_more c.layout-layout.result.fits (block at) c.args.w c.args.f (room (goal.at.loop-b-preserved c).After-layout-layout).0 x c.load_rows_by_size.ensures)

pub returns : goal.returns
returns c =
    let layout = c.layout-layout.result in
    let e : c.loop-b.b ≡ block_count (layout_in layout) = omega (arith, c.block_count-b-end.ensures) in
    let a : min (layout.block_rows * c.loop-b.b) layout.row_count ≡ layout.row_count = rw e (omega (arith, covered (layout_in layout) layout.fits)) in
    subst (λ (layout : Layout). RowsWritten c.args.w 0 layout.row_count (LoadedWord c.args.f (trit_at (row_plane_of layout) (rows_held c.args.rows))) c.args.words.now c.loop-b.words)
    c.layout-layout.ensures (rw a at c.loop-b.invariant)
