use Prim.Native.Nat.{◌+◌, ◌*◌, ◌≤◌, min}
use native.Mathlib.Omega.{arith}
use lib.ListN.{length-set}
use Rattle.linear_model.specs.Products.{matrix_product}
use Rattle.linear_model.proofs.Filling.{planes_none, planes_more, planes_all}
use Rattle.matrix_model.proofs.Layouts.{count_small}
use Rattle.matrix_model.proofs.Internal.Digits.{code-small, code_past, gathering_none, gathering_byte, gathering_left}
use Rattle.matrix_blocks.specs.Layouts.{layout_in}
use Rattle.matrix_digits.proofs.digits.code_of.Goals as goal
use Rattle.matrix_digits.proofs.digits.code_of.Goals.{After-gather-all, In-loop-p}

-- the rows are few
few : (c : In-loop-p) → c.args.layout.row_count ≤ 253 * 255
few c =
    count_small (layout_in c.args.layout) c.args.layout.fits

-- what is gathered is enough for a byte
enough : (c : After-gather-all)
    → (min (8 * c.loop-p.p + 8) c.args.layout.row_count ≤ c.gather-all.result.done)
enough c = omega (arith, c.gather-all.ensures.2, c.min.ensures)

pub overflow_add-n : goal.overflow_add-n
overflow_add-n c = omega (arith, count_small (layout_in c.args.layout) c.args.layout.fits)

pub loop-p-init : goal.loop-p-init
loop-p-init c = (planes_none (omega arith), gathering_none c.args.layout.fits, omega arith)

pub overflow_mul-p : goal.overflow_mul-p
overflow_mul-p c = omega (arith, few (goal.at.overflow_mul-p c).In-loop-p)

pub overflow_mul-p-in-loop-p : goal.overflow_mul-p-in-loop-p
overflow_mul-p-in-loop-p c = omega (arith, few (goal.at.overflow_mul-p-in-loop-p c).In-loop-p)

pub overflow_add-p : goal.overflow_add-p
overflow_add-p c = omega (arith, few (goal.at.overflow_add-p c).In-loop-p)

pub gather-all-requires : goal.gather-all-requires
gather-all-requires c =
    (c.requires.1, c.loop-p.invariant.1, omega (arith, c.loop-p.invariant.2), c.min.ensures)

pub bounds-out-p : goal.bounds-out-p
bounds-out-p c = omega (arith, c.loop-p.invariant.0.long)

pub bounds-out-n : goal.bounds-out-n
bounds-out-n c = simp length-set (omega (arith, c.loop-p.invariant.0.long))

pub loop-p-preserved : goal.loop-p-preserved
loop-p-preserved c =
    let layout = layout_in c.args.layout in
    let small = code-small layout c.args.layout.fits c.args.file.now c.args.v.now in
    let past = code_past layout c.args.layout.fits c.args.file.now c.args.v.now in
    let p = c.loop-p.p in
    let g = c.gather-all.ensures in
    let byte = gathering_byte small past p g.0 g.1 (enough (goal.at.loop-p-preserved c).After-gather-all) in (
      planes_more c.loop-p.invariant.0 (omega arith) (byte),
      (gathering_left small past p g.0 g.1 (enough (goal.at.loop-p-preserved c).After-gather-all)),
      omega (arith, enough (goal.at.loop-p-preserved c).After-gather-all),
    )

pub shape_of-out : goal.shape_of-out
shape_of-out c = c.loop-p.invariant.0.long

pub returns : goal.returns
unfolding matrix_product
returns c = planes_all c.loop-p.invariant.0 (omega arith)
