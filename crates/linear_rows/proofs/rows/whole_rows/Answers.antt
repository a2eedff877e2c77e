use mathlib.Core.Path.{◌∙◌}
use Prim.Native.Nat.{◌+◌, ◌*◌}
use native.Mathlib.Nat.{zero-add}
use native.Mathlib.Omega.{arith}
use Rattle.std.proofs.lemmas.List.{length-drop, take_rest}
use lib.ListN.{length, drop}
use Rattle.linear_model.specs.Tables.{below}
use Rattle.linear_model.specs.Products.{row_digit, matrix_product}
use Rattle.linear_model.specs.Internal.Planes.{PlaneBits}
use Rattle.linear_model.proofs.Filling.{planes_none, planes_more, planes_all}
use Rattle.linear_model.proofs.Internal.Planes.{plane_bits_ext}
use Rattle.linear_model.proofs.Internal.Matrix.{below-min, rows_start, rows_next, rows_there, rows_from_lem}
use Rattle.linear_rows.proofs.rows.whole_rows.Goals as goal

pub loop-p-init : goal.loop-p-init
loop-p-init c = (rows_start _ _, omega arith, planes_none (omega arith))

pub some_rows-e-requires : goal.some_rows-e-requires
some_rows-e-requires c =
    let a = c.args in
    let there = rows_there (2 * a.m) a.t c.loop-p.p c.loop-p.at c.min-c.result c.loop-p.invariant.0 (omega arith) (length a.rows.now) (omega arith) in
    (omega arith, rw (take_rest, length-drop) (omega (arith, there)), omega arith, omega arith)

pub overflow_mul-at-in-loop-p : goal.overflow_mul-at-in-loop-p
overflow_mul-at-in-loop-p c = let a = c.args in
    omega (arith, rows_there (2 * a.m) a.t c.loop-p.p c.loop-p.at c.min-c.result c.loop-p.invariant.0 (omega arith) (length a.rows.now) (omega arith))

pub overflow_add-at : goal.overflow_add-at
overflow_add-at c =
    let a = c.args in
    omega (arith, rows_there (2 * a.m) a.t c.loop-p.p c.loop-p.at c.min-c.result c.loop-p.invariant.0 (omega arith) (length a.rows.now) (omega arith))

pub loop-p-preserved : goal.loop-p-preserved
loop-p-preserved c =
    let a = c.args in
    let f = below a.t (row_digit a.m a.rows.now a.v.now) in
    let g = row_digit a.m (drop c.loop-p.at a.rows.now) a.v.now in
    let p = c.loop-p.p in
    let e : PlaneBits 8 f p c.some_rows-e.result.low c.some_rows-e.result.high =
    plane_bits_ext (below c.loop-p.left g) f 0 p _ _
    (λ k. rows_from_lem a.m a.t a.rows.now a.v.now (8 * p) c.loop-p.at c.loop-p.left (0 + k) (omega arith) c.loop-p.invariant.0 c.loop-p.invariant.1 ∙ rw zero-add)
    (below-min c.loop-p.left g _ _ (rw (take_rest, c.min-c.ensures) at c.some_rows-e.ensures))
    in
    (rows_next (2 * a.m) a.t p c.loop-p.at c.min-c.result c.loop-p.invariant.0 (omega arith), omega arith, planes_more c.loop-p.invariant.2 (omega arith) e)

pub returns : goal.returns
unfolding matrix_product
returns c = let e = c.requires.0 in rw (← e) (planes_all c.loop-p.invariant.2 (omega arith))
