use mathlib.Core.Path.{◌∙◌}
use Prim.Native.Nat.{◌+◌, ◌*◌, ◌/◌}
use native.Mathlib.Nat.{zero-add}
use native.Mathlib.Omega.{arith}
use lib.ListN.{length}
use Rattle.linear_model.specs.Tables.{below}
use Rattle.linear_model.specs.Products.{row_digit, matrix_product}
use Rattle.linear_model.specs.Internal.Planes.{PlaneBits}
use Rattle.linear_model.proofs.Filling.{planes_none, planes_more, planes_all}
use Rattle.linear_model.proofs.Internal.Planes.{plane_bits_ext}
use Rattle.linear_digits.proofs.Cuts.{row_after}
use Rattle.linear_digits.proofs.partial.matrix_product.Goals as goal

pub loop-p-init : goal.loop-p-init
loop-p-init c = planes_none (omega arith)

pub loop-p-preserved : goal.loop-p-preserved
loop-p-preserved c =
    let a = c.args in
    let m = length a.v.now / 2 in
    let f = below a.t (row_digit m a.rows.now a.v.now) in
    let p = c.loop-p.p in
    let e : PlaneBits 8 f p c.eight_rows-e.result.low c.eight_rows-e.result.high =
    plane_bits_ext _ f 0 p _ _ (λ k. row_after m a.t a.rows.now a.v.now (8 * p) _ (0 + k) c.skip-eight.ensures (omega arith) (omega arith) ∙ rw zero-add) c.eight_rows-e.ensures
    in
    planes_more c.loop-p.invariant (omega arith) e

pub returns : goal.returns
unfolding matrix_product
returns c = planes_all c.loop-p.invariant (omega arith)
