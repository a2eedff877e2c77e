use native.Mathlib.Omega.{arith}
use Rattle.linear_model.proofs.Internal.Planes.{mod_more}
use Rattle.linear_digits.proofs.digits.row_product.Goals as goal

pub loop-i-preserved : goal.loop-i-preserved
loop-i-preserved c = mod_more 1 _ _ _ _ (omega (arith, c.loop-i.invariant)) (omega (arith, c.byte_product.ensures))
