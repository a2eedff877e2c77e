-- `linear_circulant::quarters::quarter_masks` meets its contract. The mask has each bit in its quarter.
use native.Mathlib.Omega.{arith}
use lib.Bits.{and_le_r}
use Rattle.linear_model.proofs.Internal.Quarters.{quarter_masks_at}
use Rattle.linear_circulant.proofs.quarters.quarter_masks.Goals as goal

pub overflow_mul-result : goal.overflow_mul-result
overflow_mul-result c = omega (arith, and_le_r c.args.x 0x1000100010001)

pub returns : goal.returns
returns c = quarter_masks_at c.args.x
