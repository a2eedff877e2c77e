use native.Mathlib.Omega.{arith}
use Rattle.linear_model.specs.Bits.{pack}
use Rattle.linear_model.specs.Products.{bit_product}
use Rattle.linear_model.proofs.Filling.{filling_none, filling_more, filling_all}
use Rattle.linear_circulant.proofs.circulant.circulant_bytes.Goals as goal

pub loop-i-init : goal.loop-i-init
loop-i-init c = filling_none

pub loop-i-preserved : goal.loop-i-preserved
loop-i-preserved c = filling_more c.loop-i.invariant (omega arith) c.circulant_rows.ensures

pub returns : goal.returns
returns c = unfold bit_product pack in filling_all c.loop-i.invariant (omega arith)
