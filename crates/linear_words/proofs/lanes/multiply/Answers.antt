-- `linear_words::lanes::multiply` meets its contract. The formula is the table's entry at all sixteen choices of four bits.
use Rattle.linear_model.proofs.Internal.Planes.{product_bit_at}
use Rattle.linear_words.proofs.lanes.multiply.Goals as goal

pub returns : goal.returns
returns c = product_bit_at _ _ _ _
