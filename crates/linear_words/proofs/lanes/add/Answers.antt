-- `linear_words::lanes::add` meets its contract. It is so at all choices of the bits of two fit trits.
use Rattle.linear_model.proofs.Internal.Planes.{add_bit_at}
use Rattle.linear_words.proofs.lanes.add.Goals as goal

pub returns : goal.returns
returns c = add_bit_at _ _ _ _
