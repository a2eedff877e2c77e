-- `linear_words::lanes::fit` meets its contract. It is so at all choices of two bits.
use Rattle.linear_model.proofs.Internal.Planes.{fit_bit_at}
use Rattle.linear_words.proofs.lanes.fit.Goals as goal

pub returns : goal.returns
returns c = fit_bit_at _ _
