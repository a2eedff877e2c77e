-- `matrix_sums::sums::stored` meets its contract.
use mathlib.Core.Path.{refl}
use Rattle.matrix_sums.proofs.sums.stored.Goals as goal

pub returns : goal.returns
returns c = (refl, refl)
