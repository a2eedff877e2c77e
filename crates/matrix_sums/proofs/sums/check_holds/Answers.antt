-- `matrix_sums::sums::check_holds` meets its contract: both bytes are compared with the sums.
use Rattle.matrix_model.specs.Block.{check_holds}
use Rattle.matrix_sums.proofs.sums.check_holds.Goals as goal

pub returns : goal.returns
unfolding check_holds
returns c =
    rw (← c.stored.ensures.0, ← c.stored.ensures.1, ← c.sums.ensures) c.eq.ensures
