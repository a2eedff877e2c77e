-- `linear_fit::fit::spare_byte` meets its contract. A place shows where one of its bits is set.
use Rattle.linear_model.proofs.Internal.Planes.{trit_byte}
use Rattle.linear_model.proofs.Internal.Gathers.{shows_spare}
use Rattle.linear_fit.proofs.fit.spare_byte.Goals as goal

pub returns : goal.returns
returns c =
    let a = c.args in
    shows_spare 8 a.m a.v.now a.i _ _ (trit_byte a.m a.v.now a.i _ _ c.byte_at.ensures c.byte_at-2.ensures) a.t _ c.byte_places.ensures
