-- `linear_fit::fit::unfit_word` meets its contract. The words hold the trits of 64 places.
use Rattle.linear_model.proofs.Internal.Planes.{trit_word}
use Rattle.linear_model.proofs.Internal.Gathers.{shows_fit}
use Rattle.linear_fit.proofs.fit.unfit_word.Goals as goal

pub returns : goal.returns
returns c =
    let a = c.args in
    shows_fit 64 a.m a.v.now a.i _ _ (trit_word a.m a.v.now a.i _ _ c.word.ensures c.word-2.ensures) a.t _ c.places.ensures
