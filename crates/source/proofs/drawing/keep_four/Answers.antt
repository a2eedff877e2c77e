-- `source::drawing::keep_four` meets its contract: four stores, each where the one before has left off.
use Rattle.source_model.proofs.Readings.{kept_four}
use Rattle.source.proofs.drawing.keep_four.Goals as goal

pub returns : goal.returns
returns c =
    let a = c.args in
    kept_four a.four a.found _ _ _ _ a.trits.now _ _ _ _ c.keep-one.ensures c.keep-two.ensures c.keep-three.ensures c.keep.ensures
