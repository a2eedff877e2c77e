-- `pair_deals::frames::write_deal` meets its contract: the second frame is written behind the first.
use Rattle.pair_model.specs.Frame.{shared_parameters}
use Rattle.pair_deals.proofs.Parts.{deal_behind}
use Rattle.pair_deals.proofs.frames.write_deal.Goals as goal

pub returns : goal.returns
returns c =
    let a = c.args in
    deal_behind a.sizes a.tape.now (shared_parameters a.session a.line) _ c.frame_bytes-second.ensures a.out.now _ _ c.requires.0 c.requires.1
    c.write_first.ensures c.write_second.ensures
