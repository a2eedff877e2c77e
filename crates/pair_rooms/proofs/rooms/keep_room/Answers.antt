-- `pair_rooms::rooms::keep_room` meets its contract.
use mathlib.Core.Path.{◌∙◌}
use Rattle.pair_rooms.proofs.InTurn.{kept_place}
use Rattle.pair_rooms.proofs.rooms.keep_room.Goals as goal

pub returns : goal.returns
returns c =
    let a = c.args in
    c.clear_between.ensures ∙ kept_place a.at a.n a.room a.s.now c.requires.0 c.requires.1
