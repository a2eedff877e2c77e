-- `pair_rooms::rooms::put_room` meets its contract.
use mathlib.Core.Path.{◌∙◌}
use Rattle.pair_rooms.proofs.InTurn.{put_place}
use Rattle.pair_rooms.proofs.rooms.put_room.Goals as goal

pub returns : goal.returns
returns c =
    let a = c.args in
    c.clear_between.ensures ∙ put_place a.at a.room a.string.now a.s.now _ c.requires.0 c.requires.1 c.put.ensures
