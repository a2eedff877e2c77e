-- `pair_states::beginnings::clear` meets its contract: the header, and zeros for each room.
use mathlib.Core.Path.{sym, ap, ◌∙◌}
use mathlib.Core.List.{List, ◌++◌}
use Prim.Native.Nat.{ℕ}
use Rattle.pair_frames.specs.Headers.{parameters_in}
use Rattle.pair_model.specs.Scheme.{concat}
use Rattle.pair_model.specs.StateSlice.{rooms, state_header}
use Rattle.pair_rooms.proofs.InTurn.{header-first}
use Rattle.pair_states.proofs.Blank.{concat-blank, then_blank}
use Rattle.pair_states.proofs.beginnings.clear.Goals as goal

pub returns : goal.returns
unfolding concat
returns c =
    let a = c.args in
    let t = parameters_in a.parameters in
    let f = header-first a.set t a.stage a.s.now _ c.requires c.put_header.ensures in
    then_blank f rooms _ c.requires c.clear_between.ensures
    ∙ ap (λ (z : List ℕ). state_header a.set t a.stage ++ z) (sym (concat-blank rooms))
