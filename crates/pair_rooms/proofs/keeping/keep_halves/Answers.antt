-- `pair_rooms::keeping::keep_halves` meets its contract: the header, and two rooms in turn.
use mathlib.Core.Path.{◌∙◌}
use mathlib.Core.List.{List, [], ◌∷◌, ◌++◌}
use Prim.Native.Nat.{ℕ}
use native.Mathlib.Omega.{arith}
use lib.Dec.{lit<}
use lib.ListN.{drop}
use Rattle.pair_frames.specs.Headers.{parameters_in}
use Rattle.pair_model.specs.Scheme.{concat}
use Rattle.pair_model.specs.StateSlice.{string_room, in_room, room_place, state_header}
use Rattle.pair_model.proofs.Internal.FieldCopies.{fields_front}
use Rattle.pair_rooms.proofs.InTurn.{room_kept, front_at, header-first}
use Rattle.pair_rooms.proofs.keeping.keep_halves.Goals as goal

pub returns : goal.returns
unfolding concat
returns c =
    let a = c.args in
    let d = a.s.now in
    let n = a.sizes.key_bytes in
    let fits = c.args.sizes.fits.key in
    let h : List ℕ = state_header a.sizes.set (parameters_in a.parameters) a.stage in
    let f1 = header-first a.sizes.set (parameters_in a.parameters) a.stage d _ c.requires c.put_header.ensures in
    let f2 = room_kept f1 string_room n _ fits (omega (arith, c.requires)) c.keep_room.ensures in
    let f3 = room_kept f2 string_room n _ fits (omega (arith, c.requires)) c.keep_room-2.ensures in
    fields_front f3
    ∙ (λ i. concat (h ∷ in_room string_room (front_at d 0 n (lit< tt) fits i) ∷ in_room string_room (front_at d 1 n (lit< tt) fits i) ∷ []) ++ drop (room_place 2) d)
