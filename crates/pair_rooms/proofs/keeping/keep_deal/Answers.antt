-- `pair_rooms::keeping::keep_deal` meets its contract: four rooms in turn.
use mathlib.Core.Path.{◌∙◌}
use mathlib.Core.List.{[], ◌∷◌, ◌++◌}
use Prim.Native.Nat.{◌*◌}
use native.Mathlib.Omega.{arith}
use lib.Dec.{lit<}
use lib.ListN.{take, drop}
use Rattle.pair_model.specs.Scheme.{concat}
use Rattle.pair_model.specs.StateSlice.{string_room, trits_room, in_room, room_place}
use Rattle.pair_model.proofs.Internal.FieldCopies.{fields_front}
use Rattle.pair_rooms.proofs.InTurn.{front_kept, room_kept, front_at}
use Rattle.pair_rooms.proofs.keeping.keep_deal.Goals as goal

pub returns : goal.returns
unfolding concat
returns c =
    let a = c.args in
    let d = a.s.now in
    let n = a.sizes.key_bytes in
    let m = a.sizes.inner_bytes in
    let key = c.args.sizes.fits.key in
    let inner = c.args.sizes.fits.inner in
    let f0 = front_kept (room_place 2) d (omega (arith, c.requires)) in
    let f1 = room_kept f0 string_room n _ key (omega (arith, c.requires)) c.keep_room.ensures in
    let f2 = room_kept f1 string_room n _ key (omega (arith, c.requires)) c.keep_room-2.ensures in
    let f3 = room_kept f2 string_room m _ inner (omega (arith, c.requires)) c.keep_room-3.ensures in
    let f4 = room_kept f3 trits_room (2 * m) _ (omega (arith, inner)) (omega (arith, c.requires)) c.keep_room-4.ensures in
    fields_front f4
    ∙ (λ i.
    concat
    (take (room_place 2) d ∷ in_room string_room (front_at d 2 n (lit< tt) key i) ∷ in_room string_room (front_at d 3 n (lit< tt) key i)
    ∷ in_room string_room (front_at d 4 m (lit< tt) inner i) ∷ in_room trits_room (front_at d 5 (2 * m) (lit< tt) (omega (arith, inner)) i) ∷ [])
    ++ drop (room_place 6) d)
