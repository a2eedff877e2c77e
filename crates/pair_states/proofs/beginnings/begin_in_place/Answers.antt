-- `pair_states::beginnings::begin_in_place` meets its contract: the header, both halves, and zeros for each room behind them.
use mathlib.Core.Path.{◌≡◌, ◌∙◌}
use mathlib.Core.List.{List, [], ◌∷◌, ◌++◌}
use Prim.Native.Nat.{ℕ, ◌*◌, ◌≤◌}
use native.Mathlib.Omega.{arith}
use lib.ListN.{length, drop}
use Rattle.pair_frames.specs.Headers.{parameters_in}
use Rattle.pair_frames.specs.Schemes.{scheme_in}
use Rattle.pair_frames.proofs.Fronts.{zeros_room}
use Rattle.pair_model.specs.Scheme.{Scheme, concat}
use Rattle.pair_model.specs.Frame.{Parameters, deal_kind}
use Rattle.pair_model.specs.Unit.{begun}
use Rattle.pair_model.specs.StateSlice.{string_room, trits_room, in_room, rooms, state_header, encode_state}
use Rattle.pair_model.proofs.Internal.Encodings.{HasRoom}
use Rattle.pair_rooms.proofs.InTurn.{header-first, room_more, has_room_in}
use Rattle.pair_states.proofs.Blank.{blank, then_blank}
use Rattle.pair_states.proofs.beginnings.begin_in_place.Goals as goal

-- halves and no deal
encode_begun : (S : Scheme) → HasRoom S → (t : Parameters) (key label : List ℕ)
    → concat (state_header S.set t deal_kind ∷ in_room string_room key ∷ in_room string_room label ∷ blank (drop 2 rooms)) ≡ encode_state (begun S t key label)
unfolding encode_state concat
encode_begun S r t key label =
    let n = zeros_room S.key_bytes string_room r.key in
    let m = zeros_room S.inner_bytes string_room r.inner in
    let trits = zeros_room (2 * S.inner_bytes) trits_room (omega (arith, r.inner)) in
    λ i. state_header S.set t deal_kind ++ concat (in_room string_room key ∷ in_room string_room label ∷ n i ∷ n i ∷ m i ∷ trits i ∷ m i ∷ [])

-- a half has room
half_fits : {n : ℕ} (s : List ℕ) → length s ≡ n → n ≤ string_room → length s ≤ string_room
half_fits s e h = omega arith

pub returns : goal.returns
returns c =
    let a = c.args in
    let p = c.requires in
    let f1 = header-first a.sizes.set (parameters_in a.parameters) deal_kind a.s.now _ p.0 c.put_header.ensures in
    let f2 = room_more f1 string_room a.key.now _ (half_fits a.key.now p.1 a.sizes.fits.key) (omega (arith, p.0)) c.put_room.ensures in
    let f3 = room_more f2 string_room a.label.now _ (half_fits a.label.now p.2 a.sizes.fits.key) (omega (arith, p.0)) c.put_room-2.ensures in
    then_blank f3 (drop 2 rooms) _ p.0 c.clear_between.ensures
    ∙ encode_begun (scheme_in a.sizes) (has_room_in a.sizes) (parameters_in a.parameters) a.key.now a.label.now
