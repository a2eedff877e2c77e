-- The arrays of a unit's state: their lengths, and the state of a struct that has halves alone.
use mathlib.Core.Path.{◌≡◌}
use mathlib.Core.List.{List}
use lib.ListN.{length}
use Prim.Native.Nat.{ℕ, ◌*◌}
use denote.Laws.{Is}
use denote.Struct.Declared.{row}
use mir.Val.{Val}
use Rattle.linear_model.specs.Bits.{zeros}
use Rattle.linear_model.proofs.Strings.{length-zeros}
use Rattle.pair_frames.specs.Numbers.{Numbers, scheme_by}
use Rattle.pair_model.specs.Frame.{Parameters}
use Rattle.pair_model.specs.Unit.{state, halves}
use Rattle.pair_model.specs.StateSlice.{string_room, trits_room}
use Rattle.pair_model.proofs.Internal.Encodings.{room_front}
use Rattle.pair_units.specs.declared.state.UnitState.{UnitState}
use Rattle.pair_units.specs.Units.{state_by, unit_of}
use Rattle.pair_units.specs.contracts.state.UnitState as Struct

-- each array of a state has its room's length
pub record Full (u : UnitState) : Type 0 where
  pub key : length u.key ≡ string_room
  pub label : length u.label ≡ string_room
  pub key_mask : length u.key_mask ≡ string_room
  pub label_mask : length u.label_mask ≡ string_room
  pub z : length u.z ≡ string_room
  pub r : length u.r ≡ trits_room
  pub own_mask : length u.own_mask ≡ string_room

-- which is known of every struct that is passed or returned
pub full : (u : UnitState) (vs : List Val) → Is (row Struct.the_type) u vs → Full u
full u vs p =
    let fields = p.1.1.1.1.1 in
    record {
      key = fields.0.1.0.1;
      label = fields.1.0.1.0.1;
      key_mask = fields.1.1.0.1.0.1;
      label_mask = fields.1.1.1.0.1.0.1;
      z = fields.1.1.1.1.0.1.0.1;
      r = fields.1.1.1.1.1.0.1.0.1;
      own_mask = fields.1.1.1.1.1.1.0.1.0.1;
    }

-- the struct of halves alone stands for them
pub halves_read : (z : Numbers) (t : Parameters) (stage : ℕ) (key label : List ℕ) → length key ≡ z.key_bytes → length label ≡ z.key_bytes
    → let s = state z.set t stage (halves (scheme_by z) key label) in state_by z (unit_of s) ≡ s
halves_read z t stage key label k l =
    let n = z.key_bytes in
    let m = z.inner_bytes in
    let mask = room_front string_room n (zeros n) (length-zeros n) in
    let inner = room_front string_room m (zeros m) (length-zeros m) in
    let trits = room_front trits_room (2 * m) (zeros (2 * m)) (length-zeros (2 * m)) in
    λ i. state z.set t stage
    (record {
      key = room_front string_room n key k i;
      label = room_front string_room n label l i;
      key_mask = mask i;
      label_mask = mask i;
      z = inner i;
      r = trits i;
      own_mask = inner i;
    })
