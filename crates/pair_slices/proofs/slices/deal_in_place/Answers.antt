-- `pair_slices::slices::deal_in_place` meets its contract: header, halves, deal and own mask are written in turn.
use mathlib.Core.Path.{◌≡◌, ap, ◌∙◌}
use mathlib.Core.List.{List, [], ◌∷◌, ◌++◌}
use Prim.Native.Nat.{ℕ, ◌+◌, ◌-◌, ◌*◌, ◌≤◌}
use native.Mathlib.Omega.{arith}
use lib.Dec.{lit<}
use lib.ListN.{length, take, drop}
use Rattle.linear_model.specs.Bits.{zeros, add_bits}
use Rattle.linear_model.proofs.Strings.{length-zeros}
use Rattle.numbers.specs.Number.{at_front}
use Rattle.pair_frames.specs.Schemes.{scheme_in}
use Rattle.pair_frames.proofs.Fronts.{zeros_room}
use Rattle.pair_frames.proofs.Parts.{field_part}
use Rattle.pair_model.specs.Scheme.{Scheme, field, concat}
use Rattle.pair_model.specs.Tape.{deal_layout}
use Rattle.pair_model.specs.Frame.{carried_parameters, Parameters, open_kind, frame, frame_bytes, body_of, header_bytes}
use Rattle.pair_model.specs.Unit.{take_deal}
use Rattle.pair_model.specs.StateSlice.{string_room, trits_room, in_room, in_front, rooms, room_place, state_header, state_header_bytes, state_bytes, encode_state, decode_as}
use Rattle.pair_model.proofs.Internal.Encodings.{HasRoom}
use Rattle.pair_model.proofs.Internal.Lengths.{deal-length}
use Rattle.pair_rooms.proofs.InTurn.{part_at, has_room_in}
use Rattle.pair_slices.proofs.Whole.{front_fits, whole}
use Rattle.pair_slices.proofs.slices.deal_in_place.Goals as goal

module _ (S : Scheme) (has_room : HasRoom S) (s f : List ℕ) (t : Parameters) (is : t ≡ carried_parameters s) where
  abbrev n : ℕ
  n = S.key_bytes

  abbrev m : ℕ
  m = S.inner_bytes

  abbrev deal : ℕ → List ℕ
  deal i = field (deal_layout S) i (body_of f)

  -- the fields of a deal fit their rooms
  key_fits : length (deal 0) ≤ string_room
  unfolding field
  key_fits = front_fits (body_of f) n string_room has_room.key

  label_fits : length (deal 1) ≤ string_room
  unfolding field
  label_fits = front_fits (drop n (body_of f)) n string_room has_room.key

  z_fits : length (deal 2) ≤ string_room
  unfolding field
  z_fits = front_fits (drop n (drop n (body_of f))) m string_room has_room.inner

  r_fits : length (deal 3) ≤ trits_room
  unfolding field
  r_fits = let h = has_room.inner in front_fits (drop m (drop n (drop n (body_of f)))) (2 * m) trits_room (omega (arith, h))

  mask_fits : length (zeros m) ≤ string_room
  mask_fits = omega (arith, length-zeros m, has_room.inner)

  -- the slice afterwards is the state with the deal taken
  next : (o₁ o₂ o₃ : List ℕ) → length s ≡ state_bytes
      → o₁ ≡ concat (state_header S.set t open_kind ∷ in_room string_room (in_front s 0 n) ∷ in_room string_room (in_front s 1 n) ∷ []) ++ drop (room_place 2) s
      → o₂ ≡ take (room_place 2) o₁ ++ concat (in_room string_room (deal 0) ∷ in_room string_room (deal 1) ∷ in_room string_room (deal 2) ∷ in_room trits_room (deal 3) ∷ []) ++ drop (room_place 6) o₁
      → o₃ ≡ take (room_place 6) o₂ ++ zeros string_room ++ drop state_bytes o₂
      → o₃ ≡ encode_state (take_deal S (decode_as S s) (body_of f)).next
  unfolding take_deal decode_as
  next o₁ o₂ o₃ l e₁ e₂ e₃ =
      whole S.set t open_kind (in_front s 0 n) (in_front s 1 n) (deal 0) (deal 1) (deal 2) (deal 3) (zeros m)
      (front_fits (field rooms 0 (drop state_header_bytes s)) n string_room has_room.key) (front_fits (field rooms 1 (drop state_header_bytes s)) n string_room has_room.key) s o₁ l e₁
      key_fits label_fits z_fits r_fits mask_fits o₂ o₃ e₂
      (e₃ ∙ ap (λ (z : List ℕ). take (room_place 6) o₂ ++ z ++ drop state_bytes o₂) (zeros_room m string_room has_room.inner))
      ∙ ap (λ (p : Parameters). encode_state (take_deal S (record { set = S.set; parameters = p; stage = (decode_as S s).stage; secrets = (decode_as S s).secrets }) (body_of f)).next) is

  -- the open frame of the slice's halves and the frame's masks
  written : (key label K̃ x̃ o : List ℕ) → key ≡ in_front s 0 n → label ≡ in_front s 1 n → K̃ ≡ deal 0 → x̃ ≡ deal 1
      → frame open_kind t (concat (add_bits n key K̃ ∷ add_bits n label x̃ ∷ [])) ++ drop (frame_bytes S open_kind) o
      ≡ at_front (take_deal S (decode_as S s) (body_of f)).written o
  unfolding take_deal decode_as
  written key label K̃ x̃ o k l a b =
      (λ i. frame open_kind (is i) (concat (add_bits n (k i) (a i) ∷ add_bits n (l i) (b i) ∷ [])) ++ drop (frame_bytes S open_kind) o)
      ∙ ap (λ (k : ℕ). (take_deal S (decode_as S s) (body_of f)).written ++ drop k o) (deal-length S (decode_as S s) (body_of f))

  -- the two masks in a deal frame
  key-dealt : take (header_bytes + n - header_bytes) (drop header_bytes f) ≡ deal 0
  key-dealt = field_part (deal_layout S) 0 header_bytes header_bytes (header_bytes + n) f (lit< tt) (omega arith) (omega arith)

  label-dealt : take (header_bytes + n + n - (header_bytes + n)) (drop (header_bytes + n) f) ≡ deal 1
  label-dealt = field_part (deal_layout S) 1 header_bytes (header_bytes + n) (header_bytes + n + n) f (lit< tt) (omega arith) (omega arith)

pub returns : goal.returns
returns c =
    let a = c.args in
    let d = a.state.now in
    let f = a.f.now in
    let S = scheme_in a.sizes in
    let key = c.args.sizes.fits.key in
    let has_room = has_room_in a.sizes in
    let t = c.parameters_of-parameters.ensures in record {
      state = next S has_room d f _ t _ _ _ c.requires.0 c.keep_halves.ensures c.put_deal.ensures c.clear_between.ensures;
      output = c.write_open_frame.ensures
          ∙ written S has_room d f _ t _ _ _ _ a.out.now (part_at d 0 S.key_bytes (lit< tt) key) (part_at d 1 S.key_bytes (lit< tt) key) (key-dealt S has_room d f _ t) (label-dealt S has_room d f _ t);
    }
