-- `pair_slices::slices::open_in_place` meets its contract: the own mask goes from the frame to the slice, whose other rooms are kept.
use mathlib.Core.Path.{◌≡◌, ap, ◌∙◌}
use mathlib.Core.List.{List, [], ◌∷◌, ◌++◌}
use Prim.Native.Nat.{ℕ, ◌+◌, ◌-◌, ◌*◌, ◌≤◌}
use native.Mathlib.Omega.{arith}
use lib.Dec.{lit<, lit≤}
use lib.ListN.{length, take, drop}
use lib.Seq.{take_at}
use Rattle.numbers.specs.Number.{at_front}
use Rattle.pair_frames.specs.Schemes.{scheme_in}
use Rattle.pair_model.specs.Scheme.{no_files, Scheme, field, concat}
use Rattle.pair_model.specs.Frame.{carried_parameters, Parameters, mask_kind, header, frame, body_of, header_bytes}
use Rattle.pair_model.specs.Unit.{state, take_open}
use Rattle.pair_model.specs.StateSlice.{string_room, trits_room, in_room, in_front, rooms, room_place, state_header, state_header_bytes, state_bytes, encode_state, decode_as}
use Rattle.pair_model.proofs.Internal.Encodings.{HasRoom}
use Rattle.pair_model.proofs.Theorem.MaskLaws.{bytes_mask_of}
use Rattle.pair_rooms.proofs.InTurn.{front_behind, has_room_in}
use Rattle.pair_slices.proofs.Whole.{front_fits, behind_halves, whole}
use Rattle.pair_slices.proofs.slices.open_in_place.Goals as goal

module _ (S : Scheme) (has_room : HasRoom S) (s f : List ℕ) (t : Parameters) (is : t ≡ carried_parameters s) where
  abbrev n : ℕ
  n = S.key_bytes

  abbrev m : ℕ
  m = S.inner_bytes

  abbrev own : List ℕ
  own = (take_open S (decode_as S s) (body_of f) no_files).next.secrets.own_mask

  own_long : length own ≡ m
  unfolding take_open
  own_long = (bytes_mask_of S no_files _ _ _ _ _ _).size

  -- the mask frame's body is the own mask
  body_is : (o old : List ℕ) → o ≡ at_front (take_open S (decode_as S s) (body_of f) no_files).written old → take (header_bytes + m - header_bytes) (drop header_bytes o) ≡ own
  unfolding take_open frame header
  body_is o old e =
      let k : header_bytes + m - header_bytes ≡ m = omega arith in
      (λ i. take (k i) (drop header_bytes (e i))) ∙ take_at own (drop (length (take_open S (decode_as S s) (body_of f) no_files).written) old) m own_long

  trits_fit : 2 * m ≤ trits_room
  trits_fit = let h = has_room.inner in omega (arith, h)

  -- a string at the front of a room fits it
  fits : (i n room : ℕ) → n ≤ room → length (in_front s i n) ≤ room
  fits i n room h = front_fits (field rooms i (drop state_header_bytes s)) n room h

  -- the slice afterwards is the state with its mask made
  next : (w o₁ o₂ o₃ : List ℕ) → length s ≡ state_bytes → w ≡ own
      → o₁ ≡ concat (state_header S.set t mask_kind ∷ in_room string_room (in_front s 0 n) ∷ in_room string_room (in_front s 1 n) ∷ []) ++ drop (room_place 2) s
      → o₂ ≡ take (room_place 2) o₁ ++ concat (in_room string_room (in_front o₁ 2 n) ∷ in_room string_room (in_front o₁ 3 n) ∷ in_room string_room (in_front o₁ 4 m) ∷ in_room trits_room (in_front o₁ 5 (2 * m)) ∷ []) ++ drop (room_place 6) o₁
      → o₃ ≡ take (room_place 6) o₂ ++ in_room string_room w ++ drop state_bytes o₂
      → o₃ ≡ encode_state (take_open S (decode_as S s) (body_of f) no_files).next
  unfolding take_open decode_as
  next w o₁ o₂ o₃ l e e₁ e₂ e₃ =
      let kf = fits 0 n string_room has_room.key in
      let lf = fits 1 n string_room has_room.key in
      let k2 = in_front s 2 n in
      let k3 = in_front s 3 n in
      let k4 = in_front s 4 m in
      let k5 = in_front s 5 (2 * m) in
      let same = behind_halves S.set t mask_kind (in_front s 0 n) (in_front s 1 n) k2 k3 k4 k5 w kf lf s o₁ l e₁ in
      let s2 = front_behind o₁ s (room_place 2) 2 n (lit< tt) has_room.key (lit≤ tt) same in
      let s3 = front_behind o₁ s (room_place 2) 3 n (lit< tt) has_room.key (lit≤ tt) same in
      let s4 = front_behind o₁ s (room_place 2) 4 m (lit< tt) has_room.inner (lit≤ tt) same in
      let s5 = front_behind o₁ s (room_place 2) 5 (2 * m) (lit< tt) trits_fit (lit≤ tt) same in
      whole S.set t mask_kind (in_front s 0 n) (in_front s 1 n) k2 k3 k4 k5 w kf lf s o₁ l e₁
      (fits 2 n string_room has_room.key) (fits 3 n string_room has_room.key) (fits 4 m string_room has_room.inner) (fits 5 (2 * m) trits_room trits_fit)
      (omega (arith, has_room.inner, own_long, ap length e)) o₂ o₃
      (e₂ ∙ (λ i. take (room_place 2) o₁ ++ concat (in_room string_room (s2 i) ∷ in_room string_room (s3 i) ∷ in_room string_room (s4 i) ∷ in_room trits_room (s5 i) ∷ []) ++ drop (room_place 6) o₁)) e₃
      ∙ (λ i. encode_state (state S.set (is i) mask_kind (record { key = in_front s 0 n; label = in_front s 1 n; key_mask = k2; label_mask = k3; z = k4; r = k5; own_mask = e i })))

pub returns : goal.returns
returns c =
    let a = c.args in
    let S = scheme_in a.sizes in
    let d = a.state.now in
    let has_room = has_room_in a.sizes in
    let t = c.parameters_of-parameters.ensures in
    let w = c.write_mask_frame.ensures in record { state = next S has_room d a.f.now _ t _ _ _ _ c.requires.0 (body_is S has_room d a.f.now _ t _ a.out.now w) c.keep_halves.ensures c.keep_deal.ensures c.put_room.ensures; output = w }
