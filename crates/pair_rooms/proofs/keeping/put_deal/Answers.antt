-- `pair_rooms::keeping::put_deal` meets its contract: four rooms in turn, of the frame's fields.
use mathlib.Core.Path.{◌≡◌, ◌∙◌}
use mathlib.Core.List.{List, [], ◌∷◌, ◌++◌}
use Prim.Native.Nat.{ℕ, ◌+◌, ◌-◌, ◌*◌, ◌≤◌}
use native.Mathlib.Omega.{arith}
use lib.Dec.{lit<}
use lib.ListN.{length, take, drop}
use Rattle.pair_frames.specs.Schemes.{scheme_in}
use Rattle.pair_frames.proofs.Parts.{part_long, field_part}
use Rattle.pair_model.specs.Scheme.{Scheme, field, concat}
use Rattle.pair_model.specs.Tape.{deal_layout}
use Rattle.pair_model.specs.Frame.{deal_kind, frame_bytes, body_of, header_bytes}
use Rattle.pair_model.specs.StateSlice.{string_room, trits_room, in_room, room_place, state_bytes}
use Rattle.pair_model.proofs.Internal.FieldCopies.{fields_front}
use Rattle.pair_rooms.proofs.InTurn.{in_place, front_kept, room_more}
use Rattle.pair_rooms.proofs.keeping.put_deal.Goals as goal

-- the fields of a deal frame, by the places from which they are copied
module _ (S : Scheme) (f : List ℕ) (long : length f ≡ frame_bytes S deal_kind) where
  abbrev n : ℕ
  n = S.key_bytes

  abbrev m : ℕ
  m = S.inner_bytes

  abbrev label_at : ℕ
  label_at = header_bytes + n

  abbrev z_at : ℕ
  z_at = label_at + n

  abbrev r_at : ℕ
  r_at = z_at + m

  abbrev part : (start end : ℕ) → List ℕ
  part start end = take (end - start) (drop start f)

  fits : (start end room : ℕ) → start ≤ end → end ≤ r_at + 2 * m → end - start ≤ room → length (part start end) ≤ room
  fits start end room h l r = omega (arith, part_long f start end h (omega arith))

  key_fits : n ≤ string_room → length (part header_bytes label_at) ≤ string_room
  key_fits h = fits header_bytes label_at string_room (omega arith) (omega arith) (omega arith)

  label_fits : n ≤ string_room → length (part label_at z_at) ≤ string_room
  label_fits h = fits label_at z_at string_room (omega arith) (omega arith) (omega arith)

  z_fits : m ≤ string_room → length (part z_at r_at) ≤ string_room
  z_fits h = fits z_at r_at string_room (omega arith) (omega arith) (omega arith)

  r_fits : m ≤ string_room → length (part r_at (r_at + 2 * m)) ≤ trits_room
  r_fits h = fits r_at (r_at + 2 * m) trits_room (omega arith) (omega arith) (omega arith)

  key-dealt : part header_bytes label_at ≡ field (deal_layout S) 0 (body_of f)
  key-dealt = field_part (deal_layout S) 0 header_bytes header_bytes label_at f (lit< tt) (omega arith) (omega arith)

  label-dealt : part label_at z_at ≡ field (deal_layout S) 1 (body_of f)
  label-dealt = field_part (deal_layout S) 1 header_bytes label_at z_at f (lit< tt) (omega arith) (omega arith)

  z_dealt : part z_at r_at ≡ field (deal_layout S) 2 (body_of f)
  z_dealt = field_part (deal_layout S) 2 header_bytes z_at r_at f (lit< tt) (omega arith) (omega arith)

  r_dealt : part r_at (r_at + 2 * m) ≡ field (deal_layout S) 3 (body_of f)
  r_dealt = field_part (deal_layout S) 3 header_bytes r_at (r_at + 2 * m) f (lit< tt) (omega arith) (omega arith)

  -- four rooms written in turn
  dealt : n ≤ string_room → m ≤ string_room → (d o₁ o₂ o₃ o₄ : List ℕ) → length d ≡ state_bytes → o₁ ≡ in_place (room_place 2) string_room (part header_bytes label_at) d
      → o₂ ≡ in_place (room_place 3) string_room (part label_at z_at) o₁ → o₃ ≡ in_place (room_place 4) string_room (part z_at r_at) o₂
      → o₄ ≡ in_place (room_place 5) trits_room (part r_at (r_at + 2 * m)) o₃
      → let deal = field (deal_layout S) in let b = body_of f in
      o₄ ≡ take (room_place 2) d
      ++ concat (in_room string_room (deal 0 b) ∷ in_room string_room (deal 1 b) ∷ in_room string_room (deal 2 b) ∷ in_room trits_room (deal 3 b) ∷ [])
      ++ drop (room_place 6) d
  unfolding concat
  dealt key inner d o₁ o₂ o₃ o₄ w e₁ e₂ e₃ e₄ =
      let f0 = front_kept (room_place 2) d (omega arith) in
      let f1 = room_more f0 string_room (part header_bytes label_at) o₁ (key_fits key) (omega arith) e₁ in
      let f2 = room_more f1 string_room (part label_at z_at) o₂ (label_fits key) (omega arith) e₂ in
      let f3 = room_more f2 string_room (part z_at r_at) o₃ (z_fits inner) (omega arith) e₃ in
      let f4 = room_more f3 trits_room (part r_at (r_at + 2 * m)) o₄ (r_fits inner) (omega arith) e₄ in
      fields_front f4
      ∙ (λ i.
      concat
      (take (room_place 2) d ∷ in_room string_room (key-dealt i) ∷ in_room string_room (label-dealt i) ∷ in_room string_room (z_dealt i) ∷ in_room trits_room (r_dealt i) ∷ [])
      ++ drop (room_place 6) d)

pub returns : goal.returns
returns c =
    let a = c.args in
    dealt (scheme_in a.sizes) a.f.now c.requires.0 c.args.sizes.fits.key c.args.sizes.fits.inner a.s.now _ _ _ _ c.requires.1
    c.put_room.ensures c.put_room-2.ensures c.put_room-3.ensures c.put_room-4.ensures
