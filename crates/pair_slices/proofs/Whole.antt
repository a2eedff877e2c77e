-- A slice whose header and halves, deal and own mask are written in turn is the state of these.
use mathlib.Core.Path.{◌≡◌, refl, sym, ap, ◌∙◌}
use mathlib.Core.List.{List, [], ◌∷◌, ◌++◌}
use Prim.Native.Nat.{ℕ, ◌+◌, ◌*◌, ◌≤◌}
use native.Mathlib.Omega.{arith}
use lib.ListN.{length, take, drop, length-append, length-take}
use Rattle.pair_model.specs.Scheme.{concat}
use Rattle.pair_model.specs.Frame.{Parameters, header}
use Rattle.pair_model.specs.Unit.{Secrets, state}
use Rattle.pair_model.specs.StateSlice.{string_room, trits_room, in_room, room_place, state_header, state_header_bytes, state_bytes, encode_state}
use Rattle.pair_model.proofs.Internal.FieldCopies.{FieldsCopied, fields_more, fields_all}
use Rattle.pair_rooms.proofs.InTurn.{length_room, behind_fields}
use Rattle.pair_states.proofs.Blank.{concat_append}

-- a string at the front of a room fits it
pub front_fits : (s : List ℕ) (n room : ℕ) → n ≤ room → length (take n s) ≤ room
front_fits s n room h = rw length-take (omega arith)

header_long : (set : ℕ) (t : Parameters) (stage : ℕ) → length (state_header set t stage) ≡ state_header_bytes
unfolding state_header header
header_long set t stage = refl

-- strings that fit fill their rooms
two_long : (a k l : List ℕ) → length a ≡ state_header_bytes → length k ≡ string_room → length l ≡ string_room → length (concat (a ∷ k ∷ l ∷ [])) ≡ room_place 2
unfolding concat
two_long a k l e f g = omega (arith, length-append a (k ++ (l ++ [])), length-append k (l ++ []), length-append {A = ℕ} l [])

four_long : (a b c d : List ℕ) → length a ≡ string_room → length b ≡ string_room → length c ≡ string_room → length d ≡ trits_room → length (concat (a ∷ b ∷ c ∷ d ∷ [])) ≡ 3 * string_room + trits_room
unfolding concat
four_long a b c d e f g h =
    omega (arith, length-append a (b ++ (c ++ (d ++ []))), length-append b (c ++ (d ++ [])), length-append c (d ++ []), length-append {A = ℕ} d [])

module _ (set : ℕ) (t : Parameters) (stage : ℕ) (key label key_mask label_mask z r own_mask : List ℕ) where
  abbrev secrets : Secrets
  secrets = record { key = key; label = label; key_mask = key_mask; label_mask = label_mask; z = z; r = r; own_mask = own_mask }

  abbrev front : List (List ℕ)
  front = state_header set t stage ∷ in_room string_room key ∷ in_room string_room label ∷ []

  abbrev deal : List (List ℕ)
  deal = in_room string_room key_mask ∷ in_room string_room label_mask ∷ in_room string_room z ∷ in_room trits_room r ∷ []

  module _ (hk : length key ≤ string_room) (hl : length label ≤ string_room) (d o₁ : List ℕ) (long : length d ≡ state_bytes) (e₁ : o₁ ≡ concat front ++ drop (room_place 2) d) where
    front_long : length (concat front) ≡ room_place 2
    front_long = two_long (state_header set t stage) (in_room string_room key) (in_room string_room label) (header_long set t stage) (length_room string_room key hk) (length_room string_room label hl)

    written-front : FieldsCopied (room_place 2) front d o₁
    written-front =
        record { long = front_long; copied = record { within = omega (arith, front_long); is = e₁ ∙ ap (λ (k : ℕ). concat front ++ drop k d) (sym front_long) } }

    -- what is behind the halves stays with them
    pub behind_halves : drop (room_place 2) o₁ ≡ drop (room_place 2) d
    behind_halves = behind_fields written-front

    pub whole : length key_mask ≤ string_room → length label_mask ≤ string_room → length z ≤ string_room → length r ≤ trits_room → length own_mask ≤ string_room
        → (o₂ o₃ : List ℕ) → o₂ ≡ take (room_place 2) o₁ ++ concat deal ++ drop (room_place 6) o₁
        → o₃ ≡ take (room_place 6) o₂ ++ in_room string_room own_mask ++ drop state_bytes o₂
        → o₃ ≡ encode_state (state set t stage secrets)
    unfolding encode_state concat
    whole ha hb hc hd ho o₂ o₃ e₂ e₃ =
        let room = length_room string_room in
        let four = four_long (in_room string_room key_mask) (in_room string_room label_mask) (in_room string_room z) (in_room trits_room r) (room key_mask ha) (room label_mask hb) (room z hc) (length_room trits_room r hd) in
        let mask = room own_mask ho in
        let f2 = fields_more written-front 320 (concat deal) o₂ four (omega arith)
        (e₂ ∙ ap (λ (k : ℕ). take (room_place 2) o₁ ++ concat deal ++ drop (room_place 2 + k) o₁) (sym four)) in
        let f3 = fields_more f2 string_room (in_room string_room own_mask) o₃ mask (omega arith)
        (e₃ ∙ ap (λ (k : ℕ). take (room_place 6) o₂ ++ in_room string_room own_mask ++ drop (room_place 6 + k) o₂) (sym mask)) in
        fields_all f3 (omega arith)
        ∙ ap (λ (s : List ℕ). state_header set t stage ++ (in_room string_room key ++ (in_room string_room label ++ s))) (concat_append deal (in_room string_room own_mask ∷ []))
