-- Rooms that are written one after the other from the front of a slice, and what a slice has in each.
use mathlib.Core.Path.{◌≡◌, refl, sym, ap, subst, ◌∙◌}
use mathlib.Core.List.{List, [], ◌∷◌, ◌++◌, append_assoc, append-nil}
use Prim.Native.Nat.{ℕ, ◌+◌, ◌-◌, ◌<◌, ◌≤◌}
use native.Mathlib.Omega.{arith}
use lib.ListN.{length, get_or, take, drop, length-append, length-drop, take-append-drop}
use lib.Seq.{take_at, drop_at, drop-append-add, drop-drop, take-add, take-take, length-take-le}
use Rattle.linear_model.specs.Bits.{zeros}
use Rattle.linear_model.proofs.Strings.{length-zeros}
use Rattle.pair_frames.specs.declared.sizes.Sizes.{Sizes}
use Rattle.pair_frames.specs.Schemes.{scheme_in}
use Rattle.pair_model.specs.Scheme.{concat}
use Rattle.pair_model.specs.Frame.{Parameters, header}
use Rattle.pair_model.specs.StateSlice.{in_room, rooms, state_header, state_header_bytes, state_bytes, room_place, in_front}
use Rattle.pair_model.proofs.Internal.Encodings.{HasRoom}
use Rattle.pair_model.proofs.Internal.Fields.{field_at}
use Rattle.pair_model.proofs.Internal.FieldCopies.{FieldsCopied, fields_none, fields_more, fields_front}

-- ---- one room

-- a string with another one in its room at k
abbrev pub in_place : ℕ → ℕ → List ℕ → List ℕ → List ℕ
in_place k room string s = take k s ++ in_room room string ++ drop (k + room) s

pub length_room : (room : ℕ) (string : List ℕ) → length string ≤ room → length (in_room room string) ≡ room
length_room room string l = rw (length-append, length-zeros) (omega arith)

-- zeros after the first n bytes of a room leave those
pub kept_place : (k n room : ℕ) (s : List ℕ) → n ≤ room → k + room ≤ length s
    → take (k + n) s ++ zeros (k + room - (k + n)) ++ drop (k + room) s ≡ in_place k room (take n (drop k s)) s
kept_place k n room s l h =
    let front = take-add k n s in
    let long : length (take n (drop k s)) ≡ n = length-take-le n (drop k s) (rw length-drop (omega arith)) in
    let left : k + room - (k + n) ≡ room - length (take n (drop k s)) = omega arith in
    ap (λ (t : List ℕ). t ++ drop (k + room) s)
    ((λ i. front i ++ zeros (left i)) ∙ append_assoc (take k s) (take n (drop k s)) (zeros (room - length (take n (drop k s)))))

-- a string that is put at k, and zeros after it
pub put_place : (k room : ℕ) (string s o : List ℕ) → length string ≤ room → k + room ≤ length s → o ≡ take k s ++ string ++ drop (k + length string) s
    → take (k + length string) o ++ zeros (k + room - (k + length string)) ++ drop (k + room) o ≡ in_place k room string s
put_place k room string s o l h e =
    let a = length-take-le k s (omega arith) in
    let long : length (take k s ++ string) ≡ k + length string = rw length-append (omega arith) in
    let front : take (k + length string) o ≡ take k s ++ string =
    ap (take (k + length string)) e ∙ take_at (take k s ++ string) (drop (k + length string) s) (k + length string) long in
    let place : k + room ≡ length (take k s ++ string) + (room - length string) = omega arith in
    let all : k + length string + (room - length string) ≡ k + room = omega arith in
    let behind : drop (k + room) o ≡ drop (k + room) s =
    (λ i. drop (place i) (e i)) ∙ drop-append-add (take k s ++ string) (drop (k + length string) s) (room - length string)
    ∙ drop-drop (room - length string) (k + length string) s ∙ ap (λ (j : ℕ). drop j s) all in
    let left : k + room - (k + length string) ≡ room - length string = omega arith in
    (λ i. front i ++ zeros (left i) ++ behind i) ∙ ap (λ (t : List ℕ). t ++ drop (k + room) s) (append_assoc (take k s) string (zeros (room - length string)))

-- ---- one after the other

module _ {d : List ℕ} {k : ℕ} {fields : List (List ℕ)} {o : List ℕ} (h : FieldsCopied k fields d o) where
  pub behind_fields : drop k o ≡ drop k d
  behind_fields = ap (drop k) (fields_front h) ∙ drop_at (concat fields) (drop k d) k h.long

  -- one room more
  pub room_more : (room : ℕ) (string o' : List ℕ) → length string ≤ room → k + room ≤ length d → o' ≡ in_place k room string o
      → FieldsCopied (k + room) (fields ++ in_room room string ∷ []) d o'
  room_more room string o' l w e =
      let long = length_room room string l in
      fields_more h room (in_room room string) o' long w
      (e ∙ ap (λ (n : ℕ). take k o ++ in_room room string ++ drop (k + n) o) (sym long))

  -- one that keeps the n bytes at its front
  pub room_kept : (room n : ℕ) (o' : List ℕ) → n ≤ room → k + room ≤ length d → o' ≡ in_place k room (take n (drop k o)) o
      → FieldsCopied (k + room) (fields ++ in_room room (take n (drop k d)) ∷ []) d o'
  room_kept room n o' l w e =
      let rest : length (drop k o) ≡ length d - k = ap length behind_fields ∙ length-drop k d in
      let long : length (take n (drop k o)) ≡ n = length-take-le n (drop k o) (omega arith) in
      subst (λ (s : List ℕ). FieldsCopied (k + room) (fields ++ in_room room (take n s) ∷ []) d o') behind_fields
      (room_more room (take n (drop k o)) o' (omega arith) w e)

-- ---- the rooms of a state

-- the string at the front of room i
pub front_at : (s : List ℕ) (i n : ℕ) → i < 7 → n ≤ get_or rooms i 0 → take n (drop (room_place i) s) ≡ in_front s i n
front_at s i n h l =
    sym (take-take n (get_or rooms i 0) (drop (room_place i) s) l) ∙ ap (take n) (field_at rooms i state_header_bytes s h)

-- the part that is lent of it
pub part_at : (s : List ℕ) (i n : ℕ) → i < 7 → n ≤ get_or rooms i 0 → take (room_place i + n - room_place i) (drop (room_place i) s) ≡ in_front s i n
part_at s i n h l = let e : room_place i + n - room_place i ≡ n = omega arith in ap (λ (k : ℕ). take k (drop (room_place i) s)) e ∙ front_at s i n h l

-- it stays where all from some place before it on does
pub front_behind : (o d : List ℕ) (k i n : ℕ) → i < 7 → n ≤ get_or rooms i 0 → k ≤ room_place i → drop k o ≡ drop k d → in_front o i n ≡ in_front d i n
front_behind o d k i n h l w e =
    let place : k + (room_place i - k) ≡ room_place i = omega arith in
    let same : drop (room_place i) o ≡ drop (room_place i) d =
    ap (λ (j : ℕ). drop j o) (sym place) ∙ sym (drop-drop (room_place i - k) k o) ∙ ap (drop (room_place i - k)) e ∙ drop-drop (room_place i - k) k d
    ∙ ap (λ (j : ℕ). drop j d) place in
    sym (front_at o i n h l) ∙ ap (take n) same ∙ front_at d i n h l

-- the first k bytes, before anything is written
pub front_kept : (k : ℕ) (s : List ℕ) → k ≤ length s → FieldsCopied k (take k s ∷ []) s s
unfolding concat
front_kept k s h =
    let e = append-nil (take k s) in
    let long : length (take k s ++ []) ≡ k = ap length e ∙ length-take-le k s h in
    record {
      long = long;
      copied = record { within = omega arith; is = sym (take-append-drop k s) ∙ (λ i. sym e i ++ drop (sym long i) s) };
    }

-- a state's header at the front of a slice
pub header-first : (set : ℕ) (t : Parameters) (stage : ℕ) (d o : List ℕ) → length d ≡ state_bytes → o ≡ state_header set t stage ++ drop state_header_bytes d
    → FieldsCopied state_header_bytes (state_header set t stage ∷ []) d o
unfolding state_header header
header-first set t stage d o l e = fields_more (fields_none {d = d}) state_header_bytes (state_header set t stage) o refl (omega arith) e

-- strings of sizes that fit have room
pub has_room_in : (z : Sizes) → HasRoom (scheme_in z)
has_room_in z = record { key = z.fits.key; inner = z.fits.inner }
