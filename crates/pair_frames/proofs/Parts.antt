-- Parts of strings by their places: a header, a field that is read from a part, alone or to the front of a room, and a part that is written in place.
use mathlib.Core.Path.{◌≡◌, refl, sym, ap, subst, ◌∙◌}
use mathlib.Core.List.{List, [], ◌∷◌, ◌++◌, append_assoc}
use Prim.Native.Nat.{ℕ, ◌+◌, ◌-◌, ◌<◌, ◌≤◌}
use native.Mathlib.Nat.{zero-add}
use native.Mathlib.Omega.{arith}
use lib.ListN.{length, get_or, take, drop, length-append, length-drop}
use lib.Seq.{drop-drop, length-take-le}
use Rattle.linear_model.specs.Bits.{zeros, add_bits}
use Rattle.linear_model.proofs.Copies.{pasted}
use Rattle.linear_model.proofs.Strings.{bytes_add}
use Rattle.pair_model.specs.Scheme.{layout_bytes, field, concat}
use Rattle.pair_model.specs.Frame.{Parameters, header, header_bytes}
use Rattle.pair_model.specs.StateSlice.{in_room}
use Rattle.pair_model.proofs.Internal.Fields.{field_at}
use Rattle.pair_model.proofs.Internal.FieldCopies.{FieldsCopied, fields_none, fields_more, fields_front}
use Rattle.pair_frames.proofs.Fronts.{zeros_behind}

-- what is copied to the front of a room of zeros is in that room
pub room_copied : (room : ℕ) (s o : List ℕ) → o ≡ pasted 0 s (zeros room) → o ≡ in_room room s
room_copied room s o e = e ∙ ap (λ (k : ℕ). s ++ drop k (zeros room)) (zero-add (length s)) ∙ ap (λ (t : List ℕ). s ++ t) (zeros_behind (length s) room)

-- the length of a header
header_long : (kind : ℕ) (t : Parameters) → length (header kind t) ≡ header_bytes
unfolding header
header_long kind t = refl

pub headed : (h : List ℕ) (kind : ℕ) (t : Parameters) → h ≡ header kind t → length h ≡ header_bytes
headed h kind t e = ap length e ∙ header_long kind t

-- one that is copied to the front of d
pub header-first : {d : List ℕ} (h o : List ℕ) (kind : ℕ) (t : Parameters) → h ≡ header kind t → o ≡ pasted 0 h d → header_bytes ≤ length d → FieldsCopied header_bytes (header kind t ∷ []) d o
header-first {d} h o kind t e p room =
    fields_more (fields_none {d = d}) header_bytes (header kind t) o (header_long kind t) room (p ∙ ap (λ (x : List ℕ). pasted 0 x d) e)

-- bytes k to j of a string
pub part_long : (s : List ℕ) (k j : ℕ) → k ≤ j → j ≤ length s → length (take (j - k) (drop k s)) ≡ j - k
part_long s k j h l = length-take-le (j - k) (drop k s) (rw length-drop (omega arith))

module _ (layout : List ℕ) (i at k j : ℕ) (s : List ℕ) (h : i < length layout) (start : k ≡ at + layout_bytes (take i layout)) (end : j ≡ k + get_or layout i 0) where
  -- field i of a string from `at` on is the part at its place
  pub field_part : take (j - k) (drop k s) ≡ field layout i (drop at s)
  field_part = let m : j - k ≡ get_or layout i 0 = omega arith in (λ x. take (m x) (drop (start x) s)) ∙ field_at layout i at s h

module _ (layout : List ℕ) (i at k : ℕ) (s : List ℕ) (h : i < length layout) (start : k ≡ at + layout_bytes (take i layout)) where
  -- field i of a string from `at` on, by its place
  pub field_is : take (get_or layout i 0) (drop k s) ≡ field layout i (drop at s)
  field_is = ap (λ (x : ℕ). take (get_or layout i 0) (drop x s)) start ∙ field_at layout i at s h

  -- copied to the front of a room of zeros
  pub field-copied : (room : ℕ) (o : List ℕ) → o ≡ pasted 0 (take (get_or layout i 0) (drop k s)) (zeros room) → o ≡ in_room room (field layout i (drop at s))
  field-copied room o e = room_copied room (take (get_or layout i 0) (drop k s)) o e ∙ ap (in_room room) field_is

-- fields copied one after the other, and then the n bytes behind them written in place
module _ {d : List ℕ} {k : ℕ} {fields : List (List ℕ)} {o : List ℕ} (h : FieldsCopied k fields d o) (n : ℕ) (room : k + n ≤ length d) where
  copied_long : length o ≡ length d
  copied_long =
      ap length (fields_front h) ∙ length-append (concat fields) (drop k d) ∙ (λ i. h.long i + length-drop k d i) ∙ omega arith

  -- those bytes
  pub behind_long : length (take (k + n - k) (drop k o)) ≡ n
  behind_long = let l = copied_long in part_long o k (k + n) (omega arith) (omega arith) ∙ omega arith

  pub fields_part : (s : List ℕ) → length s ≡ n → FieldsCopied (k + n) (fields ++ s ∷ []) d (take k o ++ (s ++ drop (k + n - k) (drop k o)))
  fields_part s l =
      let m : k + (k + n - k) ≡ k + length s = omega arith in
      fields_more h n s _ l room
      (sym (append_assoc (take k o) s (drop (k + n - k) (drop k o)))
      ∙ ap (λ (t : List ℕ). take k o ++ s ++ t) (drop-drop (k + n - k) k o ∙ ap (λ (j : ℕ). drop j o) m))

  -- with a sum modulo 2
  pub sum_part : (a b s : List ℕ) → s ≡ add_bits (length (take (k + n - k) (drop k o))) a b
      → FieldsCopied (k + n) (fields ++ add_bits n a b ∷ []) d (take k o ++ (s ++ drop (k + n - k) (drop k o)))
  sum_part a b s e =
      let is : s ≡ add_bits n a b = e ∙ ap (λ (j : ℕ). add_bits j a b) behind_long in
      subst (λ (t : List ℕ). FieldsCopied (k + n) (fields ++ add_bits n a b ∷ []) d (take k o ++ (t ++ drop (k + n - k) (drop k o)))) (sym is)
      (fields_part (add_bits n a b) (bytes_add n a b).size)
