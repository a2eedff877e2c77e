-- States in a slice that hold no secrets: rooms of zeros.
use mathlib.Core.Path.{◌≡◌, refl, sym, ap, ◌∙◌}
use mathlib.Core.List.{List, [], ◌∷◌, ◌++◌, append_assoc, append-nil}
use Prim.Native.Nat.{ℕ, ◌+◌, ◌-◌, ◌*◌}
use native.Mathlib.Omega.{arith}
use lib.ListN.{length, take, drop, length-append, length-drop, replicate-append-replicate, drop_of_length-le}
use lib.Seq.{take_at}
use Rattle.linear_model.specs.Bits.{zeros}
use Rattle.pair_frames.proofs.Fronts.{zeros_room}
use Rattle.pair_model.specs.Scheme.{Scheme, layout_bytes, concat}
use Rattle.pair_model.specs.Frame.{Parameters}
use Rattle.pair_model.specs.Unit.{state, nothing}
use Rattle.pair_model.specs.StateSlice.{string_room, trits_room, rooms, state_header, encode_state}
use Rattle.pair_model.proofs.Internal.Encodings.{HasRoom}
use Rattle.pair_model.proofs.Internal.FieldCopies.{FieldsCopied, fields_front}

-- zeros for rooms of these sizes
abbrev pub blank : List ℕ → List (List ℕ)
blank [] = []
blank (n ∷ sizes) = zeros n ∷ blank sizes

pub concat-blank : (sizes : List ℕ) → zeros (layout_bytes sizes) ≡ concat (blank sizes)
unfolding concat
concat-blank [] = refl
concat-blank (n ∷ sizes) = sym (replicate-append-replicate {A = ℕ} n (layout_bytes sizes) 0) ∙ ap (λ (t : List ℕ). zeros n ++ t) (concat-blank sizes)

-- fields before others
pub concat_append : (fields others : List (List ℕ)) → concat fields ++ concat others ≡ concat (fields ++ others)
unfolding concat
concat_append [] others = refl
concat_append (s ∷ fields) others = append_assoc s (concat fields) (concat others) ∙ ap (λ (t : List ℕ). s ++ t) (concat_append fields others)

-- rooms written one after the other, and zeros from there to the end
pub then_blank : {d : List ℕ} {k : ℕ} {fields : List (List ℕ)} {o : List ℕ} → FieldsCopied k fields d o → (sizes o' : List ℕ) → length d ≡ k + layout_bytes sizes
    → o' ≡ take k o ++ zeros (k + layout_bytes sizes - k) ++ drop (k + layout_bytes sizes) o → o' ≡ concat (fields ++ blank sizes)
then_blank {d} {k} {fields} {o} h sizes o' l e =
    let front : take k o ≡ concat fields = ap (take k) (fields_front h) ∙ take_at (concat fields) (drop k d) k h.long in
    let long : length o ≡ length (concat fields) + (length d - k) =
    ap length (fields_front h) ∙ length-append (concat fields) (drop k d) ∙ ap (λ (n : ℕ). length (concat fields) + n) (length-drop k d) in
    let left : k + layout_bytes sizes - k ≡ layout_bytes sizes = omega arith in
    let end = drop_of_length-le o {i = k + layout_bytes sizes} (omega (arith, h.long)) in
    e ∙ (λ i. front i ++ zeros (left i) ++ end i) ∙ append-nil (concat fields ++ zeros (layout_bytes sizes))
    ∙ ap (λ (t : List ℕ). concat fields ++ t) (concat-blank sizes) ∙ concat_append fields (blank sizes)

-- a state with zeros for all but its header
pub encode_nothing : (S : Scheme) → HasRoom S → (set : ℕ) (t : Parameters) (stage : ℕ)
    → state_header set t stage ++ zeros (layout_bytes rooms) ≡ encode_state (state set t stage (nothing S))
unfolding encode_state
encode_nothing S r set t stage =
    let n = zeros_room S.key_bytes string_room r.key in
    let m = zeros_room S.inner_bytes string_room r.inner in
    let trits = zeros_room (2 * S.inner_bytes) trits_room (omega (arith, r.inner)) in
    ap (λ (s : List ℕ). state_header set t stage ++ s)
    (concat-blank rooms ∙ (λ i. concat (n i ∷ n i ∷ n i ∷ n i ∷ m i ∷ trits i ∷ m i ∷ [])))
