-- Strings laid out as fields one after the other: fields put together and cut again give the fields, and the string.
use Prim.Native.Nat.{ℕ, zero, suc, ◌+◌, ◌<◌}
use mathlib.Core.Path.{◌≡◌, refl, ap, ◌∙◌}
use mathlib.Core.List.{List, [], ◌∷◌, ◌++◌}
use native.Mathlib.Omega.{arith}
use lib.Dec.{lit<}
use lib.ListN.{length, get_or, take, drop, take-append-drop, length-drop}
use lib.Seq.{take_at, drop_at, get_or-drop}
use Rattle.linear_model.specs.Bits.{Bytes}
use Rattle.linear_model.proofs.Strings.{bytes_slice, bytes_append}
use Rattle.pair_model.specs.Scheme.{layout_bytes, field, concat}

-- one byte
pub bytes_one : (x : ℕ) → x < 256 → Bytes 1 (x ∷ [])
bytes_one x h = record { size = refl; small = λ i. at i }
  where
    at : (i : ℕ) → get_or (x ∷ []) i 0 < 256
    at zero = h
    at (suc i) = lit< tt

-- strings of these sizes
abbrev pub Laid : List ℕ → List (List ℕ) → Type 0
Laid [] [] = Unit {0}
Laid [] (s ∷ fields) = ⊥
Laid (n ∷ sizes) [] = ⊥
Laid (n ∷ sizes) (s ∷ fields) = Bytes n s × Laid sizes fields

-- the fields of a string, in order
unfoldable pub fields_of : List ℕ → List ℕ → List (List ℕ)
fields_of [] s = []
fields_of (n ∷ sizes) s = take n s ∷ fields_of sizes (drop n s)

-- field i of strings put together is string i
pub field-concat : (sizes : List ℕ) (fields : List (List ℕ)) → Laid sizes fields → (i : ℕ) → field sizes i (concat fields) ≡ get_or fields i []
unfolding field concat
field-concat [] [] h i = refl
field-concat [] (s ∷ fields) h i = absurd h
field-concat (n ∷ sizes) [] h i = absurd h
field-concat (n ∷ sizes) (s ∷ fields) h zero = take_at s (concat fields) n h.0.size
field-concat (n ∷ sizes) (s ∷ fields) h (suc i) =
    ap (field sizes i) (drop_at s (concat fields) n h.0.size) ∙ field-concat sizes fields h.1 i

-- the fields of a string put together are the string
pub concat_fields : (sizes s : List ℕ) → length s ≡ layout_bytes sizes → concat (fields_of sizes s) ≡ s
unfolding concat fields_of
concat_fields [] [] e = refl
concat_fields [] (x ∷ s) e = absurd (omega arith)
concat_fields (n ∷ sizes) s e =
    ap (λ (t : List ℕ). take n s ++ t) (concat_fields sizes (drop n s) (rw length-drop (omega arith))) ∙ take-append-drop n s

-- strings of these sizes make a string of the layout's length
pub bytes_concat : (sizes : List ℕ) (fields : List (List ℕ)) → Laid sizes fields → Bytes (layout_bytes sizes) (concat fields)
unfolding concat
bytes_concat [] [] h = record { size = refl; small = λ i. lit< tt }
bytes_concat [] (s ∷ fields) h = absurd h
bytes_concat (n ∷ sizes) [] h = absurd h
bytes_concat (n ∷ sizes) (s ∷ fields) h = bytes_append h.0 (bytes_concat sizes fields h.1)

-- what is behind the first n bytes
pub bytes_drop : (n : ℕ) {k : ℕ} {s : List ℕ} → Bytes (n + k) s → Bytes k (drop n s)
bytes_drop n h = record { size = rw length-drop (omega (arith, h.size)); small = λ i. rw get_or-drop (h.small (n + i)) }

-- the fields of a string of the layout's length have these sizes
pub laid_fields : (sizes s : List ℕ) → Bytes (layout_bytes sizes) s → Laid sizes (fields_of sizes s)
unfolding fields_of
laid_fields [] s h = tt
laid_fields (n ∷ sizes) s h = (bytes_slice (n + layout_bytes sizes) 0 n s h (omega arith), laid_fields sizes (drop n s) (bytes_drop n h))
