-- Laws of strings that are copied into others, one after the other from the front.
use mathlib.Core.Path.{◌≡◌, sym, ap, ◌∙◌}
use mathlib.Core.List.{List, ◌++◌, append-nil}
use Prim.Native.Nat.{ℕ, ◌+◌, ◌≤◌}
use native.Mathlib.Nat.{zero-add}
use lib.ListN.{length, take, drop, length-append, drop_of_length-le}
use lib.Seq.{take_at, drop-append-add, drop-drop}

-- `put` has left this of o: s from byte k on
abbrev pub pasted : ℕ → List ℕ → List ℕ → List ℕ
pasted k s o = take k o ++ s ++ drop (k + length s) o

-- d, with a copied to its front
pub record Copied (a d o : List ℕ) : Type 0 where
  pub within : length a ≤ length d
  pub is : o ≡ a ++ drop (length a) d

module _ {d : List ℕ} where
  -- the first copy
  pub copied-first : (s o : List ℕ) → length s ≤ length d → o ≡ pasted 0 s d → Copied s d o
  copied-first s o h e = record { within = h; is = e ∙ ap (λ (k : ℕ). s ++ drop k d) (zero-add (length s)) }

  -- one copy more, right behind
  pub copied_more : (k : ℕ) (a s o o' : List ℕ) → Copied a d o → k ≡ length a → length a + length s ≤ length d → o' ≡ pasted k s o → Copied (a ++ s) d o'
  copied_more k a s o o' c n h e =
      let t : take k o ≡ a = ap (take k) c.is ∙ take_at a (drop (length a) d) k (sym n) in
      let u : drop (k + length s) o ≡ drop (length (a ++ s)) d =
      (λ i. drop (n i + length s) (c.is i)) ∙ drop-append-add a (drop (length a) d) (length s) ∙ drop-drop (length s) (length a) d
      ∙ ap (λ (j : ℕ). drop j d) (sym (length-append a s)) in
      record { within = rw length-append h; is = e ∙ (λ i. t i ++ s ++ u i) }

  -- where all of d is covered
  pub copied_all : (a o : List ℕ) → Copied a d o → length d ≤ length a → o ≡ a
  copied_all a o c h = c.is ∙ ap (λ (s : List ℕ). a ++ s) (drop_of_length-le d h) ∙ append-nil a
