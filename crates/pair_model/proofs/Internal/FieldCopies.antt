-- Fields that are copied one after the other to the front of a string: any number of them, by `concat`.
use mathlib.Core.Path.{◌≡◌, refl, sym, ap, subst, ◌∙◌}
use mathlib.Core.List.{List, [], ◌∷◌, ◌++◌, append-nil, append_assoc}
use Prim.Native.Nat.{ℕ, ◌+◌, ◌≤◌}
use native.Mathlib.Omega.{arith}
use lib.ListN.{length, drop, length-append}
use Rattle.pair_model.specs.Scheme.{concat}
use Rattle.linear_model.proofs.Copies.{pasted, Copied, copied_more, copied_all}

-- one string more at the end
concat_more : (fields : List (List ℕ)) (s : List ℕ) → concat fields ++ s ≡ concat (fields ++ s ∷ [])
unfolding concat
concat_more [] s = sym (append-nil s)
concat_more (x ∷ fields) s = append_assoc x (concat fields) s ∙ ap (λ (t : List ℕ). x ++ t) (concat_more fields s)

-- d, with these strings of k bytes in all copied to its front
pub record FieldsCopied (k : ℕ) (fields : List (List ℕ)) (d o : List ℕ) : Type 0 where
  pub long : length (concat fields) ≡ k
  pub copied : Copied (concat fields) d o

module _ {d : List ℕ} where
  pub fields_none : FieldsCopied 0 [] d d
  unfolding concat
  fields_none = record { long = refl; copied = record { within = omega arith; is = refl } }

  -- one copy of n bytes more, right behind
  pub fields_more : {k : ℕ} {fields : List (List ℕ)} {o : List ℕ} → FieldsCopied k fields d o → (n : ℕ) (s o' : List ℕ) → length s ≡ n → k + n ≤ length d
      → o' ≡ pasted k s o → FieldsCopied (k + n) (fields ++ s ∷ []) d o'
  fields_more {k} {fields} {o} h n s o' l w e =
      record {
        long = ap length (sym (concat_more fields s)) ∙ length-append (concat fields) s ∙ (λ i. h.long i + l i);
        copied =
            subst (λ (t : List ℕ). Copied t d o') (concat_more fields s)
            (copied_more k (concat fields) s o o' h.copied (sym h.long) (omega (arith, h.long)) e);
      }

  -- what is behind them stays
  pub fields_front : {k : ℕ} {fields : List (List ℕ)} {o : List ℕ} → FieldsCopied k fields d o → o ≡ concat fields ++ drop k d
  fields_front {k} {fields} h = h.copied.is ∙ ap (λ (n : ℕ). concat fields ++ drop n d) h.long

  -- where all of d is covered
  pub fields_all : {k : ℕ} {fields : List (List ℕ)} {o : List ℕ} → FieldsCopied k fields d o → length d ≡ k → o ≡ concat fields
  fields_all {k} {fields} {o} h e = copied_all (concat fields) o h.copied (omega (arith, h.long))
