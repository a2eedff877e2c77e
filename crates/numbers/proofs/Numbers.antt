-- Laws of `first`: which number a list of conditions gives.
use Prim.Native.Nat.{ℕ, ◌≤◌, ◌<◌}
use mathlib.Core.Path.{◌≡◌, refl, sym, ap, ◌∙◌, subst}
use mathlib.Core.List.{List, [], ◌∷◌, ◌++◌}
use mathlib.Core.Bool.{Bool, true, false, cond, not, ◌||◌}
use native.Mathlib.Omega.{arith}
use lib.Dec.{T, ltb, eqb, eqb_refl, eqb→eq, nltb→le}
use lib.Arith.{le→nltb}
use Rattle.numbers.specs.Number.{Condition, ◌when◌, first, insert, merge}

-- ---- tests

-- a test that holds is true, and one whose denial holds is false
pub is_true : (b : Bool) → T b → b ≡ true
is_true true t = refl
is_true false t = absurd t

-- the denial
pub is_false : (b : Bool) → T (not b) → b ≡ false
is_false true t = absurd t
is_false false t = refl

-- and back
pub holds : (b : Bool) → b ≡ true → T b
holds b e = subst T (sym e) tt

-- of a denial
pub denied : (b : Bool) → not b ≡ false → T b
denied true e = tt
denied false e = absurd (subst T e tt)

-- equal numbers pass the test
pub equal : (m n : ℕ) → m ≡ n → eqb m n ≡ true
equal m n e = rw e (is_true (eqb n n) (eqb_refl n))

-- a number that is no less is not below
pub at_least : (m n : ℕ) → n ≤ m → ltb m n ≡ false
at_least m n h = is_false (ltb m n) (le→nltb m n h)

-- and back
pub is_at_least : (m n : ℕ) → ltb m n ≡ false → n ≤ m
is_at_least m n e = nltb→le m n (subst (λ (b : Bool). T (not b)) (sym e) tt)

-- and back, for equality
pub is_equal : (m n : ℕ) → not (eqb m n) ≡ false → m ≡ n
is_equal m n e = eqb→eq m n (denied (eqb m n) e)

-- of two tests none of which holds
pub or_left : (b c : Bool) → (b || c) ≡ false → b ≡ false
or_left true c e = e
or_left false c e = refl

-- nor the right one
pub or_right : (b c : Bool) → (b || c) ≡ false → c ≡ false
or_right true c e = absurd (subst T e tt)
or_right false c e = e

-- ---- the first number

-- a condition that does not hold is passed over
pub first_pass : (number : ℕ) (b : Bool) (cs : List Condition) → b ≡ false → first (number when b ∷ cs) ≡ first cs
unfolding first
first_pass number b cs e = ap (λ (c : Bool). cond c number (first cs)) e

-- a condition that holds gives its number
pub first_holds : (number : ℕ) (b : Bool) (cs : List Condition) → b ≡ true → first (number when b ∷ cs) ≡ number
unfolding first
first_holds number b cs e = ap (λ (c : Bool). cond c number (first cs)) e

-- where the first number is 0, a condition of another number does not hold
pub first-none : (number : ℕ) (b : Bool) (cs : List Condition) → 0 < number → first (number when b ∷ cs) ≡ 0 → (b ≡ false) × (first cs ≡ 0)
unfolding first
first-none number true cs h e = absurd (omega arith)
first-none number false cs h e = (refl, e)

-- no conditions after others change nothing
pub first_end : (cs : List Condition) → first (cs ++ []) ≡ first cs
unfolding first
first_end [] = refl
first_end (number when b ∷ cs) = ap (cond b number) (first_end cs)

-- every number of a list is above 0
abbrev pub Positive : List Condition → Type 0
Positive [] = Unit {0}
Positive (number when b ∷ cs) = (0 < number) × Positive cs

-- no condition of a list holds
abbrev pub NoneHolds : List Condition → Type 0
NoneHolds [] = Unit {0}
NoneHolds (number when b ∷ cs) = (b ≡ false) × NoneHolds cs

-- the first number is 0 exactly if no condition holds
pub none_holds : (cs : List Condition) → Positive cs → first cs ≡ 0 → NoneHolds cs
none_holds [] p e = tt
none_holds (number when b ∷ cs) p e = let h = first-none number b cs p.0 e in (h.0, none_holds cs p.1 h.1)

-- and back
pub first-zero : (cs : List Condition) → NoneHolds cs → first cs ≡ 0
unfolding first
first-zero [] h = refl
first-zero (number when b ∷ cs) h = first_pass number b cs h.0 ∙ first-zero cs h.1

-- of two lists in a row the first decides where it gives a number, and else the second
pub first_before : (k l : List Condition) → (first k ≡ 0 → ⊥) → first (k ++ l) ≡ first k
unfolding first
first_before [] l h = absurd (h refl)
first_before (number when true ∷ k) l h = refl
first_before (number when false ∷ k) l h = first_before k l h

pub first-after : (k l : List Condition) → Positive k → first k ≡ 0 → first (k ++ l) ≡ first l
unfolding first
first-after [] l p e = refl
first-after (number when true ∷ k) l p e = absurd (omega (arith, p.0))
first-after (number when false ∷ k) l p e = first-after k l p.1 e

-- where each gives 0, both do
pub first-both : (k l : List Condition) → first k ≡ 0 → first l ≡ 0 → first (k ++ l) ≡ 0
unfolding first
first-both [] l e h = h
first-both (number when true ∷ k) l e h = e
first-both (number when false ∷ k) l e h = first-both k l e h

-- where both give 0, no condition of the first holds
pub none_before : (k l : List Condition) → Positive k → first (k ++ l) ≡ 0 → NoneHolds k
none_before [] l p e = tt
none_before (number when b ∷ k) l p e = let h = first-none number b (k ++ l) p.0 e in (h.0, none_before k l p.1 h.1)

-- ---- two lists as one

-- a condition that does not hold makes no difference
first-insert : (number : ℕ) (b : Bool) (cs : List Condition) → b ≡ false → first (insert (number when b) cs) ≡ first cs
unfolding first insert
first-insert number b [] e = first_pass number b [] e
first-insert number b (other when c ∷ cs) e = pick (ltb other number) (first-insert number b cs e)
  where
    pick : (d : Bool) → first (insert (number when b) cs) ≡ first cs
        → first (cond d (other when c ∷ insert (number when b) cs) (number when b ∷ other when c ∷ cs)) ≡ first (other when c ∷ cs)
    pick true r = ap (cond c other) r
    pick false r = first_pass number b (other when c ∷ cs) e

-- so where none of the first list holds, the second decides
pub first-merge : (k l : List Condition) → NoneHolds k → first (merge k l) ≡ first l
unfolding merge
first-merge [] l h = refl
first-merge (number when b ∷ k) l h = first-insert number b (merge k l) h.0 ∙ first-merge k l h.1

-- number 0 comes before all others
zero-first : (cs : List Condition) → first (insert (0 when true) cs) ≡ 0
unfolding first insert
zero-first [] = refl
zero-first (other when c ∷ cs) = rw (at_least other 0 (omega arith))

-- where both give 0, so do they as one
pub merge_none : (k l : List Condition) → first k ≡ 0 → first l ≡ 0 → first (merge k l) ≡ 0
unfolding first merge
merge_none [] l e h = h
merge_none (number when true ∷ k) l e h = rw e (zero-first (merge k l))
merge_none (number when false ∷ k) l e h = first-insert number false (merge k l) refl ∙ merge_none k l e h
