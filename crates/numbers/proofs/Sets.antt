-- Laws of sets: what holds of each, and the number of a call that names one.
use Prim.Native.Nat.{ℕ}
use mathlib.Core.Path.{◌≡◌, refl, sym, ap, subst, ◌∙◌}
use mathlib.Core.List.{List}
use mathlib.Core.Bool.{Bool, true, false, cond, ◌||◌, false≢true}
use borrow.Author.Tests.{ne_eqb}
use lib.Dec.{eqb, eqb→eq}
use Rattle.numbers.specs.Number.{Condition, first, output, reported}
use Rattle.numbers.specs.Lowest.{Rising}
use Rattle.numbers.proofs.Numbers.{holds}
use Rattle.numbers.proofs.Lowest.{first-lowest}
use Rattle.numbers.specs.Sets.{is_set, counted, number_in, LowestIn}

-- what holds of sets 1, 2 and 3
pub each : (P : ℕ → Type 0) → P 1 → P 2 → P 3 → (set : ℕ) → is_set set ≡ true → P set
each P one two three set e = pick (eqb set 1) refl (eqb set 2) refl (eqb set 3) refl e
  where
    at : (k : ℕ) → eqb set k ≡ true → P k → P set
    at k h p = subst P (sym (eqb→eq set k (holds (eqb set k) h))) p

    pick : (a : Bool) → eqb set 1 ≡ a → (b : Bool) → eqb set 2 ≡ b → (c : Bool) → eqb set 3 ≡ c → (a || (b || c)) ≡ true → P set
    pick true h b i c j e = at 1 h one
    pick false h true i c j e = at 2 i two
    pick false h false i true j e = at 3 j three
    pick false h false i false j e = absurd (false≢true e)

-- a number that is none of them
pub no_set : (set : ℕ) → (set ≡ 1 → ⊥) → (set ≡ 2 → ⊥) → (set ≡ 3 → ⊥) → is_set set ≡ false
no_set set a b c = rw (ne_eqb set 1 a, ne_eqb set 2 b, ne_eqb set 3 c)

-- what a state counts as is a set, and a set counts as itself
pub counted-set : (set : ℕ) → is_set (counted set) ≡ true
counted-set set = pick (is_set set) refl
  where
    pick : (b : Bool) → is_set set ≡ b → is_set (cond b set 1) ≡ true
    pick true e = e
    pick false e = refl

pub counted_is : (set : ℕ) → is_set set ≡ true → counted set ≡ set
counted_is set e = rw e

-- and no other number does
pub own-number : (set : ℕ) → counted set ≡ set → is_set set ≡ true
own-number set e = subst (λ (n : ℕ). is_set n ≡ true) e (counted-set set)

pub other-number : (set : ℕ) → (counted set ≡ set → ⊥) → is_set set ≡ false
other-number set h = pick (is_set set) refl
  where
    pick : (b : Bool) → is_set set ≡ b → b ≡ false
    pick true e = absurd (h (counted_is set e))
    pick false e = refl

-- what is neither 2 nor 3 counts as 1
pub counted-other : (set : ℕ) → (set ≡ 2 → ⊥) → (set ≡ 3 → ⊥) → counted set ≡ 1
counted-other set a b = rw (ne_eqb set 2 a, ne_eqb set 3 b) (pick (eqb set 1) refl)
  where
    pick : (c : Bool) → eqb set 1 ≡ c → cond (c || (false || false)) set 1 ≡ 1
    pick true e = eqb→eq set 1 (holds (eqb set 1) e)
    pick false e = refl

module _ (set : ℕ) (cs : List Condition) where
  -- of a set, all other conditions decide
  pub number_in_lem : is_set set ≡ true → number_in set cs ≡ first cs
  unfolding number_in first
  number_in_lem e = rw e

  -- and of none 14
  pub number-none : is_set set ≡ false → number_in set cs ≡ 14
  unfolding number_in first
  number-none e = rw e

  pub lowest_in : Rising cs → LowestIn set cs (number_in set cs)
  lowest_in r = record { none = number-none; lowest = λ e. rw (number_in_lem e) (first-lowest r) }

-- ---- calls that name a set, by what is called with the numbers x that are the set's

module _ (set : ℕ) (i : is_set set ≡ true) {A : Type 0} {x y : A} (e : x ≡ y) (cs : A → List Condition) where
  pub number_of : {r : ℕ} → r ≡ first (cs x) → r ≡ number_in set (cs y)
  number_of h = h ∙ ap (λ (z : A). first (cs z)) e ∙ sym (number_in_lem set (cs y) i)

  module _ (bytes : A → List ℕ) (old : List ℕ) {r : ℕ} {new : List ℕ} where
    -- with an output slice
    pub called_in : (r ≡ first (cs x)) × (new ≡ output r (bytes x) old) → (r ≡ number_in set (cs y)) × (new ≡ output r (bytes y) old)
    called_in h = (number_of h.0, h.1 ∙ ap (λ (z : A). output r (bytes z) old) e)

    -- and a count
    pub reported_in : (count : A → ℕ) {m : ℕ} → (r ≡ first (cs x)) × ((m ≡ reported r (count x)) × (new ≡ output r (bytes x) old))
        → (r ≡ number_in set (cs y)) × ((m ≡ reported r (count y)) × (new ≡ output r (bytes y) old))
    reported_in count h =
        let all = called_in (h.0, h.1.1) in
        (all.0, (h.1.0 ∙ ap (λ (z : A). reported r (count z)) e, all.1))

-- where there is no such set
module _ (set : ℕ) (i : is_set set ≡ false) (cs : List Condition) (bytes old : List ℕ) where
  pub called_none : (14 ≡ number_in set cs) × (old ≡ output 14 bytes old)
  unfolding output
  called_none = (sym (number-none set cs i), refl)

  pub reported-none : (count : ℕ) {r m : ℕ} → (r ≡ 14) × (m ≡ 0) → (r ≡ number_in set cs) × ((m ≡ reported r count) × (old ≡ output r bytes old))
  unfolding output reported
  reported-none count h = (h.0 ∙ called_none.0, (h.1 ∙ rw h.0, rw h.0))
