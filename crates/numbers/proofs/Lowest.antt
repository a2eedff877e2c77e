-- Where the numbers of a list rise, the first whose condition holds is the lowest.
use Prim.Native.Nat.{ℕ, zero, suc, ◌≤◌, ◌<◌}
use mathlib.Core.Path.{◌≡◌, refl}
use mathlib.Core.Logic.{inl, inr, ⊎_elim}
use mathlib.Core.List.{List, [], ◌∷◌, ◌++◌}
use mathlib.Core.Bool.{Bool, true, false, cond}
use native.Mathlib.Omega.{arith}
use native.Mathlib.Nat.{le_refl, suc-ne-zero}
use lib.Dec.{ltb, ltb→lt}
use Rattle.numbers.specs.Number.{Condition, ◌when◌, first, insert, merge}
use Rattle.numbers.proofs.Numbers.{holds as is_set, is_at_least, Positive}
use Rattle.numbers.specs.Lowest.{Holds, Lowest, RisingFrom, Rising}

-- ---- lists that rise

-- what rises from n on rises from a lower number on
pub rising_from : (m n : ℕ) (cs : List Condition) → m ≤ n → RisingFrom n cs → RisingFrom m cs
rising_from m n [] h r = tt
rising_from m n (number when b ∷ cs) h r = (omega (arith, r.0), r.1)

-- no number is above m
abbrev pub UpTo : ℕ → List Condition → Type 0
UpTo m [] = Unit {0}
UpTo m (number when b ∷ cs) = (number ≤ m) × UpTo m cs

-- one that is at least all before it comes last
pub rising_last : (n k m : ℕ) (b : Bool) (cs : List Condition) → n ≤ m → k ≤ m → RisingFrom n cs → UpTo k cs → RisingFrom n (cs ++ m when b ∷ [])
rising_last n k m b [] h l r u = (h, tt)
rising_last n k m b (number when c ∷ cs) h l r u = (r.0, rising_last number k m b cs (omega (arith, u.0)) l r.1 u.1)

-- numbers that rise from above 0 on are above 0
pub rising_positive : (n : ℕ) (cs : List Condition) → 0 < n → RisingFrom n cs → Positive cs
rising_positive n [] h r = tt
rising_positive n (number when b ∷ cs) h r = (omega (arith, r.0), rising_positive number cs (omega (arith, r.0)) r.1)

-- a condition put among others
rising_insert : (n number : ℕ) (b : Bool) (cs : List Condition) → n ≤ number → RisingFrom n cs → RisingFrom n (insert (number when b) cs)
unfolding insert
rising_insert n number b [] h r = (h, tt)
rising_insert n number b (other when c ∷ cs) h r = pick (ltb other number) refl (λ l. rising_insert other number b cs l r.1)
  where
    pick : (d : Bool) → ltb other number ≡ d → (other ≤ number → RisingFrom other (insert (number when b) cs))
        → RisingFrom n (cond d (other when c ∷ insert (number when b) cs) (number when b ∷ other when c ∷ cs))
    pick true e s = (r.0, s (omega (arith, ltb→lt other number (is_set (ltb other number) e))))
    pick false e s = (h, (is_at_least other number e, r.1))

-- and two lists that rise as one
pub rising_merge : (n : ℕ) (k l : List Condition) → RisingFrom n k → RisingFrom n l → RisingFrom n (merge k l)
unfolding merge
rising_merge n [] l r s = s
rising_merge n (number when b ∷ k) l r s = rising_insert n number b (merge k l) r.0 (rising_merge n k l (rising_from n number k r.0 r.1) s)

-- ---- the lowest number

-- what holds in a list that rises from n on has at least that number
holds_from : (n m : ℕ) (cs : List Condition) → RisingFrom n cs → Holds m cs → n ≤ m
holds_from n m [] r h = absurd h
holds_from n m (number when b ∷ cs) r (inl h) = omega (arith, r.0, h.0)
holds_from n m (number when b ∷ cs) r (inr h) = omega (arith, r.0, holds_from number m cs r.1 h)

-- the first of a list that rises is the lowest
pub first-lowest : {cs : List Condition} → Rising cs → Lowest cs (first cs)
unfolding first
first-lowest {cs = []} r = record { holds = λ z. absurd (z refl); lowest = λ n h. absurd h }
first-lowest {cs = number when true ∷ cs} r =
    record {
      holds = λ z. inl (refl, tt);
      lowest = λ n h. ((λ z. omega (arith, r.0)), holds_from number n (number when true ∷ cs) (le_refl number, r.1) h);
    }
first-lowest {cs = number when false ∷ cs} r =
    let l = first-lowest {cs = cs} (rising_from 1 number cs r.0 r.1) in
    record { holds = λ z. inr (l.holds z); lowest = λ n. ⊎_elim (λ h. absurd h.1) (l.lowest n) }

-- a list has one lowest number
pub lowest_unique : (cs : List Condition) (m n : ℕ) → Lowest cs m → Lowest cs n → m ≡ n
lowest_unique cs zero zero l k = refl
lowest_unique cs zero (suc n) l k = absurd ((l.lowest (suc n) (k.holds (suc-ne-zero n))).0 refl)
lowest_unique cs (suc m) zero l k = absurd ((k.lowest (suc m) (l.holds (suc-ne-zero m))).0 refl)
lowest_unique cs (suc m) (suc n) l k =
    omega (arith, (l.lowest (suc n) (k.holds (suc-ne-zero n))).1, (k.lowest (suc m) (l.holds (suc-ne-zero m))).1)

-- of a list that falls the first is not the lowest
abbrev pub falling : List Condition
falling = 9 when true ∷ 8 when true ∷ []

pub falling-first : ¬ Lowest falling (first falling)
unfolding first
falling-first l = omega (arith, (l.lowest 8 (inr (inl (refl, tt)))).1)
