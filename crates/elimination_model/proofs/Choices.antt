-- A search over all choices of digits finds one exactly if there is one, and then the first choice that passes is one.
use mathlib.Core.Path.{◌≡◌, refl, ap}
use mathlib.Core.List.{List, [], ◌∷◌}
use mathlib.Core.Bool.{Bool, true, false, cond, ◌||◌, true≢false}
use Prim.Native.Nat.{ℕ, zero, suc, ◌<◌}
use native.Mathlib.Omega.{arith}
use lib.Dec.{T, lit<}
use lib.ListN.{length}
use Rattle.elimination_model.specs.Independence.{some_choice, digit_of}
use Rattle.elimination_model.specs.Tie.{first_choice}

-- t digits, each 0, 1 or 2
pub record Choice (t : ℕ) (d : List ℕ) : Type 0 where
  pub size : length d ≡ t
  pub small : (i : ℕ) → digit_of d i < 3

-- a digit more, in front
longer : {x t : ℕ} {d : List ℕ} → x < 3 → Choice t d → Choice (suc t) (x ∷ d)
longer {x = x} {d = d} h c = record { size = ap suc c.size; small = at }
  where
    at : (i : ℕ) → digit_of (x ∷ d) i < 3
    at zero = h
    at (suc i) = c.small i

-- where a search passes, the first choice that passes is a choice, and passes
pub first_passes : (t : ℕ) (test : List ℕ → Bool) → T (some_choice t test) → Choice t (first_choice t test) × T (test (first_choice t test))
unfolding some_choice first_choice
first_passes zero test h = (record { size = refl; small = λ i. lit< tt }, h)
first_passes (suc t) test h =
    go (some_choice t (λ d. test (0 ∷ d))) (some_choice t (λ d. test (1 ∷ d))) (some_choice t (λ d. test (2 ∷ d))) h
    (first_passes t (λ d. test (0 ∷ d))) (first_passes t (λ d. test (1 ∷ d))) (first_passes t (λ d. test (2 ∷ d)))
  where
    rest : ℕ → List ℕ
    rest x = first_choice t (λ d. test (x ∷ d))

    found : ℕ → Type 0
    found x = Choice t (rest x) × T (test (x ∷ rest x))

    go : (x y z : Bool) → T (x || (y || z)) → (T x → found 0) → (T y → found 1) → (T z → found 2)
        → Choice (suc t) (cond x (0 ∷ rest 0) (cond y (1 ∷ rest 1) (cond z (2 ∷ rest 2) [])))
        × T (test (cond x (0 ∷ rest 0) (cond y (1 ∷ rest 1) (cond z (2 ∷ rest 2) []))))
    go true y z h f g k = let p = f tt in (longer (lit< tt) p.0, p.1)
    go false true z h f g k = let p = g tt in (longer (lit< tt) p.0, p.1)
    go false false true h f g k = let p = k tt in (longer (lit< tt) p.0, p.1)
    go false false false h f g k = absurd h

-- where a search fails, the first choice is empty
pub first-none : (t : ℕ) (test : List ℕ → Bool) → some_choice t test ≡ false → first_choice t test ≡ []
unfolding some_choice first_choice
first-none zero test e = refl
first-none (suc t) test e =
    go (some_choice t (λ d. test (0 ∷ d))) (some_choice t (λ d. test (1 ∷ d))) (some_choice t (λ d. test (2 ∷ d))) e
  where
    rest : ℕ → List ℕ
    rest x = first_choice t (λ d. test (x ∷ d))

    go : (x y z : Bool) → (x || (y || z)) ≡ false → cond x (0 ∷ rest 0) (cond y (1 ∷ rest 1) (cond z (2 ∷ rest 2) [])) ≡ []
    go true y z e = absurd (true≢false e)
    go false true z e = absurd (true≢false e)
    go false false true e = absurd (true≢false e)
    go false false false e = refl

-- one of two tests holds where the first does
or_left : (a b : Bool) → T a → T (a || b)
or_left true b t = tt
or_left false b t = absurd t

-- and where the second does
or_right : (a b : Bool) → T b → T (a || b)
or_right true b t = tt
or_right false b t = t

-- a digit fewer, in front
shorter : {x t : ℕ} {d : List ℕ} → Choice (suc t) (x ∷ d) → Choice t d
shorter c = record { size = omega (arith, c.size); small = λ i. c.small (suc i) }

-- a choice that passes is found
pub found_some : (t : ℕ) (test : List ℕ → Bool) (d : List ℕ) → Choice t d → T (test d) → T (some_choice t test)
unfolding some_choice
found_some zero test [] c h = h
found_some zero test (x ∷ d) c h = absurd (omega (arith, c.size))
found_some (suc t) test [] c h = absurd (omega (arith, c.size))
found_some (suc t) test (zero ∷ d) c h = or_left (some_choice t (λ d. test (0 ∷ d))) _ (found_some t (λ d. test (0 ∷ d)) d (shorter c) h)
found_some (suc t) test (suc zero ∷ d) c h =
    or_right (some_choice t (λ d. test (0 ∷ d))) _
    (or_left (some_choice t (λ d. test (1 ∷ d))) _ (found_some t (λ d. test (1 ∷ d)) d (shorter c) h))
found_some (suc t) test (suc (suc zero) ∷ d) c h =
    or_right (some_choice t (λ d. test (0 ∷ d))) _
    (or_right (some_choice t (λ d. test (1 ∷ d))) _ (found_some t (λ d. test (2 ∷ d)) d (shorter c) h))
found_some (suc t) test (suc (suc (suc x)) ∷ d) c h = absurd (omega (arith, c.small 0))
