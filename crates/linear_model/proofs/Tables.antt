-- Laws of `tabulate`, `below`, `one_at` and `every`, and tests that antt computes over all small numbers.
use mathlib.Core.Path.{◌≡◌, refl, sym, subst, ap}
use mathlib.Core.Bool.{Bool, true, false, ◌&&◌}
use mathlib.Core.List.{List, [], ◌∷◌}
use mathlib.Core.Logic.{◌≢◌, ⊎_elim}
use Prim.Native.Nat.{ℕ, zero, suc, ◌+◌, ◌<◌, ◌≤◌, suc-le-suc}
use native.Mathlib.Nat.{not-suc-le-zero, le_of_suc-le-suc, zero-lt-suc, le_step, le_refl, le-add_right, lt_of_lt_of_le, eq-or-lt_of_le}
use native.Mathlib.Numerals.{add-one}
use borrow.Author.Tests.{eq-eqb, ne_eqb, le-ltb}
use lib.Dec.{T, eqb, eqb→eq}
use lib.ListN.{length, get_or}
use Rattle.linear_model.specs.Tables.{tabulate, below, every, one_at}

-- ---- lists

-- a table of n entries has length n
pub length-tabulate : (n : ℕ) (f : ℕ → ℕ) → length (tabulate n f) ≡ n
unfolding tabulate
length-tabulate zero f = refl
length-tabulate (suc n) f = ap suc (length-tabulate n (λ i. f (suc i)))

-- entry i of a table is f i
pub get_d_tabulate : (n : ℕ) (f : ℕ → ℕ) (i : ℕ) → i < n → get_or (tabulate n f) i 0 ≡ f i
unfolding tabulate
get_d_tabulate zero f i h = absurd (not-suc-le-zero h)
get_d_tabulate (suc n) f zero h = refl
get_d_tabulate (suc n) f (suc i) h = get_d_tabulate n (λ k. f (suc k)) i (le_of_suc-le-suc h)

-- tables of functions that agree below n are equal
pub tabulate_ext : (n : ℕ) (f g : ℕ → ℕ) → ((i : ℕ) → i < n → f i ≡ g i) → tabulate n f ≡ tabulate n g
unfolding tabulate
tabulate_ext zero f g e = refl
tabulate_ext (suc n) f g e =
    rw (e 0 (zero-lt-suc n), tabulate_ext n (λ i. f (suc i)) (λ i. g (suc i)) (λ i h. e (suc i) (suc-le-suc h)))

-- a list is the table of its elements
pub tabulate_get_d : (s : List ℕ) → tabulate (length s) (λ i. get_or s i 0) ≡ s
unfolding tabulate
tabulate_get_d [] = refl
tabulate_get_d (x ∷ s) = ap {B = List ℕ} (λ r. x ∷ r) (tabulate_get_d s)

-- a table of numbers below a bound has such numbers at every place, also past its end
pub small-tabulate : (b n : ℕ) (f : ℕ → ℕ) → 0 < b → ((i : ℕ) → f i < b) → (i : ℕ) → get_or (tabulate n f) i 0 < b
unfolding tabulate
small-tabulate b zero f p h i = p
small-tabulate b (suc n) f p h zero = h 0
small-tabulate b (suc n) f p h (suc i) = small-tabulate b n (λ j. f (suc j)) p (λ j. h (suc j)) i

-- past t there is nothing below t
pub below_past : (t : ℕ) (f : ℕ → ℕ) (i : ℕ) → below t f (t + i) ≡ 0
below_past t f i = rw (le-ltb (t + i) t (le-add_right t i))

-- `one_at i` is 1 at i
pub one_there : (i : ℕ) → one_at i i ≡ 1
one_there i = rw (eq-eqb i i refl)

-- and 0 elsewhere
pub one_elsewhere : (i j : ℕ) → j ≢ i → one_at i j ≡ 0
one_elsewhere i j h = rw (ne_eqb i j (λ e. h (sym e)))

-- ---- tests

-- tests are equal where each follows from the other
pub bool_ext : (a b : Bool) → (T a → T b) → (T b → T a) → a ≡ b
bool_ext true true f g = refl
bool_ext false false f g = refl
bool_ext true false f g = absurd (f tt)
bool_ext false true f g = absurd (g tt)

pub and_left : (a b : Bool) → T (a && b) → T a
and_left true b t = tt
and_left false b t = t

pub and_right : (a b : Bool) → T (a && b) → T b
and_right true b t = t
and_right false b t = absurd t

pub and_both : (a b : Bool) → T a → T b → T (a && b)
and_both true b s t = t
and_both false b s t = s

-- a test that holds everywhere holds at each place
pub every-at : (n : ℕ) (p : ℕ → Bool) → T (every n p) → (i : ℕ) → i < n → T (p i)
unfolding every
every-at zero p t i h = absurd (not-suc-le-zero h)
every-at (suc n) p t i h =
    ⊎_elim (λ e. subst (λ (y : ℕ). T (p y)) (sym e) (and_right (every n p) (p n) t))
    (λ l. every-at n p (and_left (every n p) (p n) t) i l)
    (eq-or-lt_of_le (le_of_suc-le-suc h))

-- and a test that holds at each place holds everywhere
pub every_of : (n : ℕ) (p : ℕ → Bool) → ((i : ℕ) → i < n → T (p i)) → T (every n p)
unfolding every
every_of zero p h = tt
every_of (suc n) p h = and_both (every n p) (p n) (every_of n p (λ i l. h i (le_step l))) (h n (le_refl (suc n)))

-- one place more
pub every_more : (n : ℕ) (p : ℕ → Bool) → every (n + 1) p ≡ (every n p && p n)
unfolding every
every_more n p = rw add-one

-- tests that agree below n agree everywhere
pub every_ext : (n : ℕ) (p q : ℕ → Bool) → ((i : ℕ) → i < n → p i ≡ q i) → every n p ≡ every n q
unfolding every
every_ext zero p q e = refl
every_ext (suc n) p q e = rw (every_ext n p q (λ i l. e i (le_step l)), e n (le_refl (suc n)))

-- a test that fails before n fails below every larger bound
pub every_fails : (n k : ℕ) (test : ℕ → Bool) → n ≤ k → every n test ≡ false → false ≡ every k test
every_fails n k test l e =
    bool_ext false (every k test) (λ z. absurd z) (λ z. subst T e (every_of n test (λ j h. every-at k test z j (lt_of_lt_of_le h l))))

-- a test that fails at one place below n fails below n
pub every_fails_at : (n : ℕ) (test : ℕ → Bool) (i : ℕ) → i < n → test i ≡ false → false ≡ every n test
every_fails_at n test i l e = bool_ext false (every n test) (λ z. absurd z) (λ z. subst T e (every-at n test z i l))

-- two functions of numbers below n are equal where they compute to the same at all of them
pub same₁ : (n : ℕ) (f g : ℕ → ℕ) → T (every n (λ a. eqb (f a) (g a))) → (a : ℕ) → a < n → f a ≡ g a
same₁ n f g t a ha = eqb→eq (f a) (g a) (every-at n (λ x. eqb (f x) (g x)) t a ha)

pub same₂ : (n : ℕ) (f g : ℕ → ℕ → ℕ) → T (every n (λ a. every n (λ b. eqb (f a b) (g a b))))
    → (a b : ℕ) → a < n → b < n → f a b ≡ g a b
same₂ n f g t a b ha hb =
    same₁ n (f a) (g a) (every-at n (λ x. every n (λ y. eqb (f x y) (g x y))) t a ha) b hb

pub same₄ : (n : ℕ) (f g : ℕ → ℕ → ℕ → ℕ → ℕ)
    → T (every n (λ a. every n (λ b. every n (λ c. every n (λ d. eqb (f a b c d) (g a b c d))))))
    → (a b c d : ℕ) → a < n → b < n → c < n → d < n → f a b c d ≡ g a b c d
same₄ n f g t a b c d ha hb =
    same₂ n (f a b) (g a b)
    (every-at n (λ y. every n (λ z. every n (λ w. eqb (f a y z w) (g a y z w))))
    (every-at n (λ x. every n (λ y. every n (λ z. every n (λ w. eqb (f x y z w) (g x y z w))))) t a ha) b hb) c d
