-- Laws of tests over the numbers below a bound that hold.
use mathlib.Core.Path.{◌≡◌, refl}
use mathlib.Core.Bool.{Bool, true, false, ◌&&◌, false≢true}
use Prim.Native.Nat.{ℕ, ◌<◌}
use Rattle.linear_model.specs.Tables.{every}
use Rattle.linear_model.proofs.Tables.{every-at, every_of}
use Rattle.numbers.proofs.Numbers.{is_true}

-- a test that holds at each place holds everywhere, and the other way round
pub every_true : (n : ℕ) (p : ℕ → Bool) → ((i : ℕ) → i < n → p i ≡ true) → every n p ≡ true
every_true n p h = is_true (every n p) (every_of n p (λ i l. rw (h i l) tt))

pub every_holds : (n : ℕ) (p : ℕ → Bool) → every n p ≡ true → (i : ℕ) → i < n → p i ≡ true
every_holds n p e i l = is_true (p i) (every-at n p (rw e tt) i l)

pub both_true : {a b : Bool} → a ≡ true → b ≡ true → (a && b) ≡ true
both_true p q = rw (p, q)

pub left_true : (a b : Bool) → (a && b) ≡ true → a ≡ true
left_true true b e = refl
left_true false b e = e

pub right_true : (a b : Bool) → (a && b) ≡ true → b ≡ true
right_true true b e = e
right_true false b e = absurd (false≢true e)
