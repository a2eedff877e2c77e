-- Laws of tests over the numbers below a bound, as iterators and loops make them.
use mathlib.Core.Path.{◌≡◌, refl, sym, ap, ◌∙◌}
use mathlib.Core.Bool.{Bool, true, false, ◌&&◌}
use Prim.Native.Nat.{ℕ, zero, suc, ◌+◌}
use native.Mathlib.Nat.{zero-add}
use native.Mathlib.Omega.{arith}
use borrow.Author.Tests.{ne_eqb}
use lib.Bits.{bit_or, or_zero_l, or_add_and, and_le_r}
use lib.Dec.{eqb, eqb-suc-zero}
use Rattle.std.specs.List.{list_all, range_with_len}
use Rattle.linear_model.specs.Tables.{every}
use Rattle.linear_model.proofs.Tables.{every_ext}

and_whole : (b : Bool) → b ≡ (b && true)
and_whole true = refl
and_whole false = refl

and_assoc : (a b c : Bool) → (a && b && c) ≡ (a && (b && c))
and_assoc true b c = refl
and_assoc false b c = refl

-- the tests below n + 1 are that at 0 and n tests after it
every_front : (n : ℕ) (p : ℕ → Bool) → every (suc n) p ≡ (p 0 && every n (λ k. p (k + 1)))
unfolding every
every_front zero p = and_whole (p 0)
every_front (suc n) p =
    let e : n + 1 ≡ suc n = omega arith in
    rw (every_front n p, e) (and_assoc (p 0) (every n (λ k. p (k + 1))) (p (suc n)))

-- an iterator's tests of n numbers from a on
all_places : (n a : ℕ) (p : ℕ → Bool) → list_all p (range_with_len a n) ≡ every n (λ k. p (a + k))
unfolding every
all_places zero a p = refl
all_places (suc n) a p =
    ap (λ (b : Bool). p a && b) (all_places n (a + 1) p ∙ every_ext n _ _ (λ k l. ap p (omega arith)))
    ∙ sym (every_front n (λ k. p (a + k)) ∙ ap (λ (k : ℕ). p k && every n (λ j. p (a + (j + 1)))) (omega arith))

-- and of those below n
pub all_below : (n : ℕ) (p : ℕ → Bool) → list_all p (range_with_len 0 n) ≡ every n p
all_below n p = all_places n 0 p ∙ every_ext n _ _ (λ k l. ap p (zero-add k))

-- `x | y` is 0 where both are
pub or-zero : (x y : ℕ) → eqb (bit_or x y) 0 ≡ (eqb x 0 && eqb y 0)
or-zero zero y = rw (or_zero_l y)
or-zero (suc x) y =
    ne_eqb (bit_or (suc x) y) 0 (λ (e : bit_or (suc x) y ≡ 0). omega (arith, or_add_and (suc x) y, and_le_r (suc x) y)) ∙ rw eqb-suc-zero
