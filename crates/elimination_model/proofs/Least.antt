-- Laws of the least number that passes a test, and of the test for a digit other than 0.
use mathlib.Core.Path.{◌≡◌, refl, sym, ap, ◌∙◌}
use mathlib.Core.Bool.{Bool, true, false, cond, not, true≢false}
use mathlib.Core.Logic.{◌≢◌}
use Prim.Native.Nat.{ℕ, zero, suc, ◌%◌, ◌<◌, ◌≤◌}
use native.Mathlib.Decide.{dec_lt}
use native.Mathlib.Omega.{arith}
use borrow.Author.Tests.{eq-eqb, ne_eqb, eqb-true, not-false}
use lib.Dec.{eqb}
use Rattle.elimination_model.specs.Tie.{least_passing, nonzero_at}

-- it is at most the bound
pub least_within : (n : ℕ) (test : ℕ → Bool) → least_passing n test ≤ n
unfolding least_passing
least_within zero test = omega arith
least_within (suc n) test = go (test 0) (least_within n (λ i. test (suc i)))
  where
    go : (b : Bool) → least_passing n (λ i. test (suc i)) ≤ n → cond b 0 (suc (least_passing n (λ i. test (suc i)))) ≤ suc n
    go true h = omega arith
    go false h = omega arith

-- below the bound, it passes
pub least_passes : (n : ℕ) (test : ℕ → Bool) → least_passing n test < n → test (least_passing n test) ≡ true
unfolding least_passing
least_passes zero test h = absurd (omega arith)
least_passes (suc n) test h = go (test 0) refl (least_passes n (λ i. test (suc i))) h
  where
    go : (b : Bool) → test 0 ≡ b
        → (least_passing n (λ i. test (suc i)) < n → test (suc (least_passing n (λ i. test (suc i)))) ≡ true)
        → cond b 0 (suc (least_passing n (λ i. test (suc i)))) < suc n
        → test (cond b 0 (suc (least_passing n (λ i. test (suc i))))) ≡ true
    go true e f l = e
    go false e f l = f (omega arith)

-- no number before it passes
pub least_before : (n : ℕ) (test : ℕ → Bool) (i : ℕ) → i < least_passing n test → test i ≡ false
unfolding least_passing
least_before zero test i h = absurd (omega arith)
least_before (suc n) test i h = go (test 0) refl i (least_before n (λ k. test (suc k))) h
  where
    go : (b : Bool) → test 0 ≡ b → (i : ℕ)
        → ((k : ℕ) → k < least_passing n (λ i. test (suc i)) → test (suc k) ≡ false)
        → i < cond b 0 (suc (least_passing n (λ i. test (suc i)))) → test i ≡ false
    go true e i f l = absurd (omega arith)
    go false e zero f l = e
    go false e (suc i) f l = f i (omega arith)

-- it is at most every number that passes
pub least_at_most : (n : ℕ) (test : ℕ → Bool) (i : ℕ) → test i ≡ true → least_passing n test ≤ i
least_at_most n test i e = go (dec_lt i (least_passing n test))
  where
    go : Dec (i < least_passing n test) → least_passing n test ≤ i
    go (yes l) = absurd (true≢false (sym e ∙ least_before n test i l))
    go (no l) = omega arith

-- a number that passes after numbers that do not is the least
least_is : (n : ℕ) (test : ℕ → Bool) (k : ℕ) → k < n → test k ≡ true → ((i : ℕ) → i < k → test i ≡ false) → least_passing n test ≡ k
least_is n test k l e before = go (dec_lt (least_passing n test) k)
  where
    most : least_passing n test ≤ k
    most = least_at_most n test k e

    go : Dec (least_passing n test < k) → least_passing n test ≡ k
    go (yes m) = absurd (true≢false (sym (least_passes n test (omega (arith, most))) ∙ before (least_passing n test) m))
    go (no m) = omega (arith, most)

-- ---- digits

-- a digit other than 0 after digits that are 0 is the first
pub leading_is : (n : ℕ) (d : ℕ → ℕ) (k : ℕ) → k < n → d k % 3 ≢ 0 → ((i : ℕ) → i < k → d i % 3 ≡ 0) → least_passing n (nonzero_at d) ≡ k
leading_is n d k l h z =
    least_is n (nonzero_at d) k l (ap not (ne_eqb (d k % 3) 0 h)) (λ i m. ap not (eq-eqb (d i % 3) 0 (z i m)))

-- a digit that passes is not 0
pub nonzero_is : (d : ℕ → ℕ) (i : ℕ) → nonzero_at d i ≡ true → d i % 3 ≢ 0
nonzero_is d i e z = true≢false (sym e ∙ ap not (eq-eqb (d i % 3) 0 z))

-- a digit that does not pass is 0
pub nonzero-not : (d : ℕ → ℕ) (i : ℕ) → nonzero_at d i ≡ false → d i % 3 ≡ 0
nonzero-not d i e = eqb-true (d i % 3) 0 (not-false (eqb (d i % 3) 0) e)
