-- Where the first k rows are independent, the choices that make k + 1 rows add to zero are multiples of each other, and none does without one of its rows.
use mathlib.Core.Path.{◌≡◌, refl, sym, ap, ◌∙◌}
use mathlib.Core.Bool.{not}
use mathlib.Core.Logic.{◌≢◌, ◌⊎◌, inl, inr}
use Prim.Native.Nat.{ℕ, suc, ◌+◌, ◌*◌, ◌%◌, ◌<◌, ◌≤◌}
use native.Mathlib.Nat.{eq-or-lt_of_le, le_of_suc-le-suc, mul-one, mul-zero}
use native.Mathlib.Decide.{dec_lt}
use native.Mathlib.Omega.{arith}
use borrow.Author.Tests.{ne_eqb}
use Rattle.linear_model.specs.Tables.{sum, one_at}
use Rattle.linear_model.proofs.Tables.{one_there, one_elsewhere}
use Rattle.linear_model.proofs.Sums.{sum_ext, sum_one, sum-zero, add_congr, mul_congr}
use Rattle.elimination_model.specs.Independence.{multiple, AddsToZero, Independent}
use Rattle.elimination_model.specs.Tie.{least_passing, nonzero_at, leading_digit}
use Rattle.elimination_model.proofs.Residues.{times_congr, times_zero, zero-times, factor-zero, square_one, cancel}
use Rattle.elimination_model.proofs.Multiples.{combined_plus, combined-times, substituted, combined-substituted}
use Rattle.elimination_model.proofs.Independence.{combined-one}
use Rattle.elimination_model.proofs.Least.{least_passes, least_before, least_at_most, nonzero_is, nonzero-not}

-- ---- choices that add to zero

-- a multiple of such a choice is one
pub adds_times : (n t : ℕ) (a : ℕ → ℕ → ℕ) (c : ℕ) (d : ℕ → ℕ) → AddsToZero n t a d → AddsToZero n t a (λ i. c * d i)
adds_times n t a c d z j l = ap (λ (x : ℕ). x % 3) (combined-times t c d a j) ∙ times_zero c (sum t (multiple a d j)) (z j l)

-- the sum of two is one
adds_plus : (n t : ℕ) (a : ℕ → ℕ → ℕ) (d e : ℕ → ℕ) → AddsToZero n t a d → AddsToZero n t a e → AddsToZero n t a (λ i. d i + e i)
adds_plus n t a d e z w j l =
    ap (λ (x : ℕ). x % 3) (combined_plus t d e a j)
    ∙ add_congr 3 (sum t (multiple a d j)) (sum t (multiple a e j)) 0 0 (z j l) (w j l)

-- a last digit 0 may be left out
adds_fewer : (n k : ℕ) (a : ℕ → ℕ → ℕ) (d : ℕ → ℕ) → AddsToZero n (suc k) a d → d k % 3 ≡ 0 → AddsToZero n k a d
unfolding sum
adds_fewer n k a d z h j l = omega (arith, z j l, zero-times (d k) (a k j) h)

-- ---- the first digit other than 0

-- among t digits it is 1
pub record Leading (t : ℕ) (d : ℕ → ℕ) : Type 0 where
  pub place : ℕ
  pub within : place < t
  pub one : d place % 3 ≡ 1
  pub before : (i : ℕ) → i < place → d i % 3 ≡ 0

-- digits that are not all 0, multiplied by the first other than 0, begin with 1
pub leading_multiple : (t : ℕ) (d : ℕ → ℕ) (i : ℕ) → i < t → d i % 3 ≢ 0 → Leading t (λ k. leading_digit t d * d k)
leading_multiple t d i l h =
    let first : ℕ = least_passing t (nonzero_at d) in
    let inside : first < t = omega (arith, least_at_most t (nonzero_at d) i (ap not (ne_eqb (d i % 3) 0 h))) in
    record {
      place = first;
      within = inside;
      one = square_one (d first) (nonzero_is d first (least_passes t (nonzero_at d) inside));
      before = λ k m. times_zero (d first) (d k) (nonzero-not d k (least_before t (nonzero_at d) k m));
    }

-- ---- the first k rows are independent

module _ (n k : ℕ) (a : ℕ → ℕ → ℕ) (free : Independent n k a) where
  -- a choice with last digit 0 is all 0
  pub all_zero : (d : ℕ → ℕ) → AddsToZero n (suc k) a d → d k % 3 ≡ 0 → (i : ℕ) → i < suc k → d i % 3 ≡ 0
  all_zero d z h i l = go (eq-or-lt_of_le (le_of_suc-le-suc l))
    where
      go : (i ≡ k) ⊎ (i < k) → d i % 3 ≡ 0
      go (inl e) = ap (λ (x : ℕ). d x % 3) e ∙ h
      go (inr m) = free d (adds_fewer n k a d z h) i m

  -- two choices are multiples of each other
  cross : (d e : ℕ → ℕ) → AddsToZero n (suc k) a d → AddsToZero n (suc k) a e → (i : ℕ) → i < suc k → d i * e k % 3 ≡ e i * d k % 3
  cross d e z w i l = omega (arith, all_zero both adds last i l)
    where
      both : ℕ → ℕ
      both i = e k * d i + 2 * d k * e i

      adds : AddsToZero n (suc k) a both
      adds =
          adds_plus n (suc k) a (λ i. e k * d i) (λ i. 2 * d k * e i) (adds_times n (suc k) a (e k) d z) (adds_times n (suc k) a (2 * d k) e w)

      last : both k % 3 ≡ 0
      last = omega arith

  -- without one of its rows a choice is all 0
  removed : (d e : ℕ → ℕ) → AddsToZero n (suc k) a d → AddsToZero n (suc k) a e → (i : ℕ) → i < suc k → d i % 3 ≢ 0 → e i % 3 ≡ 0
      → (m : ℕ) → m < suc k → e m % 3 ≡ 0
  removed d e z w i l h g =
      all_zero e w (factor-zero (d i) (e k) (cross d e z w i l ∙ zero-times (e i) (d k) g) h)

  -- neither of two choices begins before the other
  begins : (d e : ℕ → ℕ) → AddsToZero n (suc k) a d → AddsToZero n (suc k) a e → (x : Leading (suc k) d) (y : Leading (suc k) e)
      → x.place ≤ y.place
  begins d e z w x y = go (dec_lt y.place x.place)
    where
      go : Dec (y.place < x.place) → x.place ≤ y.place
      go (yes l) =
          absurd (omega (arith, x.one, removed e d w z y.place y.within (λ h. omega (arith, y.one)) (x.before y.place l) x.place x.within))
      go (no l) = omega arith

  -- two choices whose first digit other than 0 is 1 are the same
  pub unique : (d e : ℕ → ℕ) → AddsToZero n (suc k) a d → AddsToZero n (suc k) a e → Leading (suc k) d → Leading (suc k) e
      → (i : ℕ) → i < suc k → d i % 3 ≡ e i % 3
  unique d e z w x y i l = cancel (d i) (e i) (e k) (cross d e z w i l ∙ mul_congr 3 (e i) (d k) (e k) lasts) nonzero
    where
      nonzero : e k % 3 ≢ 0
      nonzero h = omega (arith, y.one, all_zero e w h y.place y.within)

      one : e x.place % 3 ≡ 1
      one = ap (λ (v : ℕ). e v % 3) (omega (arith, begins d e z w x y, begins e d w z y x)) ∙ y.one

      -- the digits at row k agree
      lasts : d k % 3 ≡ e k % 3
      lasts =
          omega (arith, cross d e z w x.place x.within, times_congr (d x.place) (e k) 1 (e k) x.one refl, times_congr (e x.place) (d k) 1 (d k) one refl)

  -- any of the k + 1 rows, each taken once, without one row of a choice, are independent
  pub minimal : (d : ℕ → ℕ) → AddsToZero n (suc k) a d → (i : ℕ) → i < suc k → d i % 3 ≢ 0
      → (count : ℕ) (taken : ℕ → ℕ) → ((m : ℕ) → m < count → taken m < suc k) → ((m : ℕ) → m < count → taken m ≢ i)
      → ((m m' : ℕ) → m < count → m' < count → taken m ≡ taken m' → m ≡ m')
      → Independent n count (λ m. a (taken m))
  minimal d z i l h count taken inside other once e w m u =
      sym (at m u) ∙ removed d spread z adds i l h none (taken m) (inside m u)
    where
      -- the digits at their rows, 0 at the others
      spread : ℕ → ℕ
      spread = substituted count e (λ m. one_at (taken m))

      at : (m : ℕ) → m < count → spread (taken m) % 3 ≡ e m % 3
      at m u =
          ap (λ (v : ℕ). v % 3)
          (sum_one count (λ m'. e m' * one_at (taken m') (taken m)) m u
          (λ m' u' v. ap (λ (y : ℕ). e m' * y) (one_elsewhere (taken m') (taken m) (λ q. v (once m' m u' u (sym q)))) ∙ mul-zero (e m'))
          ∙ ap (λ (y : ℕ). e m * y) (one_there (taken m)) ∙ mul-one (e m))

      none : spread i % 3 ≡ 0
      none =
          ap (λ (v : ℕ). v % 3)
          (sum-zero count (λ m. e m * one_at (taken m) i)
          (λ m u. ap (λ (y : ℕ). e m * y) (one_elsewhere (taken m) i (λ q. other m u (sym q))) ∙ mul-zero (e m)))

      adds : AddsToZero n (suc k) a spread
      adds j o =
          ap (λ (v : ℕ). v % 3)
          (sym (combined-substituted count (suc k) e (λ m. one_at (taken m)) a j)
          ∙ sum_ext count (multiple (λ m. λ c. sum (suc k) (multiple a (one_at (taken m)) c)) e j) (multiple (λ m. a (taken m)) e j)
          (λ m u. ap (λ (y : ℕ). e m * y) (combined-one (suc k) (taken m) a j (inside m u))))
          ∙ w j o
