-- Row operations keep what is tied, and rows with pivots are independent.
use mathlib.Core.Path.{◌≡◌, refl, sym, ap, ◌∙◌}
use mathlib.Core.Logic.{◌≢◌, ◌⊎◌, inl, inr}
use Prim.Native.Nat.{ℕ, zero, suc, ◌+◌, ◌*◌, ◌%◌, ◌<◌, ◌≤◌}
use native.Mathlib.Nat.{mod-mod, le_refl, eq-or-lt_of_le, le_of_suc-le-suc, mul-add, mul_assoc, mul_comm}
use native.Mathlib.Decide.{ℕ_discrete, dec_lt}
use native.Mathlib.Omega.{arith}
use Rattle.linear_model.specs.Tables.{sum, one_at}
use Rattle.linear_model.proofs.Tables.{one_there, one_elsewhere}
use Rattle.linear_model.proofs.Sums.{sum_one, sum_plus, sum_congr, add_congr, mul_congr}
use Rattle.elimination_model.specs.Independence.{multiple, combined, tied, Independent}
use Rattle.elimination_model.proofs.Residues.{times_congr, times_zero, zero-times, factor-zero}
use Rattle.elimination_model.proofs.Multiples.{sum-times_right, combined_plus, combined-times}
use Rattle.elimination_model.proofs.Independence.{combined-one, tied_same}

-- ---- pivots

-- a sum whose terms are 0 modulo 3 but for one
sum-one_third : (n : ℕ) (f : ℕ → ℕ) (m : ℕ) → m < n → ((j : ℕ) → j < n → j ≢ m → f j % 3 ≡ 0) → sum n f % 3 ≡ f m % 3
sum-one_third n f m l z =
    sum_congr 3 n f (λ i. f i % 3) (λ i _. sym (mod-mod (f i) 3))
    ∙ ap (λ (x : ℕ). x % 3) (sum_one n (λ i. f i % 3) m l z)
    ∙ mod-mod (f m) 3

-- row k < r is not 0 in column pivot k, and every later row of the t rows is
pub record Pivots (n t r : ℕ) (b : ℕ → ℕ → ℕ) (pivot : ℕ → ℕ) : Type 0 where
  pub within : (k : ℕ) → k < r → pivot k < n
  pub nonzero : (k : ℕ) → k < r → b k (pivot k) % 3 ≢ 0
  pub clear : (k i : ℕ) → k < r → k < i → i < t → b i (pivot k) % 3 ≡ 0

-- rows with pivots are independent: in the columns pivot 0, pivot 1, .. one digit after the other must be 0
pub pivots_independent : (n t r : ℕ) (b : ℕ → ℕ → ℕ) (pivot : ℕ → ℕ) → r ≤ t → Pivots n t r b pivot → Independent n r b
pivots_independent n t r b pivot h p d z i l = before (suc i) l i (le_refl (suc i))
  where
    next : (k : ℕ) → k < r → ((i : ℕ) → i < k → d i % 3 ≡ 0) → d k % 3 ≡ 0
    next k l f =
        factor-zero (b k (pivot k)) (d k)
        (ap (λ (x : ℕ). x % 3) (mul_comm (b k (pivot k)) (d k))
        ∙ sym (sum-one_third r (multiple b d (pivot k)) k l others)
        ∙ z (pivot k) (p.within k l))
        (p.nonzero k l)
      where
        others : (i : ℕ) → i < r → i ≢ k → multiple b d (pivot k) i % 3 ≡ 0
        others i m u = go (dec_lt i k)
          where
            go : Dec (i < k) → multiple b d (pivot k) i % 3 ≡ 0
            go (yes v) = zero-times (d i) (b i (pivot k)) (f i v)
            go (no v) = times_zero (d i) (b i (pivot k)) (p.clear k i l (omega arith) (omega arith))

    before : (k : ℕ) → k ≤ r → (i : ℕ) → i < k → d i % 3 ≡ 0
    before zero m i u = absurd (omega arith)
    before (suc k) m i u = go (before k (omega arith)) (eq-or-lt_of_le (le_of_suc-le-suc u))
      where
        go : ((i : ℕ) → i < k → d i % 3 ≡ 0) → (i ≡ k) ⊎ (i < k) → d i % 3 ≡ 0
        go f (inl e) = ap (λ (x : ℕ). d x % 3) e ∙ next k m f
        go f (inr v) = f i v

-- ---- row operations

-- b is a with c i times row r added to each row i of the t rows, row r itself left
pub record Added (n t r : ℕ) (c : ℕ → ℕ) (a b : ℕ → ℕ → ℕ) : Type 0 where
  pub own : c r % 3 ≡ 0
  pub is : (i j : ℕ) → i < t → j < n → b i j % 3 ≡ (a i j + c i * a r j) % 3

-- row r is as before
added-own : (n t r : ℕ) (c : ℕ → ℕ) (a b : ℕ → ℕ → ℕ) → Added n t r c a b → r < t → (j : ℕ) → j < n → b r j % 3 ≡ a r j % 3
added-own n t r c a b x l j k = x.is r j l k ∙ omega (arith, zero-times (c r) (a r j) x.own)

-- taking the multiples away again
added_back : (n t r : ℕ) (c : ℕ → ℕ) (a b : ℕ → ℕ → ℕ) → r < t → Added n t r c a b → Added n t r (λ i. 2 * c i) b a
added_back n t r c a b h x = record { own = times_zero 2 (c r) x.own; is = λ i j l k. back i j l k }
  where
    plain : (p q v w : ℕ) → v % 3 ≡ (p + q) % 3 → w % 3 ≡ 2 * q % 3 → p % 3 ≡ (v + w) % 3
    plain p q v w e f = sym (add_congr 3 v w (p + q) (2 * q) e f ∙ omega arith)

    back : (i j : ℕ) → i < t → j < n → a i j % 3 ≡ (b i j + 2 * c i * b r j) % 3
    back i j l k =
        plain (a i j) (c i * a r j) (b i j) (2 * c i * b r j) (x.is i j l k)
        (times_congr (2 * c i) (b r j) (2 * c i) (a r j) refl (added-own n t r c a b x h j k) ∙ ap (λ (v : ℕ). v % 3) (mul_assoc 2 (c i) (a r j)))

-- rows that were independent are so after it
added_independent : (n t r : ℕ) (c : ℕ → ℕ) (a b : ℕ → ℕ → ℕ) → r < t → Added n t r c a b → Independent n t a → Independent n t b
added_independent n t r c a b h x f d z i l = go (ℕ_discrete i r)
  where
    -- the digits on a: those on b, and for row r what was added of it besides
    extra : ℕ
    extra = sum t (λ i. d i * c i)

    e : ℕ → ℕ
    e i = d i + extra * one_at r i

    on_a : (j : ℕ) → sum t (multiple a e j) ≡ sum t (multiple a d j) + extra * a r j
    on_a j =
        combined_plus t d (λ i. extra * one_at r i) a j
        ∙ ap (λ (v : ℕ). sum t (multiple a d j) + v) (combined-times t extra (one_at r) a j ∙ ap (λ (v : ℕ). extra * v) (combined-one t r a j h))

    on_b : (j : ℕ) → j < n → combined t b d j ≡ (sum t (multiple a d j) + extra * a r j) % 3
    on_b j k =
        sum_congr 3 t (multiple b d j) (λ i. d i * a i j + d i * c i * a r j)
        (λ i l. mul_congr 3 (d i) (b i j) (a i j + c i * a r j) (x.is i j l k)
        ∙ ap (λ (v : ℕ). v % 3) (mul-add (d i) (a i j) (c i * a r j) ∙ ap (λ (v : ℕ). d i * a i j + v) (sym (mul_assoc (d i) (c i) (a r j)))))
        ∙ ap (λ (v : ℕ). v % 3)
        (sum_plus t (multiple a d j) (λ i. d i * c i * a r j) ∙ ap (λ (v : ℕ). sum t (multiple a d j) + v) (sum-times_right t (a r j) (λ i. d i * c i)))

    zero_e : (i : ℕ) → i < t → e i % 3 ≡ 0
    zero_e = f e (λ j k. ap (λ (v : ℕ). v % 3) (on_a j) ∙ sym (on_b j k) ∙ z j k)

    other : (i : ℕ) → i < t → i ≢ r → d i % 3 ≡ 0
    other i l u =
        let q : e i ≡ d i = ap (λ (v : ℕ). d i + extra * v) (one_elsewhere r i u) ∙ omega arith in
        ap (λ (v : ℕ). v % 3) (sym q) ∙ zero_e i l

    extra_zero : extra % 3 ≡ 0
    extra_zero =
        sum-one_third t (λ i. d i * c i) r h (λ i l u. zero-times (d i) (c i) (other i l u)) ∙ times_zero (d r) (c r) x.own

    go : Dec (i ≡ r) → d i % 3 ≡ 0
    go (no u) = other i l u
    go (yes u) =
        let q : e r ≡ d r + extra = ap (λ (v : ℕ). d r + extra * v) (one_there r) ∙ omega arith in
        let w : (d r + extra) % 3 ≡ 0 = ap (λ (v : ℕ). v % 3) (sym q) ∙ zero_e r h in
        ap (λ (v : ℕ). d v % 3) u ∙ omega (arith, extra_zero, w)

-- the rows are tied after it if they were
pub added-tied : (n t r : ℕ) (c : ℕ → ℕ) (a b : ℕ → ℕ → ℕ) → r < t → Added n t r c a b → tied n t a ≡ tied n t b
added-tied n t r c a b h x =
    tied_same n t n t a b (added_independent n t r c a b h x) (added_independent n t r (λ i. 2 * c i) b a h (added_back n t r c a b h x))
