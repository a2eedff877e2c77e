-- Sums of multiples of rows: equal terms, sums, multiples, and sums of sums.
use mathlib.Core.Path.{◌≡◌, refl, sym, ap, ◌∙◌}
use Prim.Native.Nat.{ℕ, zero, suc, ◌+◌, ◌*◌, ◌%◌, ◌<◌}
use native.Mathlib.Nat.{mul_comm, mul_assoc, mul-add, add-mul}
use native.Mathlib.Omega.{arith}
use Rattle.linear_model.specs.Tables.{sum}
use Rattle.linear_model.proofs.Sums.{sum_ext, sum_plus, sum-zero, sum_congr}
use Rattle.elimination_model.specs.Independence.{multiple, combined}
use Rattle.elimination_model.proofs.Residues.{times_congr}

-- ---- sums

-- a factor may be taken out of a sum
sum-times : (n : ℕ) (c : ℕ) (f : ℕ → ℕ) → sum n (λ i. c * f i) ≡ c * sum n f
unfolding sum
sum-times zero c f = omega arith
sum-times (suc n) c f = rw (sum-times n c f, mul-add)

-- the same with the factor behind
pub sum-times_right : (n : ℕ) (c : ℕ) (f : ℕ → ℕ) → sum n (λ i. f i * c) ≡ sum n f * c
sum-times_right n c f =
    sum_ext n (λ i. f i * c) (λ i. c * f i) (λ i _. mul_comm (f i) c) ∙ sum-times n c f ∙ mul_comm c (sum n f)

-- two sums may be exchanged
sum-exchange : (m n : ℕ) (f : ℕ → ℕ → ℕ) → sum m (λ i. sum n (f i)) ≡ sum n (λ j. sum m (λ i. f i j))
unfolding sum
sum-exchange zero n f = sym (sum-zero n (λ j. 0) (λ j _. refl))
sum-exchange (suc m) n f =
    ap (λ (x : ℕ). x + sum n (f m)) (sum-exchange m n f) ∙ sym (sum_plus n (λ j. sum m (λ i. f i j)) (f m))

-- ---- sums of multiples

-- digits and rows that agree modulo 3 have the same sum
pub combined_congr : (t : ℕ) (d e : ℕ → ℕ) (a b : ℕ → ℕ → ℕ) (j : ℕ)
    → ((i : ℕ) → i < t → d i % 3 ≡ e i % 3) → ((i : ℕ) → i < t → a i j % 3 ≡ b i j % 3) → combined t a d j ≡ combined t b e j
combined_congr t d e a b j p q =
    sum_congr 3 t (multiple a d j) (multiple b e j) (λ i l. times_congr (d i) (a i j) (e i) (b i j) (p i l) (q i l))

-- the sum of two choices gives the sum of what they give
pub combined_plus : (t : ℕ) (d e : ℕ → ℕ) (a : ℕ → ℕ → ℕ) (j : ℕ)
    → sum t (multiple a (λ i. d i + e i) j) ≡ sum t (multiple a d j) + sum t (multiple a e j)
combined_plus t d e a j =
    sum_ext t (multiple a (λ i. d i + e i) j) (λ i. multiple a d j i + multiple a e j i) (λ i _. add-mul (d i) (e i) (a i j))
    ∙ sum_plus t (multiple a d j) (multiple a e j)

-- a choice multiplied gives the multiple
pub combined-times : (t c : ℕ) (d : ℕ → ℕ) (a : ℕ → ℕ → ℕ) (j : ℕ) → sum t (multiple a (λ i. c * d i) j) ≡ c * sum t (multiple a d j)
combined-times t c d a j =
    sum_ext t (multiple a (λ i. c * d i) j) (λ i. c * multiple a d j i) (λ i _. mul_assoc c (d i) (a i j)) ∙ sum-times t c (multiple a d j)

-- the digits of a sum of t rows that are themselves sums of multiples, row i with the digits c i
abbrev pub substituted : ℕ → (ℕ → ℕ) → (ℕ → ℕ → ℕ) → ℕ → ℕ
substituted t d c k = sum t (λ i. d i * c i k)

-- a sum of sums of multiples is a sum of multiples
pub combined-substituted : (t u : ℕ) (d : ℕ → ℕ) (c a : ℕ → ℕ → ℕ) (j : ℕ)
    → sum t (multiple (λ i. λ k. sum u (multiple a (c i) k)) d j) ≡ sum u (multiple a (substituted t d c) j)
combined-substituted t u d c a j =
    sum_ext t (multiple (λ i. λ k. sum u (multiple a (c i) k)) d j) (λ i. sum u (λ k. d i * (c i k * a k j)))
    (λ i _. sym (sum-times u (d i) (multiple a (c i) j)))
    ∙ sum-exchange t u (λ i k. d i * (c i k * a k j))
    ∙ sum_ext u (λ k. sum t (λ i. d i * (c i k * a k j))) (multiple a (substituted t d c) j) (λ k _. column k)
  where
    column : (k : ℕ) → sum t (λ i. d i * (c i k * a k j)) ≡ sum t (λ i. d i * c i k) * a k j
    column k =
        sum_ext t (λ i. d i * (c i k * a k j)) (λ i. d i * c i k * a k j) (λ i _. sym (mul_assoc (d i) (c i k) (a k j)))
        ∙ sum-times_right t (a k j) (λ i. d i * c i k)
