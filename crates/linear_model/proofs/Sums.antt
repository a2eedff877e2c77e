-- Laws of sums, and of sums modulo m.
use mathlib.Core.Path.{◌≡◌, refl, sym, ap, ap₂, ◌∙◌}
use mathlib.Core.Logic.{◌≢◌, ◌⊎◌, inl, inr}
use Prim.Native.Nat.{ℕ, zero, suc, ◌+◌, ◌*◌, ◌%◌, ◌<◌}
use native.Mathlib.Nat.{add-zero, add_assoc, add-suc, add-mod, le_refl, le_step, mul_comm, mul-add, suc-mul, eq-or-lt_of_le, le_of_suc-le-suc}
use native.Mathlib.Numerals.{add-one}
use native.Mathlib.Omega.{arith}
use lib.Bits.{bit_xor}
use Rattle.linear_model.specs.Tables.{sum}
use Rattle.linear_model.proofs.NumberBits.{xor_bits}

-- ---- parts of a sum

-- one term more
pub sum_more : (n : ℕ) (f : ℕ → ℕ) → sum (n + 1) f ≡ sum n f + f n
unfolding sum
sum_more n f = rw add-one

-- a sum of m + k terms in two parts
pub sum_split : (m k : ℕ) (f : ℕ → ℕ) → sum (m + k) f ≡ sum m f + sum k (λ i. f (m + i))
unfolding sum
sum_split m zero f = simp add-zero
sum_split m (suc k) f = rw (add-suc, sum_split m k f, add_assoc)

-- a sum from its first term on
pub sum-front : (n : ℕ) (f : ℕ → ℕ) → sum (suc n) f ≡ f 0 + sum n (λ i. f (suc i))
unfolding sum
sum-front zero f = omega arith
sum-front (suc n) f = rw (sum-front n f, add_assoc)

-- sums of terms that agree are equal
pub sum_ext : (n : ℕ) (f g : ℕ → ℕ) → ((i : ℕ) → i < n → f i ≡ g i) → sum n f ≡ sum n g
unfolding sum
sum_ext zero f g e = refl
sum_ext (suc n) f g e = ap₂ ◌+◌ (sum_ext n f g (λ i h. e i (omega arith))) (e n (le_refl (suc n)))

-- the sum of two terms at each place is the sum of two sums
pub sum_plus : (n : ℕ) (f g : ℕ → ℕ) → sum n (λ i. f i + g i) ≡ sum n f + sum n g
unfolding sum
sum_plus zero f g = refl
sum_plus (suc n) f g = omega (arith, sum_plus n f g)

-- terms that are 0 add nothing
pub sum_zeros : (m k : ℕ) (f : ℕ → ℕ) → ((i : ℕ) → f (m + i) ≡ 0) → sum (m + k) f ≡ sum m f
unfolding sum
sum_zeros m zero f e = rw add-zero
sum_zeros m (suc k) f e = rw (add-suc, sum_zeros m k f e, e k, add-zero)

-- a sum is 0 where each term is, and only there
pub sum-zero : (n : ℕ) (f : ℕ → ℕ) → ((j : ℕ) → j < n → f j ≡ 0) → sum n f ≡ 0
unfolding sum
sum-zero zero f p = refl
sum-zero (suc n) f p = omega (arith, sum-zero n f (λ j l. p j (le_step l)), p n (omega arith))

pub term_zero : (n : ℕ) (f : ℕ → ℕ) → sum n f ≡ 0 → (j : ℕ) → j < n → f j ≡ 0
unfolding sum
term_zero zero f e j l = omega arith
term_zero (suc n) f e j l = pick (term_zero n f (omega arith) j) (eq-or-lt_of_le (le_of_suc-le-suc l))
  where
    pick : (j < n → f j ≡ 0) → (j ≡ n) ⊎ (j < n) → f j ≡ 0
    pick r (inl p) = ap f p ∙ omega arith
    pick r (inr k) = r k

-- a sum whose terms are 0 but for one
pub sum_one : (n : ℕ) (f : ℕ → ℕ) (m : ℕ) → m < n → ((j : ℕ) → j < n → j ≢ m → f j ≡ 0) → sum n f ≡ f m
unfolding sum
sum_one zero f m l z = absurd (omega arith)
sum_one (suc n) f m l z = pick (λ k. sum_one n f m k (λ j i. z j (le_step i))) (eq-or-lt_of_le (le_of_suc-le-suc l))
  where
    pick : (m < n → sum n f ≡ f m) → (m ≡ n) ⊎ (m < n) → sum n f + f n ≡ f m
    pick r (inl e) = rw e (omega (arith, sum-zero n f (λ j i. z j (le_step i) (omega arith))))
    pick r (inr k) = omega (arith, r k, z n (omega arith) (omega arith))

-- ---- remainders

-- a sum of remainders may be taken before or after
pub add_congr : (m a b c d : ℕ) → a % m ≡ c % m → b % m ≡ d % m → (a + b) % m ≡ (c + d) % m
add_congr m a b c d p q = add-mod a b m ∙ ap₂ (λ (x y : ℕ). (x + y) % m) p q ∙ sym (add-mod c d m)

pub mul_congr : (m e a b : ℕ) → a % m ≡ b % m → (e * a) % m ≡ (e * b) % m
mul_congr m zero a b p = ap (λ (x : ℕ). x % m) (omega arith)
mul_congr m (suc e) a b p =
    ap (λ (x : ℕ). x % m) (suc-mul e a) ∙ add_congr m (e * a) a (e * b) b (mul_congr m e a b p) p ∙ ap (λ (x : ℕ). x % m) (sym (suc-mul e b))

-- terms that agree modulo m have sums that do
pub sum_congr : (m n : ℕ) (f g : ℕ → ℕ) → ((j : ℕ) → j < n → f j % m ≡ g j % m) → sum n f % m ≡ sum n g % m
unfolding sum
sum_congr m zero f g e = refl
sum_congr m (suc n) f g e = add_congr m (sum n f) (f n) (sum n g) (g n) (sum_congr m n f g (λ j l. e j (le_step l))) (e n (omega arith))

-- what adds term by term adds in the sum
pub sum_add : (m n : ℕ) (f g h : ℕ → ℕ) → ((j : ℕ) → j < n → (f j + g j) % m ≡ h j % m) → (sum n f + sum n g) % m ≡ sum n h % m
unfolding sum
sum_add m zero f g h p = refl
sum_add m (suc n) f g h p =
    ap (λ (x : ℕ). x % m) (swap (sum n f) (f n) (sum n g) (g n))
    ∙ add_congr m (sum n f + sum n g) (f n + g n) (sum n h) (h n) (sum_add m n f g h (λ j l. p j (le_step l))) (p n (omega arith))
  where
    swap : (a b c d : ℕ) → (a + b) + (c + d) ≡ (a + c) + (b + d)
    swap a b c d = omega arith

-- what adds, adds when multiplied
pub scale : (m e a b c : ℕ) → (a + b) % m ≡ c % m → (e * a + e * b) % m ≡ (e * c) % m
scale m e a b c p = ap (λ (x : ℕ). x % m) (sym (mul-add e a b)) ∙ mul_congr m e (a + b) c p

-- a row times what adds, adds, on either side
pub dot_add : (m n : ℕ) (e f g h : ℕ → ℕ) → ((j : ℕ) → j < n → (f j + g j) % m ≡ h j % m)
    → (sum n (λ j. e j * f j) + sum n (λ j. e j * g j)) % m ≡ sum n (λ j. e j * h j) % m
dot_add m n e f g h p = sum_add m n (λ j. e j * f j) (λ j. e j * g j) (λ j. e j * h j) (λ j l. scale m (e j) (f j) (g j) (h j) (p j l))

pub dot_add_left : (m n : ℕ) (e f g h : ℕ → ℕ) → ((j : ℕ) → j < n → (f j + g j) % m ≡ h j % m)
    → (sum n (λ j. f j * e j) + sum n (λ j. g j * e j)) % m ≡ sum n (λ j. h j * e j) % m
dot_add_left m n e f g h p =
    ap₂ (λ (x y : ℕ). (x + y) % m) (flip f) (flip g) ∙ dot_add m n e f g h p ∙ ap (λ (x : ℕ). x % m) (sym (flip h))
  where
    flip : (f : ℕ → ℕ) → sum n (λ j. f j * e j) ≡ sum n (λ j. e j * f j)
    flip f = sum_ext n (λ j. f j * e j) (λ j. e j * f j) (λ j l. mul_comm (f j) (e j))

-- exclusive or adds modulo 2
pub xor_sums : (x y s t : ℕ) → x ≡ s % 2 → y ≡ t % 2 → bit_xor x y ≡ (s + t) % 2
xor_sums x y s t p q = xor_bits x y (omega arith) (omega arith) ∙ rw (p, q, ← add-mod)
