-- Products are linear, and the two inner shares add to the inner vector.
use mathlib.Core.Path.{◌≡◌, refl, ap, ◌∙◌}
use mathlib.Core.List.{List}
use mathlib.Core.Bool.{Bool, true, false, cond}
use Prim.Native.Nat.{ℕ, zero, suc, ◌+◌, ◌-◌, ◌*◌, ◌/◌, ◌%◌, ◌<◌, ◌≤◌}
use native.Mathlib.Nat.{mod-lt, mod-add-mod, add-mod-mod}
use native.Mathlib.Omega.{arith}
use lib.Arith.{digits_mod}
use lib.Dec.{T, ltb, lit<}
use Rattle.linear_model.specs.Tables.{sum, below}
use Rattle.linear_model.specs.Bits.{Bytes, bit, sum_bit, add_bits}
use Rattle.linear_model.specs.Trits.{trit, fit_trits, sum_trit, add_trits, inner_trit, inner_share}
use Rattle.linear_model.specs.Products.{bit_term, bit_row, bit_product, circulant, circulant_product, Bilinear, trit_term, rows_from, row_digit, matrix_product}
use Rattle.linear_model.proofs.Sums.{dot_add, dot_add_left}
use Rattle.linear_model.proofs.Strings.{bit_lt, bit_add, bit-pack, bytes_pack, pack_ext}
use Rattle.linear_model.proofs.Vectors.{trit-pack, pack_trits_ext, bytes_pack_trits, fit_pack}

-- ---- modulo 2

module _ (m n : ℕ) (matrix : ℕ → ℕ → ℕ) where
  pub bit_product_lem : (x : List ℕ) (i : ℕ) → i < 8 * m → bit (bit_product m n matrix x) i ≡ bit_row n matrix x i
  unfolding bit_product
  bit_product_lem x = bit-pack m (bit_row n matrix x) (λ i. omega arith)

  pub bytes_product : (x : List ℕ) → Bytes m (bit_product m n matrix x)
  unfolding bit_product
  bytes_product x = bytes_pack m (bit_row n matrix x) (λ i. omega arith)

-- The product of a key's matrix and x is linear in x, and in the key where the matrix is.
module _ (m n : ℕ) (matrix : List ℕ → ℕ → ℕ → ℕ)
    (additive : (a b : List ℕ) (i j : ℕ) → i < 8 * m → j < 8 * n → (matrix a i j + matrix b i j) % 2 ≡ matrix (add_bits n a b) i j % 2) where
  -- a product is the sum of two where its rows are
  by_rows : (k x k₁ x₁ k₂ x₂ : List ℕ)
      → ((i : ℕ) → i < 8 * m → (sum (8 * n) (bit_term (matrix k₁) x₁ i) + sum (8 * n) (bit_term (matrix k₂) x₂ i)) % 2 ≡ bit_row n (matrix k) x i)
      → bit_product m n (matrix k) x ≡ add_bits m (bit_product m n (matrix k₁) x₁) (bit_product m n (matrix k₂) x₂)
  unfolding bit_product add_bits
  by_rows k x k₁ x₁ k₂ x₂ h =
      pack_ext m (bit_row n (matrix k) x) (sum_bit (bit_product m n (matrix k₁) x₁) (bit_product m n (matrix k₂) x₂))
      (λ i l. omega (arith, h i l, bit_product_lem m n (matrix k₁) x₁ i l, bit_product_lem m n (matrix k₂) x₂ i l))

  pub bilinear : Bilinear m n (λ key x. bit_product m n (matrix key) x)
  bilinear =
      record {
        left =
            λ a b x. by_rows (add_bits n a b) x a x b x
            (λ i l. dot_add_left 2 (8 * n) (bit x) (matrix a i) (matrix b i) (matrix (add_bits n a b) i) (λ j r. additive a b i j l r));
        right =
            λ a x y. by_rows a (add_bits n x y) a x a y
            (λ i l. dot_add 2 (8 * n) (matrix a i) (bit x) (bit y) (bit (add_bits n x y)) (λ j r. rw (bit_add n x y j r) (omega arith)));
      }

-- the circulant product is linear in the key and in the label
pub circulant_bilinear : (n : ℕ) → Bilinear n n (circulant_product n)
circulant_bilinear n =
    bilinear n n (circulant n)
    (λ a b i j l r. rw (bit_add n a b ((j + 8 * n - i) % (8 * n)) (mod-lt (j + 8 * n - i) (omega arith))) (omega arith))

-- ---- modulo 3

-- a digit below t, and 0 from there on
below_lt : (b : Bool) (x : ℕ) → cond b (x % 3) 0 < 3
below_lt true x = omega arith
below_lt false x = omega arith

pub digit-below : (t m : ℕ) (rows v : List ℕ) (i : ℕ) → below t (row_digit m rows v) i < 3
digit-below t m rows v i = below_lt (ltb i t) _

-- what adds below t adds as a whole
below_add : (b : Bool) (x y z : ℕ) → (x + y) % 3 ≡ z % 3 → (cond b (x % 3) 0 + cond b (y % 3) 0) % 3 ≡ cond b (z % 3) 0
below_add true x y z e = simp (mod-add-mod, add-mod-mod) e
below_add false x y z e = refl

module _ (p m t : ℕ) (rows : List ℕ) where
  pub trit-matrix : (v : List ℕ) (i : ℕ) → i < 8 * p → trit p (matrix_product p m t rows v) i ≡ below t (row_digit m rows v) i
  unfolding matrix_product
  trit-matrix v = trit-pack p (below t (row_digit m rows v)) (λ i. omega (arith, digit-below t m rows v i))

  pub bytes_matrix : (v : List ℕ) → Bytes (p + p) (matrix_product p m t rows v)
  unfolding matrix_product
  bytes_matrix v = bytes_pack_trits p (below t (row_digit m rows v)) (λ i. omega (arith, digit-below t m rows v i))

  pub fit_matrix : (k : ℕ) (v : List ℕ) → k ≤ 8 * p → T (fit_trits p k (matrix_product p m t rows v))
  unfolding matrix_product
  fit_matrix k v = fit_pack p k (below t (row_digit m rows v)) (digit-below t m rows v)

  -- rows times what adds modulo 3, adds
  pub matrix_add : (u v w : List ℕ) → ((j : ℕ) → j < 8 * m → (trit m u j + trit m v j) % 3 ≡ trit m w j % 3)
      → add_trits p (matrix_product p m t rows u) (matrix_product p m t rows v) ≡ matrix_product p m t rows w
  unfolding add_trits matrix_product
  matrix_add u v w h =
      pack_trits_ext p (sum_trit p (matrix_product p m t rows u) (matrix_product p m t rows v)) (below t (row_digit m rows w))
      (λ i l. rw (trit-matrix u i l, trit-matrix v i l)
      (below_add (ltb i t) (sum (8 * m) (trit_term m (rows_from m rows i) u)) (sum (8 * m) (trit_term m (rows_from m rows i) v)) (sum (8 * m) (trit_term m (rows_from m rows i) w))
      (dot_add 3 (8 * m) (trit m (rows_from m rows i)) (trit m u) (trit m v) (trit m w) h)))

-- ---- the conversion of shares

-- digit by digit: h is w + c modulo 2, and a + b is c modulo 3
convert : (w c h a b : ℕ) → w < 2 → c < 2 → h ≡ (w + c) % 2 → (a + b) % 3 ≡ c → ((a + h * a + h) % 3 + (b + h * b + 0) % 3) % 3 ≡ w
convert w c h a b hw hc e p = rw e (simp (mod-add-mod, add-mod-mod) (go w c hw hc p))
  where
    go : (w c : ℕ) → w < 2 → c < 2 → (a + b) % 3 ≡ c → (a + (w + c) % 2 * a + (w + c) % 2 + (b + (w + c) % 2 * b + 0)) % 3 ≡ w
    go zero zero hw hc p = omega arith
    go zero (suc zero) hw hc p = ap (λ (x : ℕ). x % 3) (omega arith) ∙ digits_mod (2 * ((a + b) / 3) + 1) (lit< tt)
    go (suc zero) zero hw hc p = ap (λ (x : ℕ). x % 3) (omega arith) ∙ digits_mod (2 * ((a + b) / 3)) (lit< tt)
    go (suc zero) (suc zero) hw hc p = omega arith
    go zero (suc (suc c)) hw hc p = absurd (omega arith)
    go (suc zero) (suc (suc c)) hw hc p = absurd (omega arith)
    go (suc (suc w)) c hw hc p = absurd (omega arith)

module _ (m : ℕ) where
  pub trit-inner : (side : ℕ) (w r : List ℕ) (j : ℕ) → j < 8 * m → trit m (inner_share m side w r) j ≡ inner_trit m side w r j
  unfolding inner_share
  trit-inner side w r = trit-pack m (inner_trit m side w r) (λ j. omega arith)

  pub fit_inner : (t side : ℕ) (w r : List ℕ) → t ≤ 8 * m → T (fit_trits m t (inner_share m side w r))
  unfolding inner_share
  fit_inner t side w r = fit_pack m t (inner_trit m side w r) (λ j. omega arith)

  -- with ŵ = w + w̃ modulo 2 and r0 + r1 = w̃ modulo 3 the two inner shares add to w modulo 3, in every place
  pub conversion : (w mask ŵ r0 r1 : List ℕ) (j : ℕ) → j < 8 * m → bit ŵ j ≡ (bit w j + bit mask j) % 2 → (trit m r0 j + trit m r1 j) % 3 ≡ bit mask j
      → (trit m (inner_share m 0 ŵ r0) j + trit m (inner_share m 1 ŵ r1) j) % 3 ≡ bit w j
  conversion w mask ŵ r0 r1 j l e p =
      rw (trit-inner 0 ŵ r0 j l, trit-inner 1 ŵ r1 j l)
      (convert (bit w j) (bit mask j) (bit ŵ j) (trit m r0 j) (trit m r1 j) (bit_lt w j) (bit_lt mask j) e p)
