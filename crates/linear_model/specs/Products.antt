-- Products of a matrix and a vector: modulo 2 with the circulant matrix of a key, and modulo 3 with rows of trits.
use Rattle.std.specs.Prelude.{ℕ, ◌+◌, ◌-◌, ◌*◌, ◌/◌, ◌%◌, ◌≡◌, List, drop}
use Rattle.linear_model.specs.Tables.{sum, below}
use Rattle.linear_model.specs.Bits.{bit, pack, add_bits}
use Rattle.linear_model.specs.Trits.{trit, pack_trits}

-- ---- modulo 2

-- row i of a matrix and x, multiplied in column j
abbrev pub bit_term : (ℕ → ℕ → ℕ) → List ℕ → ℕ → ℕ → ℕ
bit_term matrix x i j = matrix i j * bit x j

-- row i of a matrix of 8n columns times x, modulo 2
abbrev pub bit_row : ℕ → (ℕ → ℕ → ℕ) → List ℕ → ℕ → ℕ
bit_row n matrix x i = sum (8 * n) (bit_term matrix x i) % 2

-- a matrix of 8m rows and 8n columns times x, modulo 2, as m bytes
unfoldable pub bit_product : ℕ → ℕ → (ℕ → ℕ → ℕ) → List ℕ → List ℕ
bit_product m n matrix x = pack m (bit_row n matrix x)

-- the circulant matrix of a key, 8n rows and columns: row i, column j holds key bit (j − i) mod 8n
abbrev pub circulant : ℕ → List ℕ → ℕ → ℕ → ℕ
circulant n key i j = bit key ((j + 8 * n - i) % (8 * n))

-- that matrix times x
abbrev pub circulant_product : ℕ → List ℕ → List ℕ → List ℕ
circulant_product n key x = bit_product n n (circulant n key) x

-- a product of n bytes and n bytes, giving m bytes, is linear on both sides
pub record Bilinear (m n : ℕ) (product : List ℕ → List ℕ → List ℕ) : Type 0 where
  pub left : (a b x : List ℕ) → product (add_bits n a b) x ≡ add_bits m (product a x) (product b x)
  pub right : (a x y : List ℕ) → product a (add_bits n x y) ≡ add_bits m (product a x) (product a y)

-- ---- modulo 3

-- a row and a vector of 8m trits, multiplied in column j
abbrev pub trit_term : ℕ → List ℕ → List ℕ → ℕ → ℕ
trit_term m rows_from v j = trit m rows_from j * trit m v j

-- a row times a vector of 8m trits, modulo 3
abbrev pub row_product : ℕ → List ℕ → List ℕ → ℕ
row_product m rows_from v = sum (8 * m) (trit_term m rows_from v) % 3

-- row i of a matrix whose rows have 2m bytes
abbrev pub rows_from : ℕ → List ℕ → ℕ → List ℕ
rows_from m rows i = drop (2 * m * i) rows

-- row i times v
abbrev pub row_digit : ℕ → List ℕ → List ℕ → ℕ → ℕ
row_digit m rows v i = row_product m (rows_from m rows i) v

-- the bytes of a plane of t trits
abbrev pub plane_bytes : ℕ → ℕ
plane_bytes t = (t + 7) / 8

-- the first t rows of a matrix times v, modulo 3, in planes of p bytes with zero spare bits
unfoldable pub matrix_product : ℕ → ℕ → ℕ → List ℕ → List ℕ → List ℕ
matrix_product p m t rows v = pack_trits p (below t (row_digit m rows v))
