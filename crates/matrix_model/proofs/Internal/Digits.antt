-- Laws of the digits of rows times a vector, up to eight rows at a time: where they stand in the code.
use mathlib.Core.Path.{◌≡◌, refl, sym, ap, ◌∙◌}
use mathlib.Core.List.{List}
use Prim.Native.Nat.{ℕ, ◌+◌, ◌-◌, ◌*◌, ◌/◌, ◌%◌, ◌^◌, ◌<◌, ◌≤◌, min}
use native.Mathlib.Nat.{zero-add, mul-le-mul_left, lt_of_mul-lt-mul_left}
use native.Mathlib.Decide.{dec_lt}
use native.Mathlib.Omega.{arith}
use borrow.Author.Tests.{lt-ltb, le-ltb}
use lib.Bits.{bit_or}
use lib.ListN.{length, get_or, take, drop}
use Rattle.linear_model.specs.Tables.{from, below, tabulate}
use Rattle.linear_model.specs.Bits.{from_bits, pack}
use Rattle.linear_model.specs.Trits.{trit, low, high, pack_trits}
use Rattle.linear_model.specs.Products.{trit_term, row_product, row_digit, matrix_product}
use Rattle.linear_model.specs.Internal.Planes.{PlaneBits}
use Rattle.linear_model.proofs.Sums.{sum_ext}
use Rattle.linear_model.proofs.NumberBits.{from_bits_ext, from_bits-zeros}
use Rattle.linear_model.proofs.WordBits.{or_part, from_bits-low, from_bits-high}
use Rattle.linear_model.proofs.Linearity.{digit-below}
use Rattle.linear_model.proofs.Tables.{below_past}
use Rattle.matrix_model.specs.Block.{Layout, rows_in}
use Rattle.matrix_model.specs.File.{Fits, block_count, file_size, row_plane_of, rows_of}
use Rattle.matrix_model.specs.Internal.Digits.{code_digit, Span, Gathering}
use Rattle.matrix_model.proofs.Parts.{length_part, get_d_part}
use Rattle.matrix_model.proofs.Layouts.{before_check, covered, next_rows, full}
use Rattle.matrix_model.proofs.Rows.{length_rows, get_d_rows}
use Rattle.matrix_model.proofs.Internal.Rows.{trit-take}
use Rattle.matrix_model.proofs.Internal.RowNumbers.{Among, same_row}

-- ---- the digits of a part

-- a row's product reads no more than the row
product_take : (m : ℕ) (s v : List ℕ) → row_product m (take (2 * m) s) v ≡ row_product m s v
product_take m s v =
    ap (λ (z : ℕ). z % 3) (sum_ext (8 * m) (trit_term m (take (2 * m) s) v) (trit_term m s v) (λ j l. ap (λ (x : ℕ). x * trit m v j) (trit-take m s j l)))

module _ (layout : Layout) (fits : Fits layout) (file v : List ℕ) where
  abbrev plane : ℕ
  plane = row_plane_of layout

  digit_part : {i k : ℕ} {part : List ℕ} → Among layout (rows_of layout file) i k part → (j : ℕ) → j < k → i + k ≤ layout.row_count
      → row_digit plane part v j ≡ code_digit layout file v (i + j)
  digit_part {i} {k} {part} a j l h =
      rw (lt-ltb (i + j) layout.row_count (omega arith))
      (sym (product_take plane (drop (2 * plane * j) part) v)
      ∙ ap (λ (r : List ℕ). row_product plane r v) (sym (same_row fits a j l))
      ∙ product_take plane (drop (2 * plane * (i + j)) (rows_of layout file)) v)

  -- n rows from place r of block b on
  module _ (b r n : ℕ) (h : length file ≡ file_size layout) (l : b < block_count layout) (m : r + n ≤ rows_in layout b) where
    ends : layout.row_bytes * (r + n) ≤ layout.row_bytes * rows_in layout b
    ends = mul-le-mul_left layout.row_bytes m

    pub piece_within : 512 * b + 4 + layout.row_bytes * r + layout.row_bytes * n ≤ length file
    piece_within = omega (arith, ends, before_check layout fits b)

    pub among_piece : (part : List ℕ) → part ≡ take (layout.row_bytes * n) (drop (512 * b + 4 + layout.row_bytes * r) file)
        → Among layout (rows_of layout file) (layout.block_rows * b + r) n part
    among_piece part e =
        let w = layout.row_bytes in
        let all : w * (layout.block_rows * b + r + n) ≤ w * layout.row_count = mul-le-mul_left w (omega (arith, next_rows layout fits b l)) in
        let at = 512 * b + 4 + w * r in
        record {
          within = omega (arith, length_rows layout file);
          long = rw e (length_part (w * n) at file piece_within);
          same =
              λ q t. ap (λ (x : ℕ). get_or (rows_of layout file) x 0) {y = w * layout.block_rows * b + (w * r + q)} (omega arith)
              ∙ get_d_rows layout fits file b (w * r + q) (full layout fits b (w * r + q) (omega (arith, ends))) (omega arith)
              ∙ rw e (ap (λ (x : ℕ). get_or file x 0) {y = at + q} (omega arith) ∙ sym (get_d_part (w * n) at file q t));
        }

  -- up to eight digits, from the planes of their product
  module _ {part : List ℕ} {i n : ℕ} (a : Among layout (rows_of layout file) i n part) (h : i + n ≤ layout.row_count) (t : n ≤ 8) where
    some_bits : (g : ℕ → ℕ) → g 0 ≡ 0 → from_bits 8 (from 0 (λ k. g (below n (row_digit plane part v) k))) ≡ from_bits n (from i (λ k. g (code_digit layout file v k)))
    some_bits g z =
        let d : ℕ → ℕ = λ k. g (below n (row_digit plane part v) k) in
        let e : 8 ≡ n + (8 - n) = omega arith in
        ap (λ (k : ℕ). from_bits k (from 0 d)) e
        ∙ from_bits-zeros n (8 - n) (from 0 d) (λ k. rw (le-ltb (0 + (n + k)) n (omega arith)) z)
        ∙ from_bits_ext n (from 0 d) (from i (λ k. g (code_digit layout file v k)))
        (λ k l. ap d (zero-add k) ∙ ap g (rw (lt-ltb k n l) (digit_part a k l h)))

    pub piece_span : (planes : List ℕ) → planes ≡ matrix_product 1 plane n part v → Span n (code_digit layout file v) i (get_or planes 0 0) (get_or planes 1 0)
    unfolding matrix_product pack_trits pack tabulate
    piece_span planes p =
        record {
          low_is = ap (λ (s : List ℕ). get_or s 0 0) p ∙ some_bits (λ d. d % 2) refl;
          high_is = ap (λ (s : List ℕ). get_or s 1 0) p ∙ some_bits (λ d. d / 2) refl;
        }

  -- digits are below 3, and 0 past the last row
  pub code-small : (i : ℕ) → code_digit layout file v i < 3
  code-small = digit-below layout.row_count plane (rows_of layout file) v

  pub code_past : (i : ℕ) → layout.row_count ≤ i → code_digit layout file v i ≡ 0
  code_past i h =
      ap (code_digit layout file v) {y = layout.row_count + (i - layout.row_count)} (omega arith)
      ∙ below_past layout.row_count (row_digit plane (rows_of layout file) v) (i - layout.row_count)

-- ---- digits that are put together

module _ {f : ℕ → ℕ} where
  -- no digits
  pub span_none : {i : ℕ} → Span 0 f i 0 0
  unfolding from_bits
  span_none = record { low_is = refl; high_is = refl }

  module _ (small : (i : ℕ) → f i < 3) where
    low_bit : (i k : ℕ) → from i (low f) k < 2
    low_bit i k = omega arith

    high_bit : (i k : ℕ) → from i (high f) k < 2
    high_bit i k = omega (arith, small (i + k))

    -- n digits more, behind
    pub span_more : {m n i j x y a b : ℕ} → Span m f i x y → Span n f j a b → j ≡ i + m → m + n ≤ 64
        → Span (m + n) f i (bit_or x (a * 2 ^ m % 2 ^ 64)) (bit_or y (b * 2 ^ m % 2 ^ 64))
    span_more {m} {n} {i} {j} s t e l =
        record {
          low_is = or_part 64 m n _ _ (from i (low f)) (omega arith) (low_bit i) s.low_is (t.low_is ∙ from_bits_ext n (from j (low f)) (from m (from i (low f))) (λ k _. ap (low f) (omega arith)));
          high_is = or_part 64 m n _ _ (from i (high f)) (omega arith) (high_bit i) s.high_is (t.high_is ∙ from_bits_ext n (from j (high f)) (from m (from i (high f))) (λ k _. ap (high f) (omega arith)));
        }

    -- eight digits or more: a byte of each plane, and the others
    first_eight : (k p : ℕ) {x y : ℕ} → Span (8 + k) f (8 * p) x y → PlaneBits 8 f p (x % 256) (y % 256)
    first_eight k p s =
        record {
          low_is = ap (λ (z : ℕ). z % 256) s.low_is ∙ from_bits-low 8 k (from (8 * p) (low f)) (low_bit (8 * p));
          high_is = ap (λ (z : ℕ). z % 256) s.high_is ∙ from_bits-low 8 k (from (8 * p) (high f)) (high_bit (8 * p));
        }

    after_eight : (k p : ℕ) {x y : ℕ} → Span (8 + k) f (8 * p) x y → Span k f (8 * (p + 1)) (x / 256) (y / 256)
    after_eight k p s =
        record {
          low_is =
              ap (λ (z : ℕ). z / 256) s.low_is ∙ from_bits-high 8 k (from (8 * p) (low f)) (low_bit (8 * p))
              ∙ from_bits_ext k (from 8 (from (8 * p) (low f))) (from (8 * (p + 1)) (low f)) (λ i _. ap (low f) (omega arith));
          high_is =
              ap (λ (z : ℕ). z / 256) s.high_is ∙ from_bits-high 8 k (from (8 * p) (high f)) (high_bit (8 * p))
              ∙ from_bits_ext k (from 8 (from (8 * p) (high f))) (from (8 * (p + 1)) (high f)) (λ i _. ap (high f) (omega arith));
        }

    -- fewer count as eight where all others are 0
    filled : (n p : ℕ) {x y : ℕ} → Span n f (8 * p) x y → (n < 8 → (i : ℕ) → f (8 * p + (n + i)) ≡ 0) → Span (8 + (n - 8)) f (8 * p) x y
    filled n p {x} {y} s zeros = go (dec_lt n 8)
      where
        go : Dec (n < 8) → Span (8 + (n - 8)) f (8 * p) x y
        go (yes l) =
            let e : 8 + (n - 8) ≡ n + (8 - n) = omega arith in
            rw e (record {
              low_is = s.low_is ∙ sym (from_bits-zeros n (8 - n) (from (8 * p) (low f)) (λ i. ap (λ (d : ℕ). d % 2) (zeros l i)));
              high_is = s.high_is ∙ sym (from_bits-zeros n (8 - n) (from (8 * p) (high f)) (λ i. ap (λ (d : ℕ). d / 2) (zeros l i)));
            })
        go (no l) =
            let e : 8 + (n - 8) ≡ n = omega arith in
            rw e s

    -- a byte of the code, and what is left for the next
    pub span_byte : (p : ℕ) {n x y : ℕ} → Span n f (8 * p) x y → (n < 8 → (i : ℕ) → f (8 * p + (n + i)) ≡ 0) → PlaneBits 8 f p (x % 256) (y % 256)
    span_byte p {n} s zeros = first_eight (n - 8) p (filled n p s zeros)

    pub span_left : (p : ℕ) {n x y : ℕ} → Span n f (8 * p) x y → (n < 8 → (i : ℕ) → f (8 * p + (n + i)) ≡ 0) → Span (n - 8) f (8 * (p + 1)) (x / 256) (y / 256)
    span_left p {n} s zeros = after_eight (n - 8) p (filled n p s zeros)

-- ---- digits that are gathered, row after row

module _ {layout : Layout} (fits : Fits layout) {f : ℕ → ℕ} where
  -- none yet
  pub gathering_none : Gathering layout f 0 0 0 0 0 0
  gathering_none = record { digits = span_none; at = omega arith; inside = fits.some_rows; within = omega arith }

  module _ {start done block place x y : ℕ} (g : Gathering layout f start done block place x y) where
    -- the next row's block, and its place there
    pub next-block : done < layout.row_count → block < block_count layout
    next-block l = lt_of_mul-lt-mul_left layout.block_rows (omega (arith, g.at, covered layout fits))

    pub next_place : done < layout.row_count → place < rows_in layout block
    next_place l = omega (arith, g.at, g.inside)

    module _ (small : (i : ℕ) → f i < 3) where
      -- n digits more
      pub gathering_more : {n a b : ℕ} (block' place' : ℕ) → Span n f (layout.block_rows * block + place) a b → start ≤ done → done - start + n ≤ 64
          → done + n ≤ layout.row_count → layout.block_rows * block' + place' ≡ layout.block_rows * block + (place + n) → place' < layout.block_rows
          → Gathering layout f start (done + n) block' place' (bit_or x (a * 2 ^ (done - start) % 2 ^ 64)) (bit_or y (b * 2 ^ (done - start) % 2 ^ 64))
      gathering_more {n} block' place' s h room l e i =
          let k : done + n - start ≡ done - start + n = omega arith in
          record {
            digits = rw k (span_more small g.digits s (omega (arith, g.at)) room);
            at = omega (arith, g.at);
            inside = i;
            within = l;
          }

module _ {layout : Layout} {f : ℕ → ℕ} (small : (i : ℕ) → f i < 3) (past : (i : ℕ) → layout.row_count ≤ i → f i ≡ 0) where
  module _ (p : ℕ) {done block place x y : ℕ} (g : Gathering layout f (8 * p) done block place x y) (h : 8 * p ≤ done) (all : min (8 * p + 8) layout.row_count ≤ done) where
    zeros : done - 8 * p < 8 → (i : ℕ) → f (8 * p + (done - 8 * p + i)) ≡ 0
    zeros l i = past (8 * p + (done - 8 * p + i)) (omega arith)

    -- eight digits, or all that are left, are a byte of each plane; and what is left for the next
    pub gathering_byte : PlaneBits 8 f p (x % 256) (y % 256)
    gathering_byte = span_byte small p g.digits zeros

    pub gathering_left : Gathering layout f (8 * (p + 1)) done block place (x / 256) (y / 256)
    gathering_left =
        let k : done - 8 * p - 8 ≡ done - 8 * (p + 1) = omega arith in
        record {
          digits = rw k at (span_left small p g.digits zeros);
          at = g.at;
          inside = g.inside;
          within = g.within;
        }
