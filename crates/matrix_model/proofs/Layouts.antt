-- Laws of a layout that fits: its blocks, the rows in them, and where a row's bytes stand. A row's bytes times the rows of a block are
-- not linear, so what `omega` cannot find of quotients and products is here, once.
use mathlib.Core.Path.{◌≡◌, refl, ap, ap₂, ◌∙◌}
use mathlib.Core.List.{List}
use Prim.Native.Nat.{ℕ, ◌+◌, ◌-◌, ◌*◌, ◌/◌, ◌%◌, ◌<◌, ◌≤◌, min}
use native.Mathlib.Nat.{add-zero, mul-le-mul_left, mul-le-mul_right, le-div_iff_mul-le, div-lt_iff_lt-mul, lt-mul-div-succ, mul-add-div, mul-add-mod_self_left, div-add-mod, div-eq_of_lt, mod-eq_of_lt, mod-lt}
use native.Mathlib.Decide.{dec_lt}
use native.Mathlib.Omega.{arith}
use lib.Dec.{T, ltb, leb, lit<, lit≤}
use lib.ListN.{get_or}
use Rattle.matrix_model.specs.Block.{Layout, rows_in, rows_end}
use Rattle.matrix_model.specs.File.{Fits, block_count, rows_size, row_plane_of, row_place, row_byte, layout_of}

-- ---- quotients

-- place r of part a, where parts have n places
pub part_of : (n a r : ℕ) → r < n → (n * a + r) / n ≡ a
part_of n a r l = mul-add-div {m = n} (omega arith) a r ∙ ap (λ (q : ℕ). a + q) (div-eq_of_lt l) ∙ add-zero a

pub place_of : (n a r : ℕ) → r < n → (n * a + r) % n ≡ r
place_of n a r l = mul-add-mod_self_left n a r ∙ mod-eq_of_lt l

-- a part that begins before place m
part_before : (n m i : ℕ) → 0 < n → i < n * m → i / n < m
part_before n m i h l = (div-lt_iff_lt-mul {k = n} h).1 (omega arith)

some_of : (n m : ℕ) → 0 < n → 0 < m → 0 < n * m
some_of n m h l = omega (arith, mul-le-mul_left {m = 1} {n = m} n l)

module _ (layout : Layout) (fits : Fits layout) where
  -- ---- blocks

  -- each block has a row
  pub started : (b : ℕ) → b < block_count layout → layout.block_rows * b < layout.row_count
  started b l =
      let k = layout.block_rows in
      let h : (b + 1) * k ≤ layout.row_count + k - 1 = (le-div_iff_mul-le {k = k} fits.some_rows).0 (omega arith) in
      omega (arith, fits.some_rows)

  -- and all rows are in blocks
  pub covered : layout.row_count ≤ layout.block_rows * block_count layout
  covered = omega (arith, fits.some_rows, lt-mul-div-succ (layout.row_count + layout.block_rows - 1) {b = layout.block_rows} fits.some_rows)

  -- as bytes
  pub covered_bytes : rows_size layout ≤ layout.row_bytes * layout.block_rows * block_count layout
  covered_bytes = omega (arith, mul-le-mul_left layout.row_bytes covered)

  -- the rows end before the check
  pub before_check : (b : ℕ) → rows_end layout b ≤ 510
  before_check b = omega (arith, fits.before_check, mul-le-mul_left {m = rows_in layout b} {n = layout.block_rows} layout.row_bytes (omega arith))

  -- and their count is a byte
  pub rows_few : layout.block_rows ≤ 253
  rows_few = omega (arith, fits.before_check, mul-le-mul_right {m = 2} {n = layout.row_bytes} layout.block_rows (omega (arith, fits.two_planes, fits.some_bytes)))

  pub count_byte : (b : ℕ) → rows_in layout b < 256
  count_byte b = omega (arith, rows_few)

  -- the rows of block b come before those of the next one, or before the end
  pub next_rows : (b : ℕ) → b < block_count layout → layout.block_rows * b + rows_in layout b ≡ min (layout.block_rows * (b + 1)) layout.row_count
  next_rows b l = omega (arith, started b l)

  pub next_bytes : (b : ℕ) → b < block_count layout
      → layout.row_bytes * layout.block_rows * b + layout.row_bytes * rows_in layout b ≡ min (layout.row_bytes * layout.block_rows * (b + 1)) (rows_size layout)
  next_bytes b l = go (dec_lt layout.row_count (layout.block_rows * (b + 1)))
    where
      go : Dec (layout.row_count < layout.block_rows * (b + 1))
          → layout.row_bytes * layout.block_rows * b + layout.row_bytes * rows_in layout b ≡ min (layout.row_bytes * layout.block_rows * (b + 1)) (rows_size layout)
      go (yes p) =
          let e : layout.row_bytes * (layout.block_rows * b + rows_in layout b) ≡ rows_size layout = ap (λ (n : ℕ). layout.row_bytes * n) (omega (arith, next_rows b l)) in
          omega (arith, mul-le-mul_left {m = layout.row_count} {n = layout.block_rows * (b + 1)} layout.row_bytes (omega arith))
      go (no p) =
          let e : layout.row_bytes * rows_in layout b ≡ layout.row_bytes * layout.block_rows = ap (λ (n : ℕ). layout.row_bytes * n) (omega (arith, next_rows b l)) in
          omega (arith, mul-le-mul_left {m = layout.block_rows * (b + 1)} {n = layout.row_count} layout.row_bytes (omega arith))

  -- no number of a file is large
  pub bytes_few : layout.row_bytes ≤ 506
  bytes_few = omega (arith, fits.before_check, mul-le-mul_left {m = 1} {n = layout.block_rows} layout.row_bytes fits.some_rows)

  pub count_small : layout.row_count ≤ 253 * 255
  count_small = omega (arith, covered, fits.blocks_in_byte, mul-le-mul_right {m = layout.block_rows} {n = 253} (block_count layout) rows_few)

  pub rows_small : rows_size layout ≤ 506 * 255
  rows_small =
      omega (
        arith,
        covered_bytes,
        fits.blocks_in_byte,
        mul-le-mul_right {m = layout.row_bytes * layout.block_rows} {n = 506} (block_count layout) (omega (arith, fits.before_check)),
      )

  -- a byte of the rows of block b is one of a full block
  pub full : (b k : ℕ) → k < layout.row_bytes * rows_in layout b → k < layout.row_bytes * layout.block_rows
  full b k l = omega (arith, mul-le-mul_left {m = rows_in layout b} {n = layout.block_rows} layout.row_bytes (omega arith))

  -- ---- rows

  -- byte k of the rows of block b is byte 4 + k of that block
  pub row_byte_lem : (file : List ℕ) (b k : ℕ) → k < layout.row_bytes * layout.block_rows
      → row_byte layout file (layout.row_bytes * layout.block_rows * b + k) ≡ get_or file (512 * b + 4 + k) 0
  row_byte_lem file b k l =
      let r = layout.row_bytes in
      let n = layout.block_rows in
      let at : r * n * b + k ≡ r * (n * b) + k = omega arith in
      let p : k / r < n = part_before r n k fits.some_bytes l in
      let i : (r * n * b + k) / r ≡ n * b + k / r = ap (λ (x : ℕ). x / r) at ∙ mul-add-div {m = r} fits.some_bytes (n * b) k in
      let j : (r * n * b + k) % r ≡ k % r = ap (λ (x : ℕ). x % r) at ∙ mul-add-mod_self_left r (n * b) k in
      ap (λ (x : ℕ). get_or file x 0)
      (ap₂ (λ (x y : ℕ). row_place layout x + y) i j
      ∙ ap₂ (λ (x y : ℕ). 512 * x + 4 + r * y + k % r) (part_of n b (k / r) p) (place_of n b (k / r) p)
      ∙ omega (arith, div-add-mod k r))

  -- byte k of the rows stands in this block, at this place
  pub byte_block : (k : ℕ) → k < rows_size layout → k / (layout.row_bytes * layout.block_rows) < block_count layout
  byte_block k l =
      part_before (layout.row_bytes * layout.block_rows) (block_count layout) k (some_of layout.row_bytes layout.block_rows fits.some_bytes fits.some_rows) (omega (arith, covered_bytes))

  pub byte_place : (k : ℕ) → k < rows_size layout
      → k % (layout.row_bytes * layout.block_rows) < layout.row_bytes * rows_in layout (k / (layout.row_bytes * layout.block_rows))
  byte_place k l =
      let n = layout.row_bytes * layout.block_rows in
      omega (arith, div-add-mod k n, mod-lt k {m = n} (some_of layout.row_bytes layout.block_rows fits.some_bytes fits.some_rows), next_bytes (k / n) (byte_block k l))

  -- ---- planes

  -- a row is two planes
  pub planes : 2 * row_plane_of layout ≡ layout.row_bytes
  planes = omega (arith, fits.two_planes)

-- ---- layouts that fit

-- by computation
fits_by : (layout : Layout) → T (ltb layout.letter 256) → T (ltb layout.set 256) → layout.row_bytes % 2 ≡ 0 → T (ltb 0 layout.row_bytes) → T (ltb 0 layout.block_rows)
    → T (leb (4 + layout.row_bytes * layout.block_rows) 510) → T (leb (block_count layout) 255) → Fits layout
fits_by layout letter set planes bytes rows check blocks =
    record {
      letter_byte = lit< letter;
      set_byte = lit< set;
      two_planes = planes;
      some_bytes = lit< bytes;
      some_rows = lit< rows;
      before_check = lit≤ check;
      blocks_in_byte = lit≤ blocks;
    }

-- the three sets'
pub first_fits : Fits (layout_of 1)
first_fits = fits_by (layout_of 1) tt tt refl tt tt tt tt

pub second_fits : Fits (layout_of 2)
second_fits = fits_by (layout_of 2) tt tt refl tt tt tt tt

pub third_fits : Fits (layout_of 3)
third_fits = fits_by (layout_of 3) tt tt refl tt tt tt tt

-- 256 rows in 37 blocks: `Fits` is not too narrow for them
more_blocks_fit : Fits (record { letter = 0x41; set = 1; row_bytes = 64; block_rows = 7; row_count = 256 })
more_blocks_fit = fits_by _ tt tt refl tt tt tt tt
