-- Laws of rows of given trits: these are their trits, they are fit where each trit is, tied where the trits are, and then by the same tie.
use Prim.Native.Nat.{ℕ, ◌+◌, ◌*◌, ◌/◌, ◌%◌, ◌<◌}
use mathlib.Core.Path.{◌≡◌, ap, ap₂, ◌∙◌}
use mathlib.Core.Bool.{true, false, not}
use native.Mathlib.Nat.{mul-le-mul_left}
use native.Mathlib.Omega.{arith}
use borrow.Author.Tests.{lt-ltb}
use lib.ListN.{length, get_or}
use lib.Seq.{get_or-drop}
use Rattle.linear_model.specs.Bits.{bit_at, bit}
use Rattle.linear_model.specs.Trits.{trit, pack_trits, fit_trit, fit_trits}
use Rattle.linear_model.specs.Products.{rows_from}
use Rattle.linear_model.proofs.Tables.{length-tabulate, get_d_tabulate}
use Rattle.linear_model.proofs.Vectors.{trit-pack}
use Rattle.elimination_model.specs.Independence.{tied, trit_at}
use Rattle.elimination_model.specs.Tie.{tie_bytes}
use Rattle.elimination_model.proofs.Independence.{tied_congr}
use Rattle.elimination_model.proofs.TieBytes.{tie_bytes_congr}
use Rattle.numbers.specs.Number.{first}
use Rattle.numbers.proofs.Numbers.{first_pass, first_holds}
use Rattle.matrix_model.specs.Block.{Layout}
use Rattle.matrix_model.specs.File.{rows_size, row_plane_of, fit_row, bad_trit_of, tied_rows_of, row_faults_of}
use Rattle.matrix_model.specs.Sample.{packed_byte, packed_rows}
use Rattle.matrix_model.specs.Ties.{tie_of}
use Rattle.matrix_model.proofs.Tests.{every_true}
use Rattle.matrix_model.proofs.Layouts.{part_of, place_of}

-- they have their length
pub length_packed : (layout : Layout) (f : ℕ → ℕ → ℕ) → length (packed_rows layout f) ≡ rows_size layout
unfolding packed_rows
length_packed layout f = length-tabulate (rows_size layout) (packed_byte layout f)

module _ (layout : Layout) (two_planes : layout.row_bytes % 2 ≡ 0) (f : ℕ → ℕ → ℕ) (small : (i j : ℕ) → f i j < 3) where
  byte : (i : ℕ) → i < layout.row_count → (b : ℕ) → b < layout.row_bytes
      → get_or (rows_from (row_plane_of layout) (packed_rows layout f) i) b 0 ≡ get_or (pack_trits (row_plane_of layout) (f i)) b 0
  unfolding packed_rows
  byte i l b m =
      let n = layout.row_bytes in
      let e : 2 * row_plane_of layout ≡ n = omega arith in
      get_or-drop (2 * row_plane_of layout * i) (packed_rows layout f) b 0
      ∙ ap (λ (x : ℕ). get_or (packed_rows layout f) (x * i + b) 0) e
      ∙ get_d_tabulate (rows_size layout) (packed_byte layout f) (n * i + b) (omega (arith, mul-le-mul_left {m = i + 1} {n = layout.row_count} n (omega arith)))
      ∙ ap₂ (λ (x y : ℕ). get_or (pack_trits (row_plane_of layout) (f x)) y 0) (part_of n i b m) (place_of n i b m)

  bit_is : (i : ℕ) → i < layout.row_count → (j : ℕ) → j < 8 * layout.row_bytes
      → bit (rows_from (row_plane_of layout) (packed_rows layout f) i) j ≡ bit (pack_trits (row_plane_of layout) (f i)) j
  unfolding bit
  bit_is i l j m = ap (λ (x : ℕ). bit_at x (j % 8)) (byte i l (j / 8) (omega arith))

  -- trit j of row i
  pub packed_trit : (i : ℕ) → i < layout.row_count → (j : ℕ) → j < 8 * row_plane_of layout → trit_at (row_plane_of layout) (packed_rows layout f) i j ≡ f i j
  unfolding trit
  packed_trit i l j m =
      ap₂ (λ (x y : ℕ). x + 2 * y) (bit_is i l j (omega arith)) (bit_is i l (8 * row_plane_of layout + j) (omega arith))
      ∙ trit-pack (row_plane_of layout) (f i) (λ k. omega (arith, small i k)) j m

  -- no trit has both bits set
  pub packed_fit : bad_trit_of layout (packed_rows layout f) ≡ false
  unfolding bad_trit_of fit_trits
  packed_fit =
      ap not (every_true layout.row_count (fit_row layout (packed_rows layout f))
      (λ i l. every_true (8 * row_plane_of layout) (fit_trit (row_plane_of layout) (rows_from (row_plane_of layout) (packed_rows layout f) i))
      (λ j m. lt-ltb (trit_at (row_plane_of layout) (packed_rows layout f) i j) 3 (rw (packed_trit i l j m) (small i j)))))

  -- modulo 3 they are the trits
  packed_digits : (i j : ℕ) → i < layout.row_count → j < 8 * row_plane_of layout → trit_at (row_plane_of layout) (packed_rows layout f) i j % 3 ≡ f i j % 3
  packed_digits i j l m = ap (λ (x : ℕ). x % 3) (packed_trit i l j m)

  -- the rows are tied where the trits are
  pub packed_tied : tied_rows_of layout (packed_rows layout f) ≡ tied (8 * row_plane_of layout) layout.row_count f
  unfolding tied_rows_of
  packed_tied =
      tied_congr (8 * row_plane_of layout) layout.row_count (trit_at (row_plane_of layout) (packed_rows layout f)) f packed_digits

  -- and their tie is that of the trits
  pub packed_tie : tie_of layout (packed_rows layout f) ≡ tie_bytes (8 * row_plane_of layout) layout.row_count f
  unfolding tie_of
  packed_tie =
      tie_bytes_congr (8 * row_plane_of layout) layout.row_count (trit_at (row_plane_of layout) (packed_rows layout f)) f packed_digits

  -- tied, they have number 12
  pub packed_refused : tied (8 * row_plane_of layout) layout.row_count f ≡ true → first (row_faults_of layout (packed_rows layout f)) ≡ 12
  unfolding row_faults_of
  packed_refused e = first_pass 10 _ _ packed_fit ∙ first_holds 12 _ _ (packed_tied ∙ e)
