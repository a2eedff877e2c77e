-- Laws of rows judged first row by row and then together: a zero row is a case of tied rows, and the number of both tests is that of the rows.
use mathlib.Core.Path.{◌≡◌, refl, sym, ap, ◌∙◌}
use mathlib.Core.List.{List}
use mathlib.Core.Bool.{Bool, true, false, cond, not}
use Rattle.std.specs.Prelude.{Ok, Err}
use Prim.Native.Nat.{ℕ, ◌+◌, ◌-◌, ◌*◌, ◌/◌, ◌%◌, ◌<◌, ◌≤◌}
use native.Mathlib.Nat.{mul-le-mul_right}
use native.Mathlib.Omega.{arith}
use borrow.Author.Tests.{not-false}
use lib.Dec.{T, leb, lit≤}
use lib.ListN.{drop}
use Rattle.linear_model.specs.Tables.{every}
use Rattle.linear_model.specs.Trits.{trit, zero_trits}
use Rattle.linear_model.specs.Products.{rows_from}
use Rattle.elimination_model.specs.Independence.{tied, trit_at}
use Rattle.elimination_model.specs.Tie.{tie_bytes}
use Rattle.elimination_model.specs.Internal.Words.{digit_at, RowsWritten, LoadedWord, rows_after}
use Rattle.elimination_model.proofs.Independence.{fails_somewhere, untied_wider}
use Rattle.elimination_model.proofs.Internal.Loading.{diagonal_same, loaded_tie}
use Rattle.elimination_model.proofs.Internal.Writing.{rows_join, rows_map}
use Rattle.elimination_model.proofs.Packed.{zero_row_tied}
use Rattle.numbers.specs.Number.{first}
use Rattle.numbers.specs.Refusals.{number_of}
use Rattle.numbers.specs.declared.refusal.Refusal.{Refusal}
use Rattle.numbers.proofs.Numbers.{holds, is_false}
use Rattle.numbers.proofs.Refusals.{refused as refused_some}
use Rattle.matrix_model.specs.Block.{Layout}
use Rattle.matrix_model.specs.File.{Fits, fit_row, row_plane_of, bad_trit_of, tied_rows_of, row_faults_of, layout_of}
use Rattle.matrix_model.specs.Ties.{tie_of}
use Rattle.matrix_model.specs.Internal.Rows.{nonzero_row, zero_row_of, rows_number, rows_answer, plane_words, carrying_words, Eliminable, CarryingRoom, tied_in_columns}
use Rattle.matrix_model.proofs.Internal.Rows.{trit-take}
use Rattle.matrix_model.proofs.Internal.RowNumbers.{Among, same_row, accepted, refused}

-- rows with a zero row among them are tied
zero_rows-tied : (layout : Layout) (rows : List ℕ) → zero_row_of layout rows ≡ true → tied_rows_of layout rows ≡ true
unfolding zero_row_of tied_rows_of
zero_rows-tied layout rows e =
    let m = row_plane_of layout in
    let f = fails_somewhere layout.row_count (nonzero_row layout rows) (holds _ e) in
    zero_row_tied m layout.row_count rows f.0 f.1 (not-false (zero_trits m 0 (rows_from m rows f.0)) (is_false _ f.2))

-- the number by two tests: of trits, and of a zero row or of tied rows
abbrev pub number_by : Bool → Bool → ℕ
number_by unfit tied = cond unfit 10 (cond tied 12 0)

-- a number of the tests of each row is that of the rows: a zero row has tied rows'
number_each : (u z t : Bool) → (z ≡ true → t ≡ true) → (number_by u z ≡ 0 → ⊥) → number_by u z ≡ number_by u t
number_each true z t h n = refl
number_each false true t h n = ap (λ (b : Bool). cond b 12 0) (sym (h refl))
number_each false false t h n = absurd (n refl)

module _ (layout : Layout) (rows : List ℕ) where
  -- where the tests of each row give a number, it is that of the rows
  pub judged_each : {number : ℕ} → number ≡ rows_number layout layout.row_count rows → (number ≡ 0 → ⊥) → number ≡ first (row_faults_of layout rows)
  unfolding first row_faults_of bad_trit_of zero_row_of rows_number
  judged_each e n =
      e ∙ number_each (bad_trit_of layout rows) (zero_row_of layout rows) (tied_rows_of layout rows) (zero_rows-tied layout rows) (λ z. n (e ∙ z))

  -- so where they refuse, the rows are refused
  module _ {refusal : Refusal} (e : rows_answer layout layout.row_count rows ≡ Err refusal) where
    unfit_number : number_of refusal ≡ rows_number layout layout.row_count rows
    unfolding first rows_number rows_answer
    unfit_number =
        let h = refused (every layout.row_count (fit_row layout rows)) _ refusal e in
        rw (h.0, ← h.1)

    pub judged_unfit : number_of refusal ≡ first (row_faults_of layout rows)
    judged_unfit = judged_each unfit_number (refused_some refusal refl)

  -- where they accept, a zero row is a case of tied rows
  module _ {zero : Bool} (e : rows_answer layout layout.row_count rows ≡ Ok zero) where
    fit : every layout.row_count (fit_row layout rows) ≡ true
    unfolding rows_answer
    fit = (accepted (every layout.row_count (fit_row layout rows)) _ zero e).0

    zero_number : zero ≡ true → 12 ≡ rows_number layout layout.row_count rows
    unfolding first rows_number rows_answer
    zero_number z =
        let h = accepted (every layout.row_count (fit_row layout rows)) _ zero e in
        rw (fit, h.1 ∙ z)

    pub judged_zero : zero ≡ true → 12 ≡ first (row_faults_of layout rows)
    judged_zero z = judged_each (zero_number z) (λ n. omega (arith, n))

    -- and else the test of all rows together decides
    pub judged_together : {independent : Bool} → independent ≡ not (tied_rows_of layout rows) → cond independent 0 12 ≡ first (row_faults_of layout rows)
    unfolding first row_faults_of bad_trit_of
    judged_together h = rw (fit, h) (by (tied_rows_of layout rows))
      where
        by : (tied : Bool) → ◌≡◌ {A = ℕ} (cond (not tied) 0 12) (cond tied 12 0)
        by true = refl
        by false = refl

-- the trits of a part are those of the rows that it is
among_trits : {layout : Layout} → Fits layout → {set part : List ℕ} {i k : ℕ} → Among layout set i k part
    → (q j : ℕ) → q < k → j < 8 * row_plane_of layout → trit_at (row_plane_of layout) part q j ≡ trit_at (row_plane_of layout) set (i + q) j
among_trits {layout} fits {set} {part} {i} a q j l m =
    let n = row_plane_of layout in
    sym (trit-take n (drop (2 * n * q) part) j m)
    ∙ ap (λ (s : List ℕ). trit n s j) (sym (same_row fits a q l))
    ∙ trit-take n (drop (2 * n * (i + q)) set) j m

-- a part more of the rows is loaded
pub loaded_more : {layout : Layout} → Fits layout → {set part : List ℕ} {i k : ℕ} → Among layout set i k part → (w f : ℕ) → 8 * f ≤ row_plane_of layout
    → {words₀ words words' : List ℕ} → RowsWritten w 0 i (LoadedWord f (trit_at (row_plane_of layout) set)) words₀ words
    → RowsWritten w i (i + k) (LoadedWord f (rows_after i (row_plane_of layout) part)) words words'
    → RowsWritten w 0 (i + k) (LoadedWord f (trit_at (row_plane_of layout) set)) words₀ words'
loaded_more {layout} fits {set} {part} {i} {k} a w f h {words₀} {words} {words'} x y =
    rows_join w 0 i (i + k) _ words₀ words words' (omega arith) (omega arith) x
    (rows_map w i (i + k) _ _ words words' y
    (λ r m x u l g q e.
    (λ b c. e.0 b c ∙ ap (λ (j : ℕ). j % 3) (diagonal_same (64 * f) (rows_after i n part) (trit_at n set) r (64 * m + b) (same r (64 * m + b) l g)), e.1)))
  where
    n : ℕ
    n = row_plane_of layout

    same : (r j : ℕ) → i ≤ r → r < i + k → j < 64 * f → trit_at n part (r - i) j ≡ trit_at n set r j
    same r j l g q =
        let e : i + (r - i) ≡ r = omega arith in
        among_trits fits a (r - i) j (omega arith) (omega arith) ∙ ap (λ (z : ℕ). trit_at n set z j) e

-- ---- columns

-- the words of a plane have all columns
all_bits : (layout : Layout) → Eliminable layout → 64 * plane_words layout ≡ 8 * row_plane_of layout
all_bits layout h = omega (arith, h.whole_words)

module _ (layout : Layout) (rows : List ℕ) (h : Eliminable layout) where
  pub all_columns : tied_in_columns layout (plane_words layout) rows ≡ tied_rows_of layout rows
  unfolding tied_rows_of
  all_columns = ap (λ (n : ℕ). tied n layout.row_count (trit_at (row_plane_of layout) rows)) (all_bits layout h)

  -- rows that are not tied in the first v words are not tied
  pub first_columns_lem : (v : ℕ) → v ≤ plane_words layout → tied_in_columns layout v rows ≡ false → tied_rows_of layout rows ≡ false
  unfolding tied_rows_of
  first_columns_lem v l e = untied_wider (64 * v) (8 * row_plane_of layout) layout.row_count (trit_at (row_plane_of layout) rows) (omega arith) e

  -- the tie of the rows as they are loaded is theirs
  pub rows_tie : (w : ℕ) (words words' : List ℕ) → plane_words layout ≤ w
      → RowsWritten w 0 layout.row_count (LoadedWord (plane_words layout) (trit_at (row_plane_of layout) rows)) words words'
      → tie_bytes (64 * plane_words layout) layout.row_count (digit_at w words') ≡ tie_of layout rows
  unfolding tie_of
  rows_tie w words words' l x = loaded_tie w (plane_words layout) layout.row_count _ words words' x (8 * row_plane_of layout) l (all_bits layout h)

-- there is room for v words of each plane
pub column_room : (layout : Layout) → Eliminable layout → (v : ℕ) → v ≤ plane_words layout → 2 * v * layout.row_count ≤ 2592
column_room layout h v l = omega (arith, h.room, mul-le-mul_right {m = 2 * v} {n = layout.row_bytes / 8} layout.row_count (omega arith))

-- ---- layouts with room for the elimination

-- by computation
eliminable_by : (layout : Layout) → layout.row_bytes % 16 ≡ 0 → T (leb layout.row_bytes 128) → T (leb (layout.row_bytes / 8 * layout.row_count) 2592)
    → Eliminable layout
eliminable_by layout words few room = record { whole_words = words; few_words = lit≤ few; room = lit≤ room }

-- the three sets'
pub first_eliminable : Eliminable (layout_of 1)
first_eliminable = eliminable_by (layout_of 1) refl tt tt

pub second_eliminable : Eliminable (layout_of 2)
second_eliminable = eliminable_by (layout_of 2) refl tt tt

pub third_eliminable : Eliminable (layout_of 3)
third_eliminable = eliminable_by (layout_of 3) refl tt tt

-- ---- and where rows carry combinations

carrying_by : (layout : Layout) → T (leb (carrying_words layout) 11) → T (leb (2 * carrying_words layout * layout.row_count) 3564)
    → T (leb layout.row_count 256) → CarryingRoom layout
carrying_by layout few room numbers = record { few_words = lit≤ few; room = lit≤ room; row_numbers = lit≤ numbers }

-- the three sets'
pub first_carrying : CarryingRoom (layout_of 1)
first_carrying = carrying_by (layout_of 1) tt tt tt

pub second_carrying : CarryingRoom (layout_of 2)
second_carrying = carrying_by (layout_of 2) tt tt tt

pub third_carrying : CarryingRoom (layout_of 3)
third_carrying = carrying_by (layout_of 3) tt tt tt
