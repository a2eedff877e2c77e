-- Laws of the answer to rows one after the other, as loops find it, part by part.
use mathlib.Core.Path.{◌≡◌, refl, sym, ap, ◌∙◌}
use mathlib.Core.List.{List}
use mathlib.Core.Bool.{Bool, true, false, cond, not, ◌&&◌, ◌||◌}
use Rattle.std.specs.Prelude.{Result, Ok, Err}
use Prim.Native.Nat.{ℕ, zero, suc, ◌+◌, ◌*◌, ◌/◌, ◌<◌, ◌≤◌, min}
use native.Mathlib.Nat.{add-zero, add-suc, mul-le-mul_left}
use native.Mathlib.Omega.{arith}
use lib.ListN.{length, get_or, take, drop}
use Rattle.linear_model.specs.Tables.{every}
use Rattle.linear_model.specs.Trits.{fit_trits, zero_trits}
use Rattle.linear_model.proofs.Tables.{every_fails}
use Rattle.numbers.specs.declared.refusal.Refusal.{Refusal}
use Rattle.numbers.specs.declared.refusal.Refusal.TheVariants.{UnfitTrit}
use Rattle.matrix_model.specs.Block.{Layout, rows_in}
use Rattle.matrix_model.specs.File.{Fits, block_count, file_size, rows_size, row_plane_of, rows_of, fit_row}
use Rattle.matrix_model.specs.Internal.Rows.{nonzero_row, rows_answer, rows_in_file, rows_for_block}
use Rattle.matrix_model.proofs.Parts.{same_part, get_d_part, length_part}
use Rattle.matrix_model.proofs.Layouts.{planes, next_bytes, full}
use Rattle.matrix_model.proofs.Rows.{length_rows, get_d_rows}
use Rattle.matrix_model.proofs.Internal.Rows.{fit_take, zero-take, within_file}

-- a test in two parts
every_split : (m k : ℕ) (p q : ℕ → Bool) → ((j : ℕ) → j < k → p (m + j) ≡ q j) → every (m + k) p ≡ (every m p && every k q)
unfolding every
every_split m zero p q h = rw add-zero (sym (right_unit (every m p)))
  where
    right_unit : (b : Bool) → (b && true) ≡ b
    right_unit true = refl
    right_unit false = refl
every_split m (suc k) p q h =
    rw (add-suc, every_split m k p q (λ j l. h j (omega arith)), h k (omega arith)) (regroup (every m p) (every k q) (q k))
  where
    regroup : (a b c : Bool) → ((a && b) && c) ≡ (a && (b && c))
    regroup true b c = refl
    regroup false b c = refl

-- part is k rows of set, from row i on
pub record Among (layout : Layout) (set : List ℕ) (i k : ℕ) (part : List ℕ) : Type 0 where
  pub within : layout.row_bytes * (i + k) ≤ length set
  pub long : length part ≡ layout.row_bytes * k
  pub same : (q : ℕ) → q < layout.row_bytes * k → get_or set (layout.row_bytes * i + q) 0 ≡ get_or part q 0

module _ {layout : Layout} (fits : Fits layout) {set : List ℕ} {i k : ℕ} {part : List ℕ} (a : Among layout set i k part) where
  same_bytes : (j : ℕ) → j < k → take layout.row_bytes (drop (layout.row_bytes * (i + j)) set) ≡ take layout.row_bytes (drop (layout.row_bytes * j) part)
  same_bytes j l =
      let n = layout.row_bytes in
      let m : n * (j + 1) ≤ n * k = mul-le-mul_left n (omega arith) in
      same_part n (n * (i + j)) (n * j) set part (omega (arith, a.within)) (omega (arith, a.long))
      (λ q h. ap (λ (x : ℕ). get_or set x 0) {y = n * i + (n * j + q)} (omega arith) ∙ a.same (n * j + q) (omega arith))

  -- by planes
  pub same_row : (j : ℕ) → j < k
      → take (2 * row_plane_of layout) (drop (2 * row_plane_of layout * (i + j)) set) ≡ take (2 * row_plane_of layout) (drop (2 * row_plane_of layout * j) part)
  same_row j l = rw (planes layout fits) (same_bytes j l)

  fit_part : every (i + k) (fit_row layout set) ≡ (every i (fit_row layout set) && every k (fit_row layout part))
  fit_part =
      let m = row_plane_of layout in
      every_split i k (fit_row layout set) (fit_row layout part)
      (λ j l. sym (fit_take m (8 * m) (drop (2 * m * (i + j)) set) (omega arith)) ∙ ap (fit_trits m (8 * m)) (same_row j l) ∙ fit_take m (8 * m) (drop (2 * m * j) part) (omega arith))

  nonzero_part : every (i + k) (nonzero_row layout set) ≡ (every i (nonzero_row layout set) && every k (nonzero_row layout part))
  nonzero_part =
      let m = row_plane_of layout in
      every_split i k (nonzero_row layout set) (nonzero_row layout part)
      (λ j l. ap not (sym (zero-take m (drop (2 * m * (i + j)) set)) ∙ ap (zero_trits m 0) (same_row j l) ∙ zero-take m (drop (2 * m * j) part)))

not_not : (b : Bool) → b ≡ not (not b)
not_not true = refl
not_not false = refl

-- the answer to one row, by the tests of the slice that has it
pub one_row : (layout : Layout) (row : List ℕ) (t : ℕ) (f z : Bool) → length row ≡ layout.row_bytes → 8 * row_plane_of layout ≤ t
    → f ≡ fit_trits (length row / 2) (min t (8 * (length row / 2))) row
    → z ≡ zero_trits (length row / 2) 0 row → cond f (Ok z) (Err UnfitTrit) ≡ rows_answer layout 1 row
unfolding rows_answer every
one_row layout row t f z e l hf hz =
    let m : min t (8 * row_plane_of layout) ≡ 8 * row_plane_of layout = omega arith in
    let none : 2 * row_plane_of layout * 0 ≡ 0 = omega arith in
    let p = row_plane_of layout in
    rw (hf, hz, e, m, none) (ap (λ (b : Bool). cond (fit_trits p (8 * p) row) (Ok b) (Err UnfitTrit)) {x = zero_trits p 0 row} (not_not _))

-- the first i rows have no trit with both bits set, and whether one of them is all zero
pub record Judging (layout : Layout) (set : List ℕ) (i : ℕ) (zero : Bool) : Type 0 where
  pub fit : every i (fit_row layout set) ≡ true
  pub is : zero ≡ not (every i (nonzero_row layout set))

-- where a loop begins
pub judging_none : {layout : Layout} {set : List ℕ} → Judging layout set 0 false
unfolding every
judging_none = record { fit = refl; is = refl }

-- where it ends
pub judging_all : {layout : Layout} {set : List ℕ} {i : ℕ} {zero : Bool} (n : ℕ) → Judging layout set i zero → i ≡ n → Ok zero ≡ rows_answer layout n set
unfolding rows_answer
judging_all n j e = let k = rw e at j in rw (k.fit, ← k.is)

-- a part that is accepted has no trit with both bits set
pub accepted : (f z found : Bool) → ◌≡◌ {A = Result Bool Refusal} (cond f (Ok z) (Err UnfitTrit)) (Ok found) → (f ≡ true) × (z ≡ found)
accepted true z found e = (refl, cc)
accepted false z found e = cc

pub refused : (f z : Bool) (refusal : Refusal) → ◌≡◌ {A = Result Bool Refusal} (cond f (Ok z) (Err UnfitTrit)) (Err refusal) → (f ≡ false) × (UnfitTrit ≡ refusal)
refused true z refusal e = cc
refused false z refusal e = (refl, cc)

either_zero : (a b : Bool) → (not a || not b) ≡ not (a && b)
either_zero true b = refl
either_zero false b = refl

-- a part more: it is accepted, or it is refused, and so is the whole
module _ {layout : Layout} (fits : Fits layout) {set : List ℕ} {i k : ℕ} {zero : Bool} {part : List ℕ} (a : Among layout set i k part) (j : Judging layout set i zero) where
  pub judging_more : {found : Bool} → rows_answer layout k part ≡ Ok found → Judging layout set (i + k) (zero || found)
  unfolding rows_answer
  judging_more {found} e =
      let h = accepted (every k (fit_row layout part)) (not (every k (nonzero_row layout part))) found e in
      record {
        fit = fit_part fits a ∙ rw (j.fit, h.0);
        is = rw (j.is, ← h.1) (either_zero _ _ ∙ ap not (sym (nonzero_part fits a)));
      }

  pub judging_unfit : {refusal : Refusal} (n : ℕ) → i + k ≤ n → rows_answer layout k part ≡ Err refusal → Err refusal ≡ rows_answer layout n set
  unfolding rows_answer
  judging_unfit {refusal} n l e =
      let h = refused (every k (fit_row layout part)) (not (every k (nonzero_row layout part))) refusal e in
      rw (← every_fails (i + k) n (fit_row layout set) l (fit_part fits a ∙ rw (j.fit, h.0)), h.1)

-- a part that is cut out
pub among_part : {layout : Layout} {set part : List ℕ} (i k : ℕ) → layout.row_bytes * (i + k) ≤ length set
    → part ≡ take (layout.row_bytes * k) (drop (layout.row_bytes * i) set) → Among layout set i k part
among_part {layout} {set} i k h e =
    let n = layout.row_bytes in
    record {
      within = h;
      long = rw e (length_part (n * k) (n * i) set (omega arith));
      same = λ q r. rw e (sym (get_d_part (n * k) (n * i) set q r));
    }

-- one row that is cut out
pub one_part : (n i : ℕ) (set : List ℕ) {part : List ℕ} → part ≡ take n (drop (n * i) set) → part ≡ take (n * 1) (drop (n * i) set)
one_part n i set e = let o : n * 1 ≡ n = omega arith in rw o e

module _ (layout : Layout) (fits : Fits layout) where
  -- the rows in block b of a file are the next of its rows
  pub block_rows_lem : (file : List ℕ) (b : ℕ) → length file ≡ file_size layout → b < block_count layout
      → rows_in_file layout file b ≡ rows_for_block layout (rows_of layout file) b
  block_rows_lem file b h l =
      let n = layout.row_bytes * rows_in layout b in
      let at = layout.row_bytes * layout.block_rows * b in
      let room = next_bytes layout fits b l in
      same_part n (512 * b + 4) at file (rows_of layout file) (within_file layout fits file b h l) (omega (arith, length_rows layout file))
      (λ k q. sym (get_d_rows layout fits file b k (full layout fits b k q) (omega arith)))

  -- the rows of block b, among those of a file or a set
  pub among_block : {set part : List ℕ} (b : ℕ) → length set ≡ rows_size layout → b < block_count layout → part ≡ rows_for_block layout set b
      → Among layout set (layout.block_rows * b) (rows_in layout b) part
  among_block {set} b h l e =
      let room = next_bytes layout fits b l in
      let at : layout.row_bytes * layout.block_rows * b ≡ layout.row_bytes * (layout.block_rows * b) = omega arith in
      among_part (layout.block_rows * b) (rows_in layout b) (omega arith)
      (e ∙ ap (λ (x : ℕ). take (layout.row_bytes * rows_in layout b) (drop x set)) at)
