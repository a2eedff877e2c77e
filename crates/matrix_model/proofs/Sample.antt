-- The matrix of the paper's sample is fit, and so are the diagonal rows of every layout with no more rows than columns.
use Prim.Native.Nat.{ℕ, ◌*◌, ◌<◌, ◌≤◌}
use mathlib.Core.Path.{◌≡◌, refl, ◌∙◌}
use mathlib.Core.Bool.{Bool, true, false, cond}
use lib.Dec.{eqb, lit<, lit≤}
use lib.ListN.{drop}
use Rattle.linear_model.specs.Tables.{one_at}
use Rattle.linear_model.specs.Trits.{trit}
use Rattle.elimination_model.proofs.Elimination.{diagonal_untied}
use Rattle.numbers.proofs.Numbers.{first-zero}
use Rattle.matrix_model.specs.Block.{Layout}
use Rattle.matrix_model.specs.File.{Fits, matrix_b, row_plane_of, file_from, tied_rows_of, row_faults_of, SurvivesOf}
use Rattle.matrix_model.specs.Sample.{diagonal_rows, sample_file}
use Rattle.matrix_model.proofs.RoundTrip.{survives}
use Rattle.matrix_model.proofs.Layouts.{first_fits}
use Rattle.matrix_model.proofs.PackedRows.{length_packed, packed_trit, packed_fit, packed_tied}

-- 1 and 0 are digits
pub one-small : (b : Bool) → cond b 1 0 < 3
one-small true = lit< tt
one-small false = lit< tt

pub one_at-small : (i j : ℕ) → one_at i j < 3
one_at-small i j = one-small (eqb i j)

module _ (layout : Layout) (fits : Fits layout) (columns : layout.row_count ≤ 8 * row_plane_of layout) where
  -- the diagonal rows are not tied
  diagonal_rows_untied : tied_rows_of layout (diagonal_rows layout) ≡ false
  diagonal_rows_untied =
      packed_tied layout fits.two_planes one_at one_at-small
      ∙ diagonal_untied (8 * row_plane_of layout) layout.row_count columns

  -- so their file is fit, and has these rows
  pub diagonal_survives : SurvivesOf layout (diagonal_rows layout) (file_from layout (diagonal_rows layout))
  unfolding row_faults_of
  diagonal_survives =
      survives layout fits (diagonal_rows layout) (length_packed layout one_at)
      (first-zero (row_faults_of layout (diagonal_rows layout)) (packed_fit layout fits.two_planes one_at one_at-small, (diagonal_rows_untied, tt)))

-- the sample's: trit j of row i
pub trit_is : (i : ℕ) → i < 81 → (j : ℕ) → j < 256 → trit 32 (drop (64 * i) (diagonal_rows matrix_b)) j ≡ one_at i j
trit_is = packed_trit matrix_b refl one_at one_at-small

-- and its file
pub sample_survives : SurvivesOf matrix_b (diagonal_rows matrix_b) sample_file
sample_survives = diagonal_survives matrix_b first_fits (lit≤ tt)
