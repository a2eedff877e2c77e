-- The numbers of check, reader and writer by lengths: another length and a slice that is too short give 1, and where neither is so the faults decide.
use mathlib.Core.Path.{◌≡◌, refl}
use mathlib.Core.List.{List}
use mathlib.Core.Bool.{Bool, true, false, cond, not}
use Prim.Native.Nat.{ℕ, ◌<◌, ◌≤◌}
use borrow.Author.Tests.{eq-eqb, ne_eqb, lt-ltb, le-ltb}
use lib.Dec.{eqb}
use lib.ListN.{length}
use Rattle.numbers.specs.Number.{first}
use Rattle.matrix_model.specs.Block.{Layout}
use Rattle.matrix_model.specs.File.{file_size, rows_size, faults_of, row_faults_of, check_number_of, read_number_of, write_number_of}

either : (b : Bool) → ◌≡◌ {A = ℕ} 1 (cond b 1 1)
either true = refl
either false = refl

module _ (layout : Layout) (file : List ℕ) where
  pub other_check : (length file ≡ file_size layout → ⊥) → 1 ≡ check_number_of layout file
  unfolding first
  other_check h = rw (ne_eqb (length file) (file_size layout) h)

  pub whole_check : length file ≡ file_size layout → first (faults_of layout file) ≡ check_number_of layout file
  unfolding first
  whole_check e = rw (eq-eqb (length file) (file_size layout) e)

  module _ (n : ℕ) where
    pub other_read : (length file ≡ file_size layout → ⊥) → 1 ≡ read_number_of layout file n
    unfolding first
    other_read h = rw (ne_eqb (length file) (file_size layout) h)

    pub short_read : n < rows_size layout → 1 ≡ read_number_of layout file n
    unfolding first
    short_read h = rw (lt-ltb n (rows_size layout) h) (either (not (eqb (length file) (file_size layout))))

    pub whole_read : length file ≡ file_size layout → rows_size layout ≤ n → first (faults_of layout file) ≡ read_number_of layout file n
    unfolding first
    whole_read e h = rw (eq-eqb (length file) (file_size layout) e, le-ltb n (rows_size layout) h)

module _ (layout : Layout) (rows : List ℕ) (n : ℕ) where
  pub other_write : (length rows ≡ rows_size layout → ⊥) → 1 ≡ write_number_of layout rows n
  unfolding first
  other_write h = rw (ne_eqb (length rows) (rows_size layout) h)

  pub short_write : n < file_size layout → 1 ≡ write_number_of layout rows n
  unfolding first
  short_write h = rw (lt-ltb n (file_size layout) h) (either (not (eqb (length rows) (rows_size layout))))

  pub whole_write : length rows ≡ rows_size layout → file_size layout ≤ n → first (row_faults_of layout rows) ≡ write_number_of layout rows n
  unfolding first
  whole_write e h = rw (eq-eqb (length rows) (rows_size layout) e, le-ltb n (file_size layout) h)
