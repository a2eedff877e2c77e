-- Schemes with the circulant product: at any size, of each set, and document 01's.
use Rattle.std.specs.Prelude.{ℕ, ◌/◌, ◌≡◌, List, true}
use Rattle.linear_model.specs.Products.{circulant_product}
use Rattle.numbers.specs.Number.{Condition}
use Rattle.numbers.specs.Sets.{is_set, set_bits, set_digits}
use Rattle.matrix_model.specs.Block.{Layout}
use Rattle.matrix_model.specs.File.{file_size, faults_of, rows_of, layout_of}
use Rattle.pair_model.specs.Scheme.{Reading, reads_nothing, Scheme}

-- a format of matrix files: how long a file is, what else may be wrong with it, and the rows that it holds
pub record Format : Type 0 where
  pub bytes : ℕ
  pub faults : List ℕ → List Condition
  pub rows : List ℕ → List ℕ

-- all of the matrix file
abbrev pub matrix_reading : Format → Reading
matrix_reading F = record { content = λ lent. lent.matrix; bytes = F.bytes; faults = F.faults }

-- keys, labels and inner vectors of n bytes, t digits, the circulant product, which reads no file, and the rows of a matrix file
abbrev pub circulant_scheme : (set n t : ℕ) → Format → Scheme
circulant_scheme set n t F =
    record {
      set = set;
      key_bytes = n;
      inner_bytes = n;
      digits = t;
      product_reading = reads_nothing;
      product = λ content key label. circulant_product n key label;
      rows_reading = matrix_reading F;
      rows = F.rows;
    }

-- files of blocks
abbrev pub block_format : Layout → Format
block_format layout = record { bytes = file_size layout; faults = faults_of layout; rows = rows_of layout }

-- a set's
abbrev pub scheme_of : ℕ → Scheme
scheme_of set = circulant_scheme set (set_bits set / 8) (set_digits set) (block_format (layout_of set))

-- what holds in sets 1, 2 and 3
abbrev pub InEachSet : (Scheme → Type 0) → Type 0
InEachSet P = (set : ℕ) → is_set set ≡ true → P (scheme_of set)

-- document 01's: 256 bits and 81 digits
abbrev pub base : Scheme
base = scheme_of 1
