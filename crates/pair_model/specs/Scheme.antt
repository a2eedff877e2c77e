-- What the protocol is built over: sizes, the product of key and label, the rows of the matrix, and what is read of public files for both.
use Rattle.std.specs.Prelude.{ℕ, zero, suc, ◌+◌, List, [], ◌∷◌, ◌++◌, Bool, not, eqb, length, take, drop}
use Rattle.linear_model.specs.Bits.{add_bits}
use Rattle.linear_model.specs.Products.{Bilinear}
use Rattle.numbers.specs.Number.{Condition, ◌when◌, first}

-- ---- public files, and what is read of them

-- the public files that a call is lent
pub record Files : Type 0 where
  pub matrix : List ℕ

-- a matrix file alone
abbrev pub files : List ℕ → Files
files matrix = record { matrix = matrix }

-- what a call is lent that reads no file
abbrev pub no_files : Files
no_files = files []

-- what is read in one role: the bytes, how many they must be, and what else may be wrong with them
pub record Reading : Type 0 where
  pub content : Files → List ℕ
  pub bytes : ℕ
  pub faults : List ℕ → List Condition

-- no file
abbrev pub reads_nothing : Reading
reads_nothing = record { content = λ lent. []; bytes = 0; faults = λ content. [] }

-- whether the bytes that are read are more or fewer
abbrev pub bad_length : Reading → Files → Bool
bad_length reading lent = not (eqb (length (reading.content lent)) reading.bytes)

-- what else is wrong with them
abbrev pub faults_in : Reading → Files → List Condition
faults_in reading lent = reading.faults (reading.content lent)

-- the number of what is read, of any length; it is fit where that is 0
unfoldable pub reading_number : Reading → Files → ℕ
reading_number reading lent = first (1 when bad_length reading lent ∷ faults_in reading lent)

-- ---- schemes

pub record Scheme : Type 0 where
  -- the set that a unit's state keeps
  pub set : ℕ
  -- bytes of a key and of a label
  pub key_bytes : ℕ
  -- bytes of the inner vector
  pub inner_bytes : ℕ
  -- digits of a code
  pub digits : ℕ
  -- what is read for the product, and the product of those bytes, a key and a label
  pub product_reading : Reading
  pub product : List ℕ → List ℕ → List ℕ → List ℕ
  -- what is read for the rows of the matrix, and the rows that those bytes hold
  pub rows_reading : Reading
  pub rows : List ℕ → List ℕ

-- What the theorem asks of a scheme: the product is linear on both sides, whatever is read for it.
pub record Linear (S : Scheme) : Type 0 where
  pub bilinear : (content : List ℕ) → Bilinear S.inner_bytes S.key_bytes (S.product content)

-- the product and the rows with the files that a call is lent
abbrev pub product_with : Scheme → Files → List ℕ → List ℕ → List ℕ
product_with S lent = S.product (S.product_reading.content lent)

abbrev pub rows_with : Scheme → Files → List ℕ
rows_with S lent = S.rows (S.rows_reading.content lent)

-- ---- the two sides

pub data Side : Type 0 where
  side0 side1 : Side

abbrev pub side_byte : Side → ℕ
side_byte side0 = 0
side_byte side1 = 1

abbrev pub other : Side → Side
other side0 = side1
other side1 = side0

-- the sum modulo 2 of what both sides have, as n bytes
abbrev pub total : ℕ → (Side → List ℕ) → List ℕ
total n halves = add_bits n (halves side0) (halves side1)

-- ---- strings laid out as fields one after the other

-- the length of a string of fields of these sizes
abbrev pub layout_bytes : List ℕ → ℕ
layout_bytes [] = 0
layout_bytes (n ∷ sizes) = n + layout_bytes sizes

-- field i of a string laid out so
unfoldable pub field : List ℕ → ℕ → List ℕ → List ℕ
field [] i s = []
field (n ∷ sizes) zero s = take n s
field (n ∷ sizes) (suc i) s = field sizes i (drop n s)

-- the string of these fields
unfoldable pub concat : List (List ℕ) → List ℕ
concat [] = []
concat (s ∷ fields) = s ++ concat fields
