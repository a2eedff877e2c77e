-- A block of a matrix file: 512 bytes, with a head of four, the rows, zeros, and a check of two sums.
use Rattle.std.specs.Prelude.{ℕ, zero, suc, ◌+◌, ◌-◌, ◌*◌, ◌%◌, min, List, [], ◌∷◌, ◌++◌, Bool, ◌&&◌, eqb, get_or, take, drop}
use Rattle.linear_model.specs.Tables.{every}
use Rattle.linear_model.specs.Bits.{zeros}

-- what one sort of file has: the letter in byte 0 of its blocks, the set in byte 3, the bytes of a row, the rows of a full block, the rows in all
pub record Layout : Type 0 where
  pub letter : ℕ
  pub set : ℕ
  pub row_bytes : ℕ
  pub block_rows : ℕ
  pub row_count : ℕ

-- the bytes of a block, of its head, and those that the check is made of
abbrev pub block_bytes : ℕ
block_bytes = 512

abbrev pub head_bytes : ℕ
head_bytes = 4

abbrev pub checked_bytes : ℕ
checked_bytes = 510

-- the rows in block b: as many as a block holds; in the last block, what remains
abbrev pub rows_in : Layout → ℕ → ℕ
rows_in layout b = min layout.block_rows (layout.row_count - layout.block_rows * b)

-- bytes 0 to 3 of block b: the letter, the block number, the rows in it, the set
abbrev pub head : Layout → ℕ → List ℕ
head layout b = layout.letter ∷ b ∷ rows_in layout b ∷ layout.set ∷ []

-- rows start after the head; this is the first byte that they do not use
abbrev pub rows_end : Layout → ℕ → ℕ
rows_end layout b = head_bytes + layout.row_bytes * rows_in layout b

-- byte j of block b is as in the head
abbrev pub head_byte : Layout → ℕ → List ℕ → ℕ → Bool
head_byte layout b block j = eqb (get_or block j 0) (get_or (head layout b) j 0)

-- byte k is zero
abbrev pub zero_byte : List ℕ → ℕ → Bool
zero_byte s k = eqb (get_or s k 0) 0

-- byte k of those not used by rows is zero
abbrev pub unused_byte : Layout → ℕ → List ℕ → ℕ → Bool
unused_byte layout b block k = zero_byte block (rows_end layout b + k)

-- bytes 0 to 3 and the bytes up to 509 not used by rows are as stated
unfoldable pub laid_out : Layout → ℕ → List ℕ → Bool
laid_out layout b block =
    every head_bytes (head_byte layout b block) && every (checked_bytes - rows_end layout b) (unused_byte layout b block)

-- the two sums from 0, modulo 255, after i bytes: the first adds each byte
unfoldable pub first_sum : List ℕ → ℕ → ℕ
first_sum block zero = 0
first_sum block (suc i) = (first_sum block i + get_or block i 0) % 255

-- the second adds the first after each byte
unfoldable pub second_sum : List ℕ → ℕ → ℕ
second_sum block zero = 0
second_sum block (suc i) = (second_sum block i + first_sum block (suc i)) % 255

-- the check of bytes 0 to 509
unfoldable pub check : List ℕ → List ℕ
check block = first_sum block checked_bytes ∷ second_sum block checked_bytes ∷ []

-- bytes 510 and 511 are the check
unfoldable pub check_holds : List ℕ → Bool
check_holds block =
    eqb (get_or block 510 0) (get_or (check block) 0 0) && eqb (get_or block 511 0) (get_or (check block) 1 0)

-- bytes 0 to 509 of block b of the file of these rows: the head, the rows in it, zeros
unfoldable pub front_of : Layout → List ℕ → ℕ → List ℕ
front_of layout rows b =
    head layout b
    ++ take (layout.row_bytes * rows_in layout b) (drop (layout.row_bytes * layout.block_rows * b) rows)
    ++ zeros (checked_bytes - rows_end layout b)

-- block b of the file of these rows
unfoldable pub block_of : Layout → List ℕ → ℕ → List ℕ
block_of layout rows b = front_of layout rows b ++ check (front_of layout rows b)
