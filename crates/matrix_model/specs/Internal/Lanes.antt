-- The sums of a block as the code takes them, by words.
use Rattle.std.specs.Prelude.{ℕ, zero, suc, ◌+◌, ◌*◌, ◌/◌, ◌%◌, ◌^◌, ◌<◌, ◌≤◌, ◌≡◌, List}
use Rattle.std.specs.Int.Bits.{bit_and}
use Rattle.matrix_model.specs.Block.{first_sum, second_sum}

-- the code sums a block in two groups
abbrev pub group_bytes : ℕ
group_bytes = 256

-- r is the lanes of x, of 16 bits each, counted 8, 6, 4 and 2 times
pub record Weighted (x r : ℕ) : Type 0 where
  pub is : r ≡ 8 * (x % 65536) + 6 * (x / 2 ^ 16 % 65536) + 4 * (x / 2 ^ 32 % 65536) + 2 * (x / 2 ^ 48 % 65536)
  pub small : r < 2 ^ 21

-- x and y are the two sums of i bytes, but for multiples of 255
pub record Sums (s : List ℕ) (i x y : ℕ) : Type 0 where
  pub first_is : x % 255 ≡ first_sum s i
  pub second_is : y % 255 ≡ second_sum s i

-- lanes with one word more
pub record WordAdded (x pairs odd ahead pairs' odd' ahead' : ℕ) : Type 0 where
  pub pairs_is : pairs' ≡ pairs + (bit_and x 0x00ff00ff00ff00ff + bit_and (x / 2 ^ 8) 0x00ff00ff00ff00ff)
  pub odd_is : odd' ≡ odd + bit_and (x / 2 ^ 8) 0x00ff00ff00ff00ff
  pub ahead_is : ahead' ≡ ahead + pairs

-- the four lanes of `pairs` after n words, none full
pub record FourLanes (n pairs a b c d : ℕ) : Type 0 where
  pub pairs_is : pairs ≡ a + 65536 * (b + 65536 * (c + 65536 * d))
  pub a_small : a ≤ 510 * n
  pub b_small : b ≤ 510 * n
  pub c_small : c ≤ 510 * n
  pub d_small : d ≤ 510 * n

-- lanes of n words: f is the sum of their bytes, w has each byte as often as there are places from it on in its word,
-- h has each byte once for each word after its own
pub data ColumnSums : ℕ → ℕ → ℕ → ℕ → ℕ → ℕ → ℕ → Type 0 where
  column_sums : {n pairs odd ahead f w h : ℕ} (a b c d o : ℕ) → FourLanes n pairs a b c d → f ≡ a + b + c + d
      → w + o ≡ 8 * a + 6 * b + 4 * c + 2 * d → odd % 255 ≡ o % 255 → ahead % 255 ≡ h % 255 → ColumnSums n pairs odd ahead f w h

-- the two sums of i bytes, from the lanes of two columns
pub data BothColumns : List ℕ → ℕ → ℕ → ℕ → ℕ → ℕ → ℕ → ℕ → Type 0 where
  both_columns : {s : List ℕ} {i p o a q r b : ℕ} (f w h g v k : ℕ) → ColumnSums (i / 16) p o a f w h → ColumnSums (i / 16) q r b g v k
      → Sums s i (f + g) (16 * (h + k) + w + 8 * f + v) → BothColumns s i p o a q r b

-- 0 + 1 + .. + (n - 1)
unfoldable pub triangle : ℕ → ℕ
triangle zero = 0
triangle (suc n) = triangle n + n

-- lanes of n words, small enough to add a word to
pub record NoLaneFull (n pairs odd ahead : ℕ) : Type 0 where
  pub pairs_small : pairs ≤ 0x01fe01fe01fe01fe * n
  pub odd_small : odd ≤ 0x00ff00ff00ff00ff * n
  pub ahead_small : ahead ≤ 0x01fe01fe01fe01fe * triangle n

-- the lanes of both columns after i bytes
pub record GroupLanes (s : List ℕ) (i p o a q r b : ℕ) : Type 0 where
  pub sums : BothColumns s i p o a q r b
  pub left_small : NoLaneFull (i / 16) p o a
  pub right_small : NoLaneFull (i / 16) q r b

-- x and y are the two sums of any group that have these lanes, and small enough to add up
pub record GroupTotals (p o a q r b x y : ℕ) : Type 0 where
  pub sums : (s : List ℕ) → BothColumns s group_bytes p o a q r b → Sums s group_bytes x y
  pub first_small : x < 2 ^ 34
  pub second-small : y < 2 ^ 43
