-- Trits in two planes, by whole bytes and words of each plane.
use Rattle.std.specs.Prelude.{ℕ, ◌+◌, ◌*◌, ◌%◌, ◌≡◌}
use Rattle.std.specs.Int.Bits.{bit_xor, bit_and, bit_or}
use Rattle.linear_model.specs.Tables.{from}
use Rattle.linear_model.specs.Bits.{bit_at, from_bits}
use Rattle.linear_model.specs.Trits.{low, high}
use Rattle.linear_model.specs.Digits.{digit_product}

-- the trit that has its bits in place k of x and of u
abbrev pub trit_of : ℕ → ℕ → ℕ → ℕ
trit_of x u k = bit_at x k + 2 * bit_at u k

-- the entry of the table of digit products for the trits in place k of x, u and of y, w: a trit with both bits set counts as 0
abbrev pub trit_product : ℕ → ℕ → ℕ → ℕ → ℕ → ℕ
trit_product x u y w k = digit_product (trit_of x u k % 3) (trit_of y w k % 3)

-- x and y are w bits of each plane of the trits f, from byte i on
pub record PlaneBits (w : ℕ) (f : ℕ → ℕ) (i x y : ℕ) : Type 0 where
  pub low_is : x ≡ from_bits w (from (8 * i) (low f))
  pub high_is : y ≡ from_bits w (from (8 * i) (high f))

-- p and q are the low bytes of x and u
pub record Narrow (x u p q : ℕ) : Type 0 where
  pub low_is : p ≡ x % 256
  pub high_is : q ≡ u % 256

-- the sum of two fit trits in the other plane's terms, and its two planes, by the code's operations on whole words
abbrev pub odd_of : ℕ → ℕ → ℕ → ℕ → ℕ
odd_of x u y w = bit_xor (bit_or x w) (bit_or u y)

abbrev pub sum_low : ℕ → ℕ → ℕ → ℕ → ℕ
sum_low x u y w = bit_xor (bit_or u w) (odd_of x u y w)

abbrev pub sum_high : ℕ → ℕ → ℕ → ℕ → ℕ
sum_high x u y w = bit_xor (bit_or x y) (odd_of x u y w)

-- where the product of trits of planes x, u and of planes y, w is not 0, and where it is 2, by the code's operations on whole words
abbrev pub nonzero : ℕ → ℕ → ℕ → ℕ → ℕ
nonzero x u y w = bit_and (bit_xor x u) (bit_xor y w)

abbrev pub twos : ℕ → ℕ → ℕ → ℕ → ℕ
twos x u y w = bit_and (nonzero x u y w) (bit_xor u w)

-- two words whose bits at even places count once and at odd places twice, modulo 3: the first plus twice the second has the digits of planes x, u
abbrev pub plus_of : ℕ → ℕ → ℕ
plus_of x u = bit_xor (bit_and (bit_xor x u) 0x5555555555555555) u

abbrev pub minus_of : ℕ → ℕ → ℕ
minus_of x u = bit_xor (bit_and (bit_xor x u) 0x5555555555555555) x
