-- Bit strings packed into bytes, lowest bit first, and their sum modulo 2, for any number of bytes.
use Rattle.std.specs.Prelude.{ℕ, zero, suc, ◌+◌, ◌*◌, ◌/◌, ◌%◌, ◌^◌, ◌<◌, ◌≡◌, List, length, get_or, replicate}
use Rattle.linear_model.specs.Tables.{tabulate, from}

-- s is n bytes
pub record Bytes (n : ℕ) (s : List ℕ) : Type 0 where
  pub size : length s ≡ n
  pub small : (i : ℕ) → get_or s i 0 < 256

-- n zero bytes
abbrev pub zeros : ℕ → List ℕ
zeros n = replicate n 0

-- bit k of a number, bit 0 lowest
abbrev pub bit_at : ℕ → ℕ → ℕ
bit_at x k = x / 2 ^ k % 2

-- the number of k bits f 0, f 1, .. f (k − 1)
unfoldable pub from_bits : ℕ → (ℕ → ℕ) → ℕ
from_bits zero f = 0
from_bits (suc k) f = f 0 + 2 * from_bits k (λ i. f (suc i))

-- bit j of a string: bit j mod 8 of byte j div 8; past the end, 0
unfoldable pub bit : List ℕ → ℕ → ℕ
bit s j = bit_at (get_or s (j / 8) 0) (j % 8)

-- byte i of the string whose bit j is f j
abbrev pub byte_of : (ℕ → ℕ) → ℕ → ℕ
byte_of f i = from_bits 8 (from (8 * i) f)

-- the n bytes whose bit j is f j
unfoldable pub pack : ℕ → (ℕ → ℕ) → List ℕ
pack n f = tabulate n (byte_of f)

-- bit j of a + b modulo 2
abbrev pub sum_bit : List ℕ → List ℕ → ℕ → ℕ
sum_bit a b j = (bit a j + bit b j) % 2

-- a + b modulo 2, as n bytes
unfoldable pub add_bits : ℕ → List ℕ → List ℕ → List ℕ
add_bits n a b = pack n (sum_bit a b)
