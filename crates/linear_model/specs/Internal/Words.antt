-- Words of strings, stores of words, and the terms of a product modulo 2 by words.
use Rattle.std.specs.Prelude.{ℕ, ◌+◌, ◌*◌, ◌/◌, ◌%◌, ◌^◌, List, set}
use Rattle.linear_model.specs.Bits.{bit}

-- s with the four low bytes of x from place i on, and with all eight
unfoldable pub set_half : List ℕ → ℕ → ℕ → List ℕ
set_half s i x = set (set (set (set s i (x / 2 ^ 0 % 256)) (i + 1) (x / 2 ^ 8 % 256)) (i + 2) (x / 2 ^ 16 % 256)) (i + 3) (x / 2 ^ 24 % 256)

unfoldable pub set_word : List ℕ → ℕ → ℕ → List ℕ
set_word s i x = set_half (set_half s i x) (i + 4) (x / 2 ^ 32)

-- bit j of a times bit s + j of b
abbrev pub shift_term : List ℕ → List ℕ → ℕ → ℕ → ℕ
shift_term a b s j = bit a j * bit b (s + j)
