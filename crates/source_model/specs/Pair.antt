-- Pairs of bits of a source.
use Rattle.std.specs.Prelude.{ℕ, ◌/◌, ◌%◌, ◌^◌, List, get_or}

-- pair k of a source: each byte gives four pairs of bits, lowest first; past the end, 0
unfoldable pub pair : List ℕ → ℕ → ℕ
pair source k = get_or source (k / 4) 0 / 4 ^ (k % 4) % 4
