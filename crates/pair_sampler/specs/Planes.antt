-- The planes of trits, a byte each.
use Rattle.std.specs.Prelude.{ℕ, List}
use Rattle.linear_model.specs.Bits.{bit_at}
use Rattle.source_model.specs.Draw.{trit_of}

-- bit h of trit j
abbrev pub plane_bit : List ℕ → ℕ → ℕ → ℕ
plane_bit trits h j = bit_at (trit_of trits j) h
