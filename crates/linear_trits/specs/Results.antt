-- What contracts of this crate say: no public contract of `linear` cites it.
use Rattle.std.specs.Prelude.{ℕ, ◌+◌, ◌*◌, ◌<◌, ◌≡◌, List}
use Rattle.linear_model.specs.Bits.{bit_at, bit}
use Rattle.linear_model.specs.Trits.{trit}
use Rattle.linear_model.specs.Internal.Planes.{trit_of}

-- x and u have w bits of s from byte i on and from byte h + i on
pub record Holds (w h : ℕ) (s : List ℕ) (i x u : ℕ) : Type 0 where
  pub bits : (k : ℕ) → k < w → bit s (8 * i + k) ≡ bit_at x k
  pub trits : (k : ℕ) → k < w → trit h s (8 * i + k) ≡ trit_of x u k

-- trit j of what an operation f gives of a, whose high plane begins at byte h, and of b in planes of m bytes
abbrev pub result_trit : (ℕ → ℕ → ℕ → ℕ) → ℕ → ℕ → List ℕ → List ℕ → ℕ → ℕ
result_trit f h m a b j = f (bit a j) (trit h a j) (trit m b j)
