-- `source::copying::copy_words` meets its contract. The invariant of its loop: the first bytes are copied, 16 a turn. A last word may be stored over some of them.
use mathlib.Core.List.{List}
use Prim.Native.Nat.{ℕ, ◌+◌, ◌*◌, min}
use Rattle.linear_model.specs.Tables.{from}
use Rattle.linear_model.specs.Bits.{bit, byte_of}
use Rattle.linear_model.proofs.Filling.{Filling}
use Rattle.source.proofs.copying.copy_words.Given as goal

-- the source's bits from pair `at` of a byte on
abbrev pub bits : List ℕ → ℕ → ℕ → ℕ → ℕ
bits source byte at = from (2 * (4 * byte + at)) (bit source)

abbrev pub invariant-loop-turn : goal.invariant-loop-turn
invariant-loop-turn l = Filling (byte_of (bits l.reader.source.now l.reader.byte l.reader.pair)) (min (16 * l.turn) l.n) l.initial.out l.out
