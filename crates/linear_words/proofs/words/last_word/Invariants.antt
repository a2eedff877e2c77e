-- `linear_words::words::last_word` meets its contract. The invariant of its loop: `acc` has the first k bytes.
use mathlib.Core.Path.{◌≡◌}
use Prim.Native.Nat.{◌*◌}
use Rattle.linear_model.specs.Tables.{from}
use Rattle.linear_model.specs.Bits.{from_bits, bit}
use Rattle.linear_words.proofs.words.last_word.Given as goal

abbrev pub invariant-loop-k : goal.invariant-loop-k
invariant-loop-k l = l.acc ≡ from_bits (8 * l.k) (from (8 * l.i) (bit l.s))
