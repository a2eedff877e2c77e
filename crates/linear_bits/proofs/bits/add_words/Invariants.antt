-- `linear_bits::bits::add_words` meets its contract. The invariant of its loop: the first i bytes are those of the sum. A last word may be stored over some of them.
use Prim.Native.Nat.{◌*◌, min}
use Rattle.linear_model.specs.Bits.{sum_bit, byte_of}
use Rattle.linear_model.proofs.Filling.{Filling}
use Rattle.linear_bits.proofs.bits.add_words.Given as goal

abbrev pub invariant-loop-k : goal.invariant-loop-k
invariant-loop-k l = Filling (byte_of (sum_bit l.a l.b)) (min (16 * l.k) l.n) l.initial.out l.out
