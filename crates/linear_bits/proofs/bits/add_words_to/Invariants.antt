-- `linear_bits::bits::add_words_to` meets its contract. The invariant of its loop: the first i bytes are those of the sum, and the others are as they were. The last word is stored over some of them.
use Prim.Native.Nat.{◌*◌}
use Rattle.linear_model.specs.Bits.{sum_bit, byte_of}
use Rattle.linear_model.proofs.Filling.{Filling}
use Rattle.linear_bits.proofs.bits.add_words_to.Given as goal

abbrev pub invariant-loop-k : goal.invariant-loop-k
invariant-loop-k l = Filling (byte_of (sum_bit l.initial.out l.a)) (8 * l.k) l.initial.out l.out
