-- `linear_bits::bits::add_bytes` meets its contract. The invariant of its loop: the first i bytes are those of the sum.
use Rattle.linear_model.specs.Bits.{sum_bit, byte_of}
use Rattle.linear_model.proofs.Filling.{Filling}
use Rattle.linear_bits.proofs.bits.add_bytes.Given as goal

abbrev pub invariant-loop-i : goal.invariant-loop-i
invariant-loop-i l = Filling (byte_of (sum_bit l.a l.b)) l.i l.initial.out l.out
