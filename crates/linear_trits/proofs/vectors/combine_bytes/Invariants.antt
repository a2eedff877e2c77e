-- `linear_trits::vectors::combine_bytes` meets its contract. The invariant of its loop: the first i bytes of each plane are those of the result.
use Rattle.linear_model.proofs.Filling.{Planes}
use Rattle.linear_trits.specs.Results.{result_trit}
use Rattle.linear_trits.proofs.vectors.combine_bytes.Given as goal

abbrev pub invariant-loop-i : goal.invariant-loop-i
invariant-loop-i g l = Planes l.m (result_trit (g.O.Operation.trit l.op) l.high l.m l.a l.b) l.i l.initial.out l.out
