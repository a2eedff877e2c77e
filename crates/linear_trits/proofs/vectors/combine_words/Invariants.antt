-- `linear_trits::vectors::combine_words` meets its contract. The invariant of its loop: the first 16k bytes of each plane are those of the result. A last word may be stored over some of them.
use Prim.Native.Nat.{◌*◌, min}
use Rattle.linear_model.proofs.Filling.{Planes}
use Rattle.linear_trits.specs.Results.{result_trit}
use Rattle.linear_trits.proofs.vectors.combine_words.Given as goal

abbrev pub invariant-loop-k : goal.invariant-loop-k
invariant-loop-k g l = Planes l.m (result_trit (g.O.Operation.trit l.op) l.high l.m l.a l.b) (min (16 * l.k) l.m) l.initial.out l.out
