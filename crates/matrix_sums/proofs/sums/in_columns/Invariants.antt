-- `matrix_sums::sums::in_columns` meets its contract. The invariant of its loop: the lanes have the first 32 * k bytes.
use Prim.Native.Nat.{◌*◌}
use Rattle.matrix_model.specs.Internal.Lanes.{GroupLanes}
use Rattle.matrix_sums.proofs.sums.in_columns.Given as goal

abbrev pub invariant-loop-k : goal.invariant-loop-k
invariant-loop-k l =
    GroupLanes l.part (32 * l.k) l.left.pairs l.left.odd l.left.ahead l.right.pairs l.right.odd l.right.ahead
