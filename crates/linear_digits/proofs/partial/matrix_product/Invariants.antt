-- `linear_digits::partial::matrix_product` meets its contract. The invariant of its loop: the first p bytes of each plane are those of the product.
use Prim.Native.Nat.{◌/◌}
use lib.ListN.{length}
use Rattle.linear_model.specs.Tables.{below}
use Rattle.linear_model.specs.Products.{row_digit}
use Rattle.linear_model.proofs.Filling.{Planes}
use Rattle.linear_digits.proofs.partial.matrix_product.Given as goal

abbrev pub invariant-loop-p : goal.invariant-loop-p
invariant-loop-p l =
    Planes l.n (below l.t (row_digit (length l.v / 2) l.rows l.v)) l.p l.initial.out l.out
