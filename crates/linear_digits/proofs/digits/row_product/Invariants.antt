-- `linear_digits::digits::row_product` meets its contract. The invariant of its loop: `acc` is the sum of the columns of the first i bytes.
use mathlib.Core.Path.{◌≡◌}
use Prim.Native.Nat.{◌*◌, ◌%◌}
use Rattle.linear_model.specs.Tables.{sum}
use Rattle.linear_model.specs.Products.{trit_term}
use Rattle.linear_digits.proofs.digits.row_product.Given as goal

abbrev pub invariant-loop-i : goal.invariant-loop-i
invariant-loop-i l = l.acc ≡ sum (8 * l.i) (trit_term l.m l.row l.v) % 3
