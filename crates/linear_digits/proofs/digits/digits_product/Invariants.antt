-- `linear_digits::digits::digits_product` meets its contract. The invariant of its loop: `acc` is the sum of the table's entries for the first k digits.
use mathlib.Core.Path.{◌≡◌}
use Prim.Native.Nat.{◌*◌, ◌≤◌}
use Rattle.linear_model.specs.Tables.{sum}
use Rattle.linear_model.specs.Internal.Planes.{trit_product}
use Rattle.linear_digits.proofs.digits.digits_product.Given as goal

abbrev pub invariant-loop-k : goal.invariant-loop-k
invariant-loop-k l = (l.acc ≤ 2 * l.k) × (l.acc ≡ sum l.k (trit_product l.x l.u l.y l.w))
