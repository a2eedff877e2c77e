-- `linear_circulant::circulant::circulant_rows` meets its contract. The invariant of its loop: `acc` has the first q bits.
use mathlib.Core.Path.{◌≡◌}
use Prim.Native.Nat.{◌*◌}
use Rattle.linear_model.specs.Tables.{from}
use Rattle.linear_model.specs.Bits.{from_bits}
use Rattle.linear_model.specs.Products.{bit_row, circulant}
use Rattle.linear_circulant.proofs.circulant.circulant_rows.Given as goal

abbrev pub invariant-loop-q : goal.invariant-loop-q
invariant-loop-q l = l.acc ≡ from_bits l.q (from (8 * l.p) (bit_row l.n (circulant l.n l.key) l.x))
