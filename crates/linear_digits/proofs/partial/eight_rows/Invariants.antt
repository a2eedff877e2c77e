-- `linear_digits::partial::eight_rows` meets its contract. The invariant of its loop: `lo` and `hi` have the first q bits.
use mathlib.Core.Path.{◌≡◌}
use Prim.Native.Nat.{◌/◌}
use lib.ListN.{length}
use Rattle.linear_model.specs.Tables.{from, below}
use Rattle.linear_model.specs.Bits.{from_bits}
use Rattle.linear_model.specs.Trits.{low, high}
use Rattle.linear_model.specs.Products.{row_digit}
use Rattle.linear_digits.proofs.partial.eight_rows.Given as goal

abbrev pub invariant-loop-q : goal.invariant-loop-q
invariant-loop-q l =
    let f = below l.t (row_digit (length l.v / 2) l.rows l.v) in
    (l.lo ≡ from_bits l.q (from 0 (low f))) × (l.hi ≡ from_bits l.q (from 0 (high f)))
