-- `linear_circulant::quarters::product` meets its contract. The invariant of its loop: `x` the label rotated right by q, and the four sums are over the key bits r, 16 + r, 32 + r and 48 + r, r below q, each in a quarter.
use mathlib.Core.Path.{◌≡◌}
use Rattle.linear_model.specs.Tables.{from}
use Rattle.linear_model.specs.Bits.{from_bits}
use Rattle.linear_model.proofs.Internal.Quarters.{round_bit, quarter_sum}
use Rattle.linear_circulant.proofs.quarters.product.Given as goal

abbrev pub invariant-loop-q : goal.invariant-loop-q
invariant-loop-q l =
    (l.x ≡ from_bits 64 (from l.q (round_bit l.label)))
    × (l.first ≡ from_bits 64 (quarter_sum l.key l.label 0 l.q)) × (l.second ≡ from_bits 64 (quarter_sum l.key l.label 16 l.q))
    × (l.third ≡ from_bits 64 (quarter_sum l.key l.label 32 l.q)) × (l.fourth ≡ from_bits 64 (quarter_sum l.key l.label 48 l.q))
