-- `linear_circulant::circulant::dot` meets its contract. The invariant of its loop: the set bits of `acc` count the terms so far, modulo 2.
use mathlib.Core.Path.{◌≡◌}
use Prim.Native.Nat.{◌-◌, ◌+◌, ◌*◌, ◌%◌, ◌^◌, ◌<◌}
use Rattle.linear_model.specs.Tables.{sum}
use Rattle.linear_model.specs.Bits.{bit_at}
use Rattle.linear_model.specs.Internal.Words.{shift_term}
use Rattle.linear_circulant.proofs.circulant.dot.Given as goal

abbrev pub invariant-loop-w : goal.invariant-loop-w
invariant-loop-w l = (l.acc < 2 ^ 64) × (sum 64 (bit_at l.acc) % 2 ≡ sum (8 * l.w) (shift_term l.a l.b (8 * l.p + l.q)) % 2)

abbrev pub decreases-loop-w : goal.decreases-loop-w
decreases-loop-w l = l.w-end - l.w
