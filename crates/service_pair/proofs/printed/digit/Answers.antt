-- `service_pair::printed::digit` meets its contract. The high plane is 11 bytes on.
use mathlib.Core.Path.{◌≡◌}
use Prim.Native.Nat.{ℕ, ◌+◌, ◌*◌, ◌/◌, ◌%◌, ◌^◌}
use mathlib.Core.List.{List}
use lib.ListN.{get_or}
use native.Mathlib.Omega.{arith}
use Rattle.linear_model.specs.Bits.{bit}
use Rattle.linear_model.specs.Trits.{trit}
use Rattle.service_pair.specs.Printed.{digit}
use Rattle.service_pair.proofs.printed.digit.Goals as goal

two_planes : (s : List ℕ) (i : ℕ) → 48 + get_or s (i / 8) 0 / 2 ^ (i % 8) % 2 + 2 * (get_or s (11 + i / 8) 0 / 2 ^ (i % 8) % 2) ≡ digit s i
unfolding trit bit
two_planes s i =
    let q : (8 * 11 + i) / 8 ≡ 11 + i / 8 = omega arith in
    let r : (8 * 11 + i) % 8 ≡ i % 8 = omega arith in
    rw (q, r) (omega arith)

pub returns : goal.returns
returns c = two_planes c.args.code.now c.args.i
