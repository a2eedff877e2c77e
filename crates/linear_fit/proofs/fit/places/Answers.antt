-- `linear_fit::fit::places` meets its contract. The low bits are 64, none, or as many of them as places are before t.
use mathlib.Core.Path.{◌≡◌}
use Prim.Native.Nat.{ℕ, ◌+◌, ◌*◌, ◌%◌, ◌^◌, ◌<◌}
use native.Mathlib.Omega.{arith}
use lib.Pow.{pow_pos, shl_exact}
use lib.Dec.{lit<}
use Rattle.linear_model.proofs.Internal.Gathers.{places_are}
use Rattle.linear_fit.proofs.fit.places.Goals as goal

one_shifted : (r : ℕ) → r < 64 → 1 * 2 ^ r % 2 ^ 64 ≡ 1 * 2 ^ r
one_shifted r h = shl_exact 1 r 64 (lit< tt) (omega arith)

pub returns-in-None : goal.returns-in-None
returns-in-None c = places_are 64 c.args.t c.args.i 0 (omega arith)

pub returns-in-Some : goal.returns-in-Some
returns-in-Some c = places_are 64 c.args.t c.args.i 64 (omega arith)

pub overflow_sub-result : goal.overflow_sub-result
overflow_sub-result c =
    let a = c.args in
    let r = 8 * c.in-Some.whole + a.t % 8 in
    omega (arith, one_shifted r (omega arith), pow_pos r)

pub returns-in-Some-2 : goal.returns-in-Some-2
returns-in-Some-2 c =
    let a = c.args in
    let r = 8 * c.in-Some.whole + a.t % 8 in
    rw (one_shifted r (omega arith)) (omega (arith, places_are 64 a.t a.i r (omega arith)))
