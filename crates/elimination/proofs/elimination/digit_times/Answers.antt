-- `elimination::elimination::digit_times` meets its contract: the masks have the digit in all places.
use mathlib.Core.Path.{◌∙◌}
use Prim.Native.Nat.{◌^◌, ◌<◌}
use native.Mathlib.Omega.{arith}
use Rattle.elimination_model.proofs.Internal.Tables.{masks_times}
use Rattle.elimination.proofs.elimination.digit_times.Goals as goal

pub returns : goal.returns
returns c k =
    let a = c.args in
    let low : a.e.low < 2 ^ 64 = omega arith in
    let high : a.e.high < 2 ^ 64 = omega arith in
    c.multiply.ensures k
    ∙ masks_times a.s.low a.s.high a.bit a.e.low a.e.high _ _ low high c.mask.ensures c.mask-2.ensures k
