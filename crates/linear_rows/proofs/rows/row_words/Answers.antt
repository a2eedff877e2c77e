use mathlib.Core.Path.{◌≡◌}
use Prim.Native.Nat.{◌+◌, ◌*◌, ◌/◌}
use native.Mathlib.Omega.{arith}
use Rattle.linear_model.specs.Tables.{sum}
use Rattle.linear_model.proofs.Internal.Planes.{mod_more}
use Rattle.linear_rows.proofs.rows.row_words.Goals as goal

pub loop-i-init : goal.loop-i-init
loop-i-init c = unfold sum in (omega arith, omega arith)

pub loop-i-preserved : goal.loop-i-preserved
loop-i-preserved c =
    let i = c.loop-i.i in
    let o : 8 * i + 8 ≡ 8 * (i + 1) = omega arith in
    (omega arith, rw o at (mod_more 8 _ (8 * i) _ _ c.loop-i.invariant.1 c.row_word-acc.ensures.0))

pub returns : goal.returns
returns c =
    let e : 8 * c.loop-i.i ≡ c.args.m / 8 * 8 = omega arith in
    rw e at c.loop-i.invariant.1
