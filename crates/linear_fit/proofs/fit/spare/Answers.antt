use mathlib.Core.Path.{◌≡◌, ◌∙◌}
use Prim.Native.Nat.{◌+◌, ◌/◌, min}
use native.Mathlib.Omega.{arith}
use borrow.Author.Rules.{rules}
use lib.ListN.{length}
use Rattle.linear_model.proofs.Internal.Gathers.{gather_byte, none_spare, all_zero}
use Rattle.linear_fit.proofs.fit.spare.Goals as goal

pub loop-i-init : goal.loop-i-init
loop-i-init c = none_spare _ c.args.t c.args.v.now _ (omega arith)

pub loop-i-preserved : goal.loop-i-preserved
loop-i-preserved c =
    let i = c.loop-i.i in
    let m = length c.args.v.now / 2 in
    let now : min i m ≡ i = omega arith in
    let next : min (i + 1) m ≡ i + 1 = omega arith in
    rw next (gather_byte _ i c.loop-i.seen _ (search rules) c.spare_byte-seen.ensures (rw now at c.loop-i.invariant))

pub returns : goal.returns
returns c =
    let m = length c.args.v.now / 2 in
    let e : min c.loop-i.i m ≡ m = omega arith in
    rw e at c.loop-i.invariant ∙ all_zero _ c.args.t c.args.v.now
