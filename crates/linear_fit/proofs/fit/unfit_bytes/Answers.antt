use mathlib.Core.Path.{◌≡◌, refl, ◌∙◌}
use Prim.Native.Nat.{◌/◌}
use native.Mathlib.Omega.{arith}
use lib.Bits.{and_lt}
use lib.ListN.{length}
use Rattle.linear_model.specs.Tables.{every}
use Rattle.linear_model.specs.Internal.Tests.{fit_before}
use Rattle.linear_model.proofs.Internal.Planes.{trit_byte}
use Rattle.linear_model.proofs.Internal.Gathers.{gather_byte, shows_fit, all_fit}
use Rattle.linear_fit.proofs.fit.unfit_bytes.Goals as goal

pub loop-i-init : goal.loop-i-init
loop-i-init c = unfold every in refl

pub loop-i-preserved : goal.loop-i-preserved
loop-i-preserved c =
    let a = c.args in
    let m = a.m in
    gather_byte (fit_before m a.t a.v.now) c.loop-i.i c.loop-i.seen _ (and_lt 8 _ _ (and_lt 8 _ _ c.byte_at.type_inv c.byte_at-in-loop-i.type_inv) c.byte_places.type_inv)
    (shows_fit 8 m a.v.now c.loop-i.i _ _ (trit_byte m a.v.now c.loop-i.i _ _ c.byte_at.ensures c.byte_at-in-loop-i.ensures) a.t _ c.byte_places.ensures) c.loop-i.invariant

pub returns : goal.returns
returns c =
    let e = c.requires in
    let o : c.loop-i.i ≡ length c.args.v.now / 2 = omega arith in
    rw (o, e) at c.loop-i.invariant ∙ all_fit _ _ _
