use mathlib.Core.Path.{◌≡◌, refl, ap, ◌∙◌}
use Prim.Native.Nat.{ℕ, ◌+◌, ◌<◌, ◌^◌}
use native.Mathlib.Omega.{arith}
use Rattle.linear_model.specs.Tables.{from}
use Rattle.linear_model.specs.Bits.{from_bits}
use Rattle.linear_model.proofs.Internal.Quarters.{round_bit, quarter_none, quarter_more, round_none, round_more, quarters_product}
use Rattle.linear_circulant.proofs.quarters.product.Goals as goal

pub loop-q-init : goal.loop-q-init
loop-q-init c =
    let a = c.args in
    let h : a.label < 2 ^ 64 = omega arith in
    let none = quarter_none a.key a.label in
    (round_none a.label h, none 0, none 16, none 32, none 48)

pub loop-q-preserved : goal.loop-q-preserved
loop-q-preserved c =
    let m = c.quarter_masks-m in
    let l = c.loop-q in
    let a = c.args in
    let i = l.invariant in
    let o : l.q ≡ l.q + 0 = omega arith in (
      c.rotate_right-x.ensures ∙ round_more a.label l.q 1 (omega arith) i.0,
      quarter_more a.key a.label 0 l.q m.result refl i.1 m.ensures (i.0 ∙ ap (λ (n : ℕ). from_bits 64 (from n (round_bit a.label))) o),
      quarter_more a.key a.label 16 l.q m.result refl i.2 m.ensures (c.rotate_right.ensures ∙ round_more a.label l.q 16 (omega arith) i.0),
      quarter_more a.key a.label 32 l.q m.result refl i.3 m.ensures (c.rotate_right-in-loop-q.ensures ∙ round_more a.label l.q 32 (omega arith) i.0),
      quarter_more a.key a.label 48 l.q m.result refl i.4 m.ensures (c.rotate_right-in-loop-q-2.ensures ∙ round_more a.label l.q 48 (omega arith) i.0),
    )

pub returns : goal.returns
returns c =
    let l = c.loop-q in
    let a = c.args in
    let e : l.q ≡ 16 = omega arith in
    quarters_product a.key a.label (rw e at l.invariant.1) (rw e at l.invariant.2) (rw e at l.invariant.3) (rw e at l.invariant.4)
    c.quarters_added.ensures c.quarters_added-2.ensures c.quarters_added-3.ensures c.quarters_added-4.ensures
