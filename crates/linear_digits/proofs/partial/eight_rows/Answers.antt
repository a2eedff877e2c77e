use mathlib.Core.Path.{◌≡◌, ap, ◌∙◌}
use Prim.Native.Nat.{ℕ, ◌+◌, ◌/◌, ◌%◌}
use native.Mathlib.Nat.{add_comm}
use native.Mathlib.Omega.{arith}
use lib.ListN.{length}
use Rattle.linear_model.specs.Tables.{from, below}
use Rattle.linear_model.specs.Bits.{from_bits}
use Rattle.linear_model.specs.Trits.{low, high}
use Rattle.linear_model.specs.Products.{row_digit}
use Rattle.linear_model.proofs.NumberBits.{or_more}
use Rattle.linear_model.proofs.Linearity.{digit-below}
use Rattle.linear_digits.proofs.Cuts.{row_after}
use Rattle.linear_digits.proofs.partial.eight_rows.Goals as goal

pub loop-q-init : goal.loop-q-init
loop-q-init c = unfold from_bits in omega arith

pub loop-q-preserved : goal.loop-q-preserved
loop-q-preserved c =
    let a = c.args in
    let m = length a.v.now / 2 in
    let f = below a.t (row_digit m a.rows.now a.v.now) in
    let q = c.loop-q.q in
    let e : c.first_row-d.result ≡ f (0 + q) =
    c.first_row-d.ensures
    ∙ row_after m a.t a.rows.now a.v.now q _ 0 c.skip-row.ensures (omega arith) (omega arith)
    ∙ ap f (add_comm q 0)
    in (
      or_more 8 q _ _ (from 0 (low f)) (omega arith) (λ i. omega arith) c.loop-q.invariant.0 (ap (λ (d : ℕ). d % 2) e),
      or_more 8 q _ _ (from 0 (high f)) (omega arith) (λ i. omega (arith, digit-below a.t m a.rows.now a.v.now (0 + i))) c.loop-q.invariant.1 (ap (λ (d : ℕ). d / 2) e),
    )

pub returns : goal.returns
returns c =
    let e : c.loop-q.q ≡ 8 = omega arith in
    record { low_is = rw e at c.loop-q.invariant.0; high_is = rw e at c.loop-q.invariant.1 }
