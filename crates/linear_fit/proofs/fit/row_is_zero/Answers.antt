use mathlib.Core.Path.{◌≡◌, refl, sym, ◌∙◌}
use mathlib.Core.Bool.{Bool, true}
use Prim.Native.Nat.{ℕ, ◌+◌, ◌*◌, ◌/◌}
use native.Mathlib.Omega.{arith}
use borrow.Author.Tests.{eq-eqb, ne_eqb}
use lib.Bits.{bit_or}
use lib.Dec.{eqb}
use lib.ListN.{length}
use Rattle.linear_model.specs.Tables.{every}
use Rattle.linear_model.specs.Bits.{bit_at}
use Rattle.linear_model.specs.Internal.Tests.{zero_after}
use Rattle.linear_model.proofs.Tables.{every_more, every_fails_at}
use Rattle.linear_model.proofs.Internal.Planes.{trit_byte}
use Rattle.linear_model.proofs.Internal.Gathers.{shows_zero, all_zero}
use Rattle.linear_fit.proofs.fit.row_is_zero.Goals as goal
use Rattle.linear_fit.proofs.fit.row_is_zero.Goals.{After-byte_at-in-loop-i}

-- what the bit that is looked at tells
found : (c : After-byte_at-in-loop-i)
    → let row = c.args.row.now in
    zero_after (length row / 2) 0 row (8 * c.loop-i.i + c.loop-i.q) ≡ eqb (bit_at (bit_or c.byte_at.result c.byte_at-in-loop-i.result) c.loop-i.q) 0
found c =
    let row = c.args.row.now in
    sym (shows_zero 8 (length row / 2) row c.loop-i.i _ _ (trit_byte (length row / 2) row c.loop-i.i _ _ c.byte_at.ensures c.byte_at-in-loop-i.ensures) c.loop-i.q c.loop-i.invariant.1)

-- one place more, where the test holds
one_more : (n k : ℕ) (test : ℕ → Bool) → k ≡ n + 1 → true ≡ every n test → test n ≡ true → true ≡ every k test
one_more n k test o h e = rw (o, every_more, ← h, e)

pub loop-i-init : goal.loop-i-init
loop-i-init c = unfold every in (refl, omega arith, omega arith)

pub returns-then-byte_at-q-ne0 : goal.returns-then-byte_at-q-ne0
returns-then-byte_at-q-ne0 c =
    let row = c.args.row.now in
    every_fails_at _ _ (8 * c.loop-i.i + c.loop-i.q) (omega arith) (found (goal.at.returns-then-byte_at-q-ne0 c).After-byte_at-in-loop-i ∙ ne_eqb _ 0 c.if-byte_at-q-ne0.true) ∙ all_zero (length row / 2) 0 row

pub loop-i-preserved : goal.loop-i-preserved
loop-i-preserved c =
    (one_more (8 * c.loop-i.i + c.loop-i.q) _ _ (omega arith) c.loop-i.invariant.0 (found (goal.at.loop-i-preserved c).After-byte_at-in-loop-i ∙ eq-eqb _ 0 c.if-byte_at-q-ne0.false), omega arith, omega arith)

pub returns : goal.returns
returns c =
    let a = c.args in
    let e : 8 * c.loop-i.i + c.loop-i.q ≡ 8 * (length a.row.now / 2) = omega arith in
    rw e at c.loop-i.invariant.0 ∙ all_zero _ 0 a.row.now
