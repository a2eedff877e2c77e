-- The inner share meets its contract. The planes that change places give r + ŵ × r, and what is added gives the rest.
use mathlib.Core.Path.{◌≡◌, refl, ap, ◌∙◌}
use mathlib.Core.Bool.{cond}
use Prim.Native.Nat.{ℕ, ◌%◌}
use borrow.Author.Tests.{eq-eqb, ne_eqb}
use lib.Dec.{eqb}
use Rattle.linear_model.specs.Bits.{bit_at}
use Rattle.linear_model.proofs.Internal.Planes.{added_mod, low-trit, exchanged_bit_at, bit_at-cond}
use Rattle.linear_trits.proofs.operation.ShareOperation.apply.Goals.{then-self-eq0, else-self-eq0}
use Rattle.linear_trits.proofs.operation.ShareOperation.apply.Goals as goal

pub returns : goal.returns
returns c k =
    let s = c.args.s in
    let t = c.args.t in
    let side = c.args.self.side in
    let added : c.if-self-eq0.added ≡ cond (eqb side 0) s.low 0 =
    elim c.if-self-eq0.branch [ then-self-eq0 w ↦ rw (w.added-is, eq-eqb side 0 w.if-self-eq0.true) refl | else-self-eq0 w ↦ rw (w.added-is, ne_eqb side 0 w.if-self-eq0.false) refl ]
    in
    added_mod _ _ _ _ _ (c.add.ensures k) (c.fit.ensures k ∙ exchanged_bit_at t.low t.high s.low k)
    (low-trit _ k ∙ ap (λ (z : ℕ). bit_at z k % 3) added ∙ ap (λ (z : ℕ). z % 3) (bit_at-cond (eqb side 0) s.low k))
