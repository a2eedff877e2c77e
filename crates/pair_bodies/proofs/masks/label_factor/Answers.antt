-- `pair_bodies::masks::label_factor` meets its contract: each return rewrites with the test that led there.
use native.Mathlib.Omega.{arith}
use borrow.Author.Tests.{ne_eqb}
use Rattle.linear_model.proofs.Copies.{copied-first, copied_all}
use Rattle.pair_bodies.proofs.masks.label_factor.Goals as goal

pub returns-else-side-eq0 : goal.returns-else-side-eq0
returns-else-side-eq0 c =
    let mask = c.args.label_mask.now in
    rw (ne_eqb _ _ c.if-side-eq0.false) (copied_all mask _ (copied-first mask _ (omega (arith, c.requires)) c.put.ensures) (omega (arith, c.requires)))
