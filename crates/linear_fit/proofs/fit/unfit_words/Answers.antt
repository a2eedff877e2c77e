use mathlib.Core.Path.{◌≡◌, refl, ap, ◌∙◌}
use Prim.Native.Nat.{ℕ, ◌-◌, ◌*◌, ◌/◌}
use native.Mathlib.Omega.{arith}
use borrow.Author.Rules.{rules}
use lib.ListN.{length}
use Rattle.linear_model.specs.Tables.{every}
use Rattle.linear_model.specs.Internal.Tests.{fit_before}
use Rattle.linear_model.proofs.Internal.Gathers.{gather, all_fit}
use Rattle.linear_fit.proofs.fit.unfit_words.Goals as goal

pub loop-i-init : goal.loop-i-init
loop-i-init c = unfold every in refl

pub loop-i-preserved : goal.loop-i-preserved
loop-i-preserved c =
    let a = c.args in
    let test = fit_before a.m a.t a.v.now in
    let i = 8 * c.loop-i.i in
    gather test (8 * i) 64 (8 * i) c.loop-i.seen _ (omega arith) (omega arith) (search rules) c.unfit_word-seen.ensures c.loop-i.invariant ∙ ap (λ (n : ℕ). every n test) (omega arith)

pub returns-then-m-ne0 : goal.returns-then-m-ne0
returns-then-m-ne0 c =
    let a = c.args in
    let e = c.requires.1 in
    let test = fit_before a.m a.t a.v.now in
    rw (← e)
    (gather test (8 * (a.m - 8)) 64 (8 * (8 * c.loop-i.i)) c.loop-i.seen _ (omega arith) (omega arith) (search rules) c.unfit_word-seen-then-m-ne0.ensures c.loop-i.invariant
    ∙ ap (λ (n : ℕ). every n test) (omega arith))
    ∙ all_fit _ _ _

pub returns-else-m-ne0 : goal.returns-else-m-ne0
returns-else-m-ne0 c =
    let e = c.requires.1 in
    let o : 8 * c.loop-i.i ≡ length c.args.v.now / 2 = omega arith in
    rw (o, e) at c.loop-i.invariant ∙ all_fit _ _ _
