use mathlib.Core.Path.{◌≡◌, sym, ap, ◌∙◌}
use mathlib.Core.Logic.{◌⊎◌, inl, inr}
use Prim.Native.Nat.{ℕ, suc, ◌+◌, ◌%◌, ◌<◌}
use native.Mathlib.Nat.{le_refl, mod-eq_of_lt}
use native.Mathlib.Omega.{arith}
use Rattle.elimination_model.specs.Internal.Words.{carried_at}
use Rattle.elimination_model.proofs.Internal.Writing.{next-or_before}
use Rattle.elimination_ties.proofs.Entries.{leading_found}
use Rattle.elimination_ties.proofs.ties.leading_digit.Goals as goal

pub returns-then-d-ne0 : goal.returns-then-d-ne0
returns-then-d-ne0 c =
    let a = c.args in
    let e = c.carried_digit-d.ensures in
    e.0
    ∙ leading_found (suc a.r) c.loop-k.k (carried_at a.w a.f a.words.now a.r) (omega arith)
    (λ z. c.if-d-ne0.true (sym (mod-eq_of_lt e.1) ∙ ap (λ (d : ℕ). d % 3) e.0 ∙ z)) c.loop-k.invariant

pub loop-k-preserved : goal.loop-k-preserved
loop-k-preserved c =
    let a = c.args in
    (λ i h. go c.loop-k.k c.loop-k.invariant (sym c.carried_digit-d.ensures.0 ∙ c.if-d-ne0.false) i h)
  where
    go : {d : ℕ → ℕ} (k : ℕ) → ((i : ℕ) → i < k → d i ≡ 0) → d k ≡ 0 → (i : ℕ) → i < k + 1 → d i ≡ 0
    go {d} k z e i h = cases (next-or_before i k h)
      where
        cases : (i ≡ k) ⊎ (i < k) → d i ≡ 0
        cases (inl q) = ap d q ∙ e
        cases (inr q) = z i q

pub carried_digit-requires : goal.carried_digit-requires
carried_digit-requires c = (c.requires.0, le_refl _)

pub returns : goal.returns
returns c =
    let a = c.args in
    c.carried_digit.ensures.0
    ∙ leading_found (suc a.r) a.r (carried_at a.w a.f a.words.now a.r) (le_refl (suc a.r)) c.requires.1
    (λ i h. c.loop-k.invariant i (omega arith))
