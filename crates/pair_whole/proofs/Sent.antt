-- What a step has sent, taken over into a round.
use mathlib.Core.Path.{◌≡◌, refl, sym, subst, ◌∙◌}
use mathlib.Core.List.{List}
use Prim.Native.Nat.{ℕ, zero, suc}
use native.Mathlib.Nat.{suc-ne-zero}
use Rattle.pair_model.specs.Scheme.{files}
use Rattle.pair_model.specs.Base.{base}
use Rattle.pair_model.specs.Frame.{Parameters, parameters, deal_kind}
use Rattle.pair_model.specs.Unit.{State, Stepped, begin_number, begin, least_output, step_number, step}
use Rattle.pair_model.specs.Internal.Exchange.{Sends}
use Rattle.pair_model.proofs.Internal.Begins.{begin_fits, begin-accepted, begin-refused}
use Rattle.pair_frames.specs.Numbers.{set_sizes}
use Rattle.pair_units.specs.Units.{state_by, unit_of}
use Rattle.pair_units.proofs.Rooms.{halves_read}

-- the struct of a begun state stands for it, and so does the idle one's
pub begin_read : (t : Parameters) (key label : List ℕ) → let s = (begin base t key label).next in state_by (set_sizes 1) (unit_of s) ≡ s
begin_read t key label = pick (begin_number base t key label) refl
  where
    Read : State → Type 0
    Read s = state_by (set_sizes 1) (unit_of s) ≡ s

    pick : (n : ℕ) → begin_number base t key label ≡ n → Read (begin base t key label).next
    pick zero e =
        let f = begin_fits base t key label e in
        subst Read (sym (begin-accepted base t key label e)) (halves_read (set_sizes 1) t deal_kind key label f.key-length f.label-length)
    pick (suc n) e = subst Read (sym (begin-refused base t key label (λ z. suc-ne-zero n (sym e ∙ z)))) refl

-- the first step of a unit with the same halves, deal frame and file
module _ (side : ℕ) {k₀ k₁ l₀ l₁ f₀ f₁ x₀ x₁ : List ℕ} (k : k₀ ≡ k₁) (l : l₀ ≡ l₁) (f : f₀ ≡ f₁) (x : x₀ ≡ x₁) where
  pub start-accepted : step_number base (begin base (parameters side 1 0) k₁ l₁).next.parameters (begin base (parameters side 1 0) k₁ l₁).next.stage f₁ (files x₁) (least_output base) ≡ 0
      → step_number base (begin base (parameters side 1 0) k₀ l₀).next.parameters (begin base (parameters side 1 0) k₀ l₀).next.stage f₀ (files x₀) (least_output base) ≡ 0
  start-accepted e =
      (λ i. step_number base (begin base (parameters side 1 0) (k i) (l i)).next.parameters (begin base (parameters side 1 0) (k i) (l i)).next.stage (f i) (files (x i)) (least_output base)) ∙ e

  pub start-sent : {g : List ℕ} {v : State} → Sends (step base (begin base (parameters side 1 0) k₀ l₀).next f₀ (files x₀) (least_output base)) g v
      → Sends (step base (begin base (parameters side 1 0) k₁ l₁).next f₁ (files x₁) (least_output base)) g v
  start-sent {g} {v} = subst (λ (s : Stepped). Sends s g v) (λ i. step base (begin base (parameters side 1 0) (k i) (l i)).next (f i) (files (x i)) (least_output base))
