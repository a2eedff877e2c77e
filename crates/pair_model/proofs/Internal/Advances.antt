-- What a unit does at a frame that is accepted, by what it waits for.
use mathlib.Core.Path.{◌≡◌, ap, ◌∙◌}
use mathlib.Core.List.{List}
use mathlib.Core.Bool.{cond}
use Prim.Native.Nat.{ℕ}
use lib.Dec.{eqb}
use Rattle.pair_model.specs.Scheme.{Files, Scheme}
use Rattle.pair_model.specs.Frame.{deal_kind, open_kind, mask_kind, frame}
use Rattle.pair_model.specs.Unit.{State, Stepped, K̂, x̂, with_mask, take_deal, take_open, take_mask, advance}
use Rattle.pair_model.proofs.Theorem.MaskLaws.{same_mask}

module _ (S : Scheme) (u : State) (body : List ℕ) (lent : Files) where
  by_stage : (k : ℕ) → u.stage ≡ k → advance S u body lent
      ≡ cond (eqb k deal_kind) (take_deal S u body) (cond (eqb k open_kind) (take_open S u body lent) (take_mask S u body lent))
  unfolding advance
  by_stage k e =
      ap {B = Stepped} (λ (k : ℕ). cond (eqb k deal_kind) (take_deal S u body) (cond (eqb k open_kind) (take_open S u body lent) (take_mask S u body lent))) e

  pub advance-deal : u.stage ≡ deal_kind → advance S u body lent ≡ take_deal S u body
  advance-deal = by_stage deal_kind

  -- only what the product reads of the files matters
  pub advance_open : (own : Files) → S.product_reading.content lent ≡ S.product_reading.content own
      → u.stage ≡ open_kind → advance S u body lent ≡ take_open S u body own
  unfolding take_open
  advance_open own e k =
      by_stage open_kind k
      ∙ ap of (same_mask S lent own e u.parameters.side (K̂ S u body) (x̂ S u body) u.secrets.key_mask u.secrets.label_mask u.secrets.z)
    where
      of : List ℕ → Stepped
      of ŵi = record { result = 0; written = frame mask_kind u.parameters ŵi; next = with_mask S u ŵi }

  pub advance-mask : u.stage ≡ mask_kind → advance S u body lent ≡ take_mask S u body lent
  advance-mask = by_stage mask_kind
