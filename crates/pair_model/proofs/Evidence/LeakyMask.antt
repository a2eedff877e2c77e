-- What unit 0 sees where mask frames lack z: both open bodies, and the mask of side 1.
use Prim.Native.Nat.{ℕ}
use mathlib.Core.Path.{◌≡◌, refl, ap, ◌∙◌}
use mathlib.Core.List.{List, [], ◌∷◌}
use mathlib.Core.Bool.{cond}
use native.Mathlib.Omega.{arith}
use native.Mathlib.Nat.{le_refl}
use lib.Dec.{eqb}
use lib.ListN.{get_or}
use Rattle.linear_model.specs.Bits.{add_bits}
use Rattle.pair_model.specs.Scheme.{Files, Scheme, Linear, Side, side0, side1, field}
use Rattle.pair_model.specs.Tape.{Accepted, K̃, x̃}
use Rattle.pair_model.specs.Frame.{open_kind, frame, header, body_of, open_layout}
use Rattle.pair_model.specs.Unit.{Stepped, refused, least_output, step_number, advance, step}
use Rattle.pair_model.specs.Run.{Protocol, Inputs, WellFormed, Run, run_of, Configuration, as_sent, update, start, frame_of, step_of, next, DeliveredAsSent}
use Rattle.pair_model.proofs.Theorem.MaskLaws.{open_key, open_label}
use Rattle.pair_model.proofs.Theorem.Stages.{parameters_at, open_body, incoming, outgoing, unit_at, accepts_open, open_field}
use Rattle.pair_model.proofs.Theorem.Configurations.{configuration_at, Ready, next-sent, step-sent, start-at}
use Rattle.pair_model.specs.Leaky.{step_by, mask_without_z, take_open_without_z, without_z}
use Rattle.pair_model.proofs.Evidence.Leaky.{stepped, next_by, sent, delivered_at}

-- what side i opens: field 0 its key half, field 1 its label half, under their masks
abbrev pub opened : Scheme → Inputs → List ℕ → Side → ℕ → List ℕ
opened S a tape i k = get_or (open_key S a tape i ∷ open_label S a tape i ∷ []) k []

module _ (S : Scheme) (L : Linear S) (a : Inputs) (tape : List ℕ) (well : WellFormed S a) (h : Accepted S tape) (lent : Files) (e : lent ≡ a.files) where
  abbrev P : Protocol
  P = without_z S

  abbrev R : Run
  R = run_of a tape

  -- ---- both deals, as in the protocol

  abbrev C : (Side → ℕ) → Configuration
  C = configuration_at S a tape

  abbrev p₁ : Side → ℕ
  p₁ = update side1 1 (λ i. 0)

  abbrev p₂ : Side → ℕ
  p₂ = update side0 1 p₁

  ready₀ : Ready S a.files (λ i. 0) side1 lent (least_output S)
  ready₀ = record { not_done = omega arith; not_ahead = omega arith; right = refl; long = le_refl (least_output S) }

  ready₁ : Ready S a.files p₁ side0 lent (least_output S)
  ready₁ = record { not_done = omega arith; not_ahead = omega arith; right = refl; long = le_refl (least_output S) }

  first : next P R (C (λ i. 0)) (sent S lent side1) ≡ C p₁
  unfolding next step step_by advance configuration_at unit_at
  first = next-sent S a tape (λ i. 0) side1 lent (least_output S) ready₀ L well h

  second : next P R (C p₁) (sent S lent side0) ≡ C p₂
  unfolding next step step_by advance configuration_at unit_at
  second = next-sent S a tape p₁ side0 lent (least_output S) ready₁ L well h

  written-first : (step_of P R (C p₁) (sent S lent side0)).written ≡ frame open_kind (parameters_at S a tape side0) (open_body S a tape side0)
  unfolding step step_by advance configuration_at unit_at outgoing
  written-first = ap (λ (s : Stepped). s.written) (step-sent S a tape p₁ side0 lent (least_output S) ready₁ L well h)

  -- ---- both open frames

  on_open : Side → Stepped
  on_open i = take_open_without_z S (unit_at S a tape i 1) (body_of (incoming S a tape i 1)) lent

  number_open : (i : Side) → step_number S (parameters_at S a tape i) open_kind (incoming S a tape i 1) lent (least_output S) ≡ 0
  number_open i = accepts_open S L a tape well h i lent (least_output S) (le_refl (least_output S)) (ap S.product_reading.content e)

  C₃ : Configuration
  C₃ = stepped (C p₂) side1 (on_open side1)

  C₄ : Configuration
  C₄ = stepped C₃ side0 (on_open side0)

  third : next P R (C p₂) (sent S lent side1) ≡ C₃
  unfolding C₃ on_open step_by configuration_at unit_at incoming outgoing
  third =
      next_by P R (C p₂) (sent S lent side1) (on_open side1)
      (λ j. cond (eqb (number_open side1 j) 0) (on_open side1) (refused (number_open side1 j) (unit_at S a tape side1 1)))

  fourth : next P R C₃ (sent S lent side0) ≡ C₄
  unfolding C₃ C₄ on_open step_by configuration_at unit_at incoming outgoing take_open_without_z
  fourth =
      next_by P R C₃ (sent S lent side0) (on_open side0)
      (λ j. cond (eqb (number_open side0 j) 0) (on_open side0) (refused (number_open side0 j) (unit_at S a tape side0 1)))

  -- ---- from the start

  abbrev c₁ : Configuration
  c₁ = next P R (start P R) (sent S lent side1)

  abbrev c₂ : Configuration
  c₂ = next P R c₁ (sent S lent side0)

  abbrev c₃ : Configuration
  c₃ = next P R c₂ (sent S lent side1)

  abbrev c₄ : Configuration
  c₄ = next P R c₃ (sent S lent side0)

  at₁ : c₁ ≡ C p₁
  at₁ = ap (λ (c : Configuration). next P R c (sent S lent side1)) (start-at S a well tape) ∙ first

  at₂ : c₂ ≡ C p₂
  at₂ = ap (λ (c : Configuration). next P R c (sent S lent side0)) at₁ ∙ second

  at₃ : c₃ ≡ C₃
  at₃ = ap (λ (c : Configuration). next P R c (sent S lent side1)) at₂ ∙ third

  at₄ : c₄ ≡ C₄
  at₄ = ap (λ (c : Configuration). next P R c (sent S lent side0)) at₃ ∙ fourth

  -- the five entries are delivered as sent
  abbrev Delivered : Configuration → Side → Type 0
  Delivered c i = DeliveredAsSent P R c (sent S lent i)

  pub v₀ : Delivered (start P R) side1
  unfolding configuration_at unit_at
  v₀ = delivered_at P R lent e side1 (start-at S a well tape) (omega arith) (omega arith)

  pub v₁ : Delivered c₁ side0
  unfolding configuration_at unit_at
  v₁ = delivered_at P R lent e side0 at₁ (omega arith) (omega arith)

  pub v₂ : Delivered c₂ side1
  unfolding configuration_at unit_at outgoing
  v₂ = delivered_at P R lent e side1 at₂ (omega arith) (omega arith)

  pub v₃ : Delivered c₃ side0
  unfolding C₃ on_open configuration_at unit_at outgoing take_open_without_z
  v₃ = delivered_at P R lent e side0 at₃ (omega arith) (omega arith)

  pub v₄ : Delivered c₄ side0
  unfolding C₃ C₄ on_open configuration_at unit_at outgoing take_open_without_z
  v₄ = delivered_at P R lent e side0 at₄ (omega arith) (omega arith)

  -- ---- what side 0 sees: both open bodies, and the mask of side 1

  pub own_open : (k : ℕ) → field (open_layout S) k (body_of (step_of P R c₁ (sent S lent side0)).written) ≡ opened S a tape side0 k
  unfolding frame header
  own_open k =
      ap (λ (f : List ℕ). field (open_layout S) k (body_of f)) (ap (λ (c : Configuration). (step_of P R c (sent S lent side0)).written) at₁ ∙ written-first)
      ∙ open_field S L a tape well h side0 lent (least_output S) (le_refl (least_output S)) side0 k

  pub other_open : (k : ℕ) → field (open_layout S) k (body_of (frame_of P R c₃ side0 as_sent)) ≡ opened S a tape side1 k
  unfolding C₃ on_open configuration_at unit_at outgoing take_open_without_z frame header
  other_open k =
      ap (λ (c : Configuration). field (open_layout S) k (body_of (frame_of P R c side0 as_sent))) at₃
      ∙ open_field S L a tape well h side0 lent (least_output S) (le_refl (least_output S)) side1 k

  pub other-mask : body_of (frame_of P R c₄ side0 as_sent)
      ≡ mask_without_z S lent 1 (add_bits S.key_bytes (open_key S a tape side1) (open_key S a tape side0))
      (add_bits S.key_bytes (open_label S a tape side1) (open_label S a tape side0)) (K̃ S tape side1) (x̃ S tape side1)
  unfolding C₃ C₄ on_open configuration_at unit_at incoming outgoing take_open_without_z frame header
  other-mask =
      ap (λ (c : Configuration). body_of (frame_of P R c side0 as_sent)) at₄
      ∙ (λ j. mask_without_z S lent 1 (add_bits S.key_bytes (open_key S a tape side1) (body 0 j)) (add_bits S.key_bytes (open_label S a tape side1) (body 1 j))
      (K̃ S tape side1) (x̃ S tape side1))
    where
      body : (k : ℕ) → field (open_layout S) k (open_body S a tape side0) ≡ opened S a tape side0 k
      body = open_field S L a tape well h side0 lent (least_output S) (le_refl (least_output S)) side0
