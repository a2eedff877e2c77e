-- What paired runs hide, by induction on the shared list: both configurations are known all along by the same counts of accepted frames.
use Prim.Native.Nat.{ℕ, zero, suc}
use mathlib.Core.Path.{◌≡◌, refl, sym, ◌∙◌, subst, subst₂}
use mathlib.Core.Logic.{◌≢◌}
use mathlib.Core.List.{List, [], ◌∷◌}
use Rattle.linear_model.specs.Bits.{zeros}
use Rattle.pair_model.specs.Scheme.{Files, Scheme, Linear, Side, side0, side1, other, concat}
use Rattle.pair_model.specs.Tape.{Accepted, deal}
use Rattle.pair_model.specs.Frame.{parameters_of, deal_kind, open_kind, mask_kind, frame}
use Rattle.pair_model.specs.Unit.{State, state, begun, begin, done, step, step_number}
use Rattle.pair_model.specs.Dealer.{deal_frame}
use Rattle.pair_model.specs.Run.{Protocol, protocol, Inputs, WellFormed, Run, run_of, Configuration, Delivery, as_sent, stray, Entry, entry, SharedEntry, same, differ, update, start, frame_of, step_of, next, Valid, ListOf, first_of, second_of, Comparable, SameNumbers}
use Rattle.pair_model.specs.View.{Event, cons_if_own, event_of, events, view}
use Rattle.pair_model.specs.Theorem.{SameForFixed, SameView}
use Rattle.pair_model.proofs.Theorem.MaskLaws.{both, InCommon}
use Rattle.pair_model.proofs.Theorem.StepLaws.{number_for, step_result}
use Rattle.pair_model.proofs.Theorem.Stages.{unit_at, incoming}
use Rattle.pair_model.proofs.Theorem.Configurations.{configuration_at, next_stray, next-sent, sent-accepted, ready_of, delivered_of, frame_is, Ready, start-at}

-- an event of the other unit is not among the own ones
not_own : (i : Side) (event : Event) (es : List Event) → cons_if_own i (other i) event es ≡ es
not_own side0 event es = refl
not_own side1 event es = refl

module _ (S : Scheme) (fixed : Side) (a b : Inputs) (t u : List ℕ) (m : InCommon S fixed a b t u) where
  g : SameForFixed fixed a b
  g = m.inputs

  -- ---- the fixed unit's state, and what it receives, are the same

  same_unit : (n : ℕ) → unit_at S a t fixed n ≡ unit_at S b u fixed n
  unfolding unit_at
  same_unit zero = λ j. begun S (parameters_of fixed (g.shared j)) (g.key j) (g.label j)
  same_unit (suc zero) =
      λ j. state S.set (parameters_of fixed (g.shared j)) open_kind (record {
        key = g.key j;
        label = g.label j;
        key_mask = m.key_mask j;
        label_mask = m.label_mask j;
        z = m.z j;
        r = m.r j;
        own_mask = zeros S.inner_bytes;
      })
  same_unit (suc (suc zero)) =
      λ j. state S.set (parameters_of fixed (g.shared j)) mask_kind (record {
        key = g.key j;
        label = g.label j;
        key_mask = m.key_mask j;
        label_mask = m.label_mask j;
        z = m.z j;
        r = m.r j;
        own_mask = m.mask fixed j;
      })
  same_unit (suc (suc (suc n))) = λ j. done S S.set (parameters_of fixed (g.shared j))

  same_incoming : (n : ℕ) → incoming S a t fixed n ≡ incoming S b u fixed n
  unfolding incoming deal_frame deal
  same_incoming zero =
      λ j. frame deal_kind (parameters_of fixed (g.shared j)) (concat (m.key_mask j ∷ m.label_mask j ∷ m.z j ∷ m.r j ∷ []))
  same_incoming (suc zero) =
      λ j. frame open_kind (parameters_of (other fixed) (g.shared j)) (concat (m.open_key (other fixed) j ∷ m.open_label (other fixed) j ∷ []))
  same_incoming (suc (suc n)) = λ j. frame mask_kind (parameters_of (other fixed) (g.shared j)) (m.mask (other fixed) j)

  -- a stray frame gets the same number from either unit: it depends on parameters and stage alone
  same_number : (i : Side) (n : ℕ) (f : List ℕ) (lent : Files) (output_length : ℕ)
      → number_for S (unit_at S a t i n) f lent output_length ≡ number_for S (unit_at S b u i n) f lent output_length
  unfolding unit_at
  same_number i zero f lent output_length = λ j. step_number S (parameters_of i (g.shared j)) 1 f lent output_length
  same_number i (suc zero) f lent output_length = λ j. step_number S (parameters_of i (g.shared j)) 2 f lent output_length
  same_number i (suc (suc zero)) f lent output_length = λ j. step_number S (parameters_of i (g.shared j)) 3 f lent output_length
  same_number i (suc (suc (suc n))) f lent output_length = λ j. step_number S (parameters_of i (g.shared j)) 4 f lent output_length

  same_result : (i : Side) (n : ℕ) (f : List ℕ) (lent : Files) (output_length : ℕ)
      → (step S (unit_at S a t i n) f lent output_length).result ≡ (step S (unit_at S b u i n) f lent output_length).result
  same_result i n f lent output_length =
      step_result S (unit_at S a t i n) f lent output_length ∙ same_number i n f lent output_length
      ∙ sym (step_result S (unit_at S b u i n) f lent output_length)

  -- ---- one shared entry, the first run's, played in both

  abbrev P : Protocol
  P = protocol S

  abbrev R₁ : Run
  R₁ = run_of a t

  abbrev R₂ : Run
  R₂ = run_of b u

  abbrev C₁ : (Side → ℕ) → Configuration
  C₁ = configuration_at S a t

  abbrev C₂ : (Side → ℕ) → Configuration
  C₂ = configuration_at S b u

  -- the fixed unit's events go on the same
  abbrev Seen : Entry → Configuration → Configuration → Type 0
  Seen e c₁ c₂ =
      (es₁ es₂ : List Event) → es₁ ≡ es₂ → cons_if_own fixed e.side (event_of P R₁ c₁ e) es₁ ≡ cons_if_own fixed e.side (event_of P R₂ c₂ e) es₂

  record Matched (e : Entry) (c₁ c₂ : Configuration) : Type 0 where
    counts : Side → ℕ
    first : next P R₁ c₁ e ≡ C₁ counts
    second : next P R₂ c₂ e ≡ C₂ counts
    valid : Valid P R₂ c₂ e e.delivery
    result : (step_of P R₁ c₁ e).result ≡ (step_of P R₂ c₂ e).result
    seen : Seen e c₁ c₂

  -- of its own entry, where the frames are the same; of the other unit's entries it sees nothing
  sees : (p : Side → ℕ) (i : Side) (d : Delivery) (lent : Files) (output_length : ℕ)
      → (i ≡ fixed → frame_of P R₁ (C₁ p) fixed d ≡ frame_of P R₂ (C₂ p) fixed d) → Seen (entry i d lent output_length) (C₁ p) (C₂ p)
  unfolding configuration_at
  sees p i d lent output_length =
      both (λ i. (i ≡ fixed → frame_of P R₁ (C₁ p) fixed d ≡ frame_of P R₂ (C₂ p) fixed d) → Seen (entry i d lent output_length) (C₁ p) (C₂ p)) fixed
      (λ f es₁ es₂ e j. cons_if_own fixed fixed (event (same_unit (p fixed) j) (f refl j)) (e j))
      (λ f es₁ es₂ e. not_own fixed _ es₁ ∙ e ∙ sym (not_own fixed _ es₂)) i
    where
      event : State → List ℕ → Event
      event v f =
          let s = step S v f lent output_length in
          record { frame = f; files = lent; result = s.result; written = s.written; after = s.next }

  module _ (L : Linear S) (well₁ : WellFormed S a) (well₂ : WellFormed S b) (h₁ : Accepted S t) (h₂ : Accepted S u) where
    matched : (p : Side → ℕ) (i : Side) (d : Delivery) (lent : Files) (output_length : ℕ)
        → Valid P R₁ (C₁ p) (entry i d lent output_length) d → Matched (entry i d lent output_length) (C₁ p) (C₂ p)
    unfolding configuration_at
    matched p i as_sent lent output_length v =
        record {
          counts = update i (suc (p i)) p;
          first = next-sent S a t p i lent output_length r₁ L well₁ h₁;
          second = next-sent S b u p i lent output_length r₂ L well₂ h₂;
          valid = delivered_of S b u p i lent output_length r₂;
          result = sent-accepted S a t p i lent output_length r₁ L well₁ h₁ ∙ sym (sent-accepted S b u p i lent output_length r₂ L well₂ h₂);
          seen = sees p i as_sent lent output_length frames;
        }
      where
        r₁ : Ready S a.files p i lent output_length
        r₁ = ready_of S a t p i lent output_length v

        r₂ : Ready S b.files p i lent output_length
        r₂ = subst (λ (own : Files). Ready S own p i lent output_length) g.files r₁

        frames : i ≡ fixed → frame_of P R₁ (C₁ p) fixed as_sent ≡ frame_of P R₂ (C₂ p) fixed as_sent
        frames e =
            let r = subst (λ (i : Side). Ready S a.files p i lent output_length) e r₁ in
            frame_is S a t p fixed r.not_done r.not_ahead ∙ same_incoming (p fixed) ∙ sym (frame_is S b u p fixed r.not_done r.not_ahead)
    matched p i (stray f) lent output_length v =
        record {
          counts = p;
          first = next_stray S R₁ (C₁ p) i f lent output_length v;
          second = next_stray S R₂ (C₂ p) i f lent output_length v₂;
          valid = v₂;
          result = n;
          seen = sees p i (stray f) lent output_length (λ e. refl);
        }
      where
        n : (step_of P R₁ (C₁ p) (entry i (stray f) lent output_length)).result ≡ (step_of P R₂ (C₂ p) (entry i (stray f) lent output_length)).result
        n = same_result i (p i) f lent output_length

        v₂ : (step_of P R₂ (C₂ p) (entry i (stray f) lent output_length)).result ≢ 0
        v₂ = λ z. v (n ∙ z)

    -- ---- the whole shared list

    record Hidden (c₁ c₂ : Configuration) (es : List SharedEntry) : Type 0 where
      list : ListOf P R₂ c₂ (second_of fixed es)
      numbers : SameNumbers P fixed R₁ R₂ c₁ c₂ es
      seen : events P fixed R₁ c₁ (first_of fixed es) ≡ events P fixed R₂ c₂ (second_of fixed es)

    hidden : (p : Side → ℕ) (c₁ c₂ : Configuration) → c₁ ≡ C₁ p → c₂ ≡ C₂ p → (es : List SharedEntry) → Comparable P fixed R₁ R₂ c₁ c₂ es → Hidden c₁ c₂ es
    unfolding events
    hidden p c₁ c₂ q₁ q₂ [] v = record { list = tt; numbers = tt; seen = refl }
    hidden p c₁ c₂ q₁ q₂ (same e ∷ es) v =
        let v₁ : Valid P R₁ (C₁ p) e e.delivery = subst (λ (c : Configuration). Valid P R₁ c e e.delivery) q₁ v.0 in
        let d : Matched e c₁ c₂ = subst₂ (Matched e) (sym q₁) (sym q₂) (matched p e.side e.delivery e.files e.output_length v₁) in
        let r = hidden d.counts (next P R₁ c₁ e) (next P R₂ c₂ e) d.first d.second es v.1 in
        record { list = (d.valid, r.list); numbers = (d.result, r.numbers); seen = d.seen _ _ r.seen }
    hidden p c₁ c₂ q₁ q₂ (differ l₁ l₂ ∷ es) v =
        let o = other fixed in
        let e₁ = next_stray S R₁ c₁ o l₁.frame l₁.files l₁.output_length v.0 in
        let e₂ = next_stray S R₂ c₂ o l₂.frame l₂.files l₂.output_length v.1 in
        let r = hidden p _ _ (e₁ ∙ q₁) (e₂ ∙ q₂) es v.2 in
        record { list = (v.1, r.list); numbers = r.numbers; seen = not_own fixed _ _ ∙ r.seen ∙ sym (not_own fixed _ _) }

    -- what the statement asks
    pub same_view_lem : (es : List SharedEntry) → Comparable P fixed R₁ R₂ (start P R₁) (start P R₂) es → SameView P fixed R₁ R₂ es
    unfolding view
    same_view_lem es v =
        let r = hidden (λ i. 0) (start P R₁) (start P R₂) (start-at S a well₁ t) (start-at S b well₂ u) es v in
        record {
          list = r.list;
          numbers = r.numbers;
          views =
              λ j.
              record {
                parameters = parameters_of fixed (g.shared j);
                key = g.key j;
                label = g.label j;
                begun = (begin S (parameters_of fixed (g.shared j)) (g.key j) (g.label j)).next;
                events = r.seen j;
              };
        }
