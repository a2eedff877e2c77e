-- Dealers that deal by another tape: what unit 0 sees of their runs is what it sees of the protocol's with that tape.
use Prim.Native.Nat.{ℕ, suc, ◌≤◌, ◌<◌}
use mathlib.Core.Path.{◌≡◌, refl, sym, ap, ◌∙◌, subst}
use mathlib.Core.List.{List, [], ◌∷◌}
use native.Mathlib.Nat.{le_refl}
use lib.Dec.{lit<, lit≤}
use Rattle.pair_model.specs.Scheme.{Files, Scheme, Linear, Side, side0, side1, other}
use Rattle.pair_model.specs.Tape.{Accepted}
use Rattle.pair_model.specs.Unit.{Stepped, step_reading, least_output}
use Rattle.pair_model.specs.Run.{Protocol, Inputs, WellFormed, Run, run_of, Configuration, as_sent, Entry, update, start, frame_of, step_of, next, DeliveredAsSent, ListOf}
use Rattle.pair_model.specs.View.{View, events, view}
use Rattle.pair_model.specs.Theorem.{Hides}
use Rattle.pair_model.specs.Evidence.{shared}
use Rattle.pair_model.specs.Leaky.{dealt_by}
use Rattle.pair_model.proofs.Theorem.Stages.{incoming, unit_at}
use Rattle.pair_model.proofs.Theorem.Configurations.{configuration_at, Ready, delivered_of, frame_is, step-sent, next-sent, start-at}
use Rattle.pair_model.proofs.Evidence.Strays.{shared_comparable}
use Rattle.pair_model.proofs.Evidence.Leaky.{sent, event_at}

-- five entries as sent: both deals, both open frames, and the mask frame for unit 0
abbrev pub five : Scheme → Files → List Entry
five S lent = let e0 = sent S lent side0 in let e1 = sent S lent side1 in e0 ∷ e1 ∷ e0 ∷ e1 ∷ e0 ∷ []

module _ (S : Scheme) (L : Linear S) (change : List ℕ → List ℕ) (a : Inputs) (tape : List ℕ) (well : WellFormed S a) (accepted : Accepted S (change tape)) where
  abbrev P : Protocol
  P = dealt_by S change

  abbrev R : Run
  R = run_of a tape

  abbrev τ : List ℕ
  τ = change tape

  abbrev C : (Side → ℕ) → Configuration
  C = configuration_at S a τ

  -- ---- the configurations

  module _ (lent : Files) (e : lent ≡ a.files) where
    ready : (p : Side → ℕ) (i : Side) → p i < 3 → p i ≤ p (other i) → Ready S a.files p i lent (least_output S)
    ready p i l m = record { not_done = l; not_ahead = m; right = ap (step_reading S (suc (p i))).content e; long = le_refl (least_output S) }

    on_next : (p : Side → ℕ) (i : Side) → p i < 3 → p i ≤ p (other i) → next P R (C p) (sent S lent i) ≡ C (update i (suc (p i)) p)
    unfolding next
    on_next p i l m = next-sent S a τ p i lent (least_output S) (ready p i l m) L well accepted

    delivered : (p : Side → ℕ) (i : Side) → p i < 3 → p i ≤ p (other i) → DeliveredAsSent P R (C p) (sent S lent i)
    delivered p i l m =
        let d = delivered_of S a τ p i lent (least_output S) (ready p i l m) in
        record { waiting = d.waiting; written = d.written; files = d.files; output = d.output }

    -- how many frames each side has accepted before the third, fourth and fifth entry
    abbrev p₁ : Side → ℕ
    p₁ = update side0 1 (λ i. 0)

    abbrev p₂ : Side → ℕ
    p₂ = update side1 1 p₁

    abbrev p₃ : Side → ℕ
    p₃ = update side0 2 p₂

    abbrev p₄ : Side → ℕ
    p₄ = update side1 2 p₃

    abbrev c₂ : Configuration
    c₂ = next P R (next P R (start P R) (sent S lent side0)) (sent S lent side1)

    abbrev c₄ : Configuration
    c₄ = next P R (next P R c₂ (sent S lent side0)) (sent S lent side1)

    at₂ : c₂ ≡ C p₂
    at₂ =
        ap (λ (c : Configuration). next P R (next P R c (sent S lent side0)) (sent S lent side1)) (start-at S a well τ)
        ∙ ap (λ (c : Configuration). next P R c (sent S lent side1)) (on_next (λ i. 0) side0 (lit< tt) (lit≤ tt)) ∙ on_next p₁ side1 (lit< tt) (lit≤ tt)

    at₄ : c₄ ≡ C p₄
    at₄ =
        ap (λ (c : Configuration). next P R (next P R c (sent S lent side0)) (sent S lent side1)) at₂
        ∙ ap (λ (c : Configuration). next P R c (sent S lent side1)) (on_next p₂ side0 (lit< tt) (lit≤ tt)) ∙ on_next p₃ side1 (lit< tt) (lit≤ tt)

    -- ---- the five entries are a list of the run

    record From (p : Side → ℕ) (es : List Entry) : Type 0 where
      list : ListOf P R (C p) es

    on_sent : (p : Side → ℕ) (i : Side) (es : List Entry) → p i < 3 → p i ≤ p (other i) → From (update i (suc (p i)) p) es → From p (sent S lent i ∷ es)
    on_sent p i es l m r = record { list = (delivered p i l m, subst (λ (c : Configuration). ListOf P R c es) (sym (on_next p i l m)) r.list) }

    from_start : From (λ i. 0) (five S lent)
    from_start =
        on_sent _ side0 _ (lit< tt) (lit≤ tt) (on_sent _ side1 _ (lit< tt) (lit≤ tt) (on_sent _ side0 _ (lit< tt) (lit≤ tt)
        (on_sent _ side1 _ (lit< tt) (lit≤ tt) (on_sent _ side0 _ (lit< tt) (lit≤ tt) (record { list = tt })))))

    pub five_list : ListOf P R (start P R) (five S lent)
    five_list = subst (λ (c : Configuration). ListOf P R c (five S lent)) (sym (start-at S a well τ)) from_start.list

  -- ---- what unit 0 sees

  -- its state with its own mask made, the other's open frame and the other's mask frame
  pub record Seen (v : View) : Type 0 where
    pub after : (event_at 1 v).after ≡ unit_at S a τ side0 2
    pub open_frame : (event_at 1 v).frame ≡ incoming S a τ side0 1
    pub mask-frame : (event_at 2 v).frame ≡ incoming S a τ side0 2

  pub seen : (lent : Files) → lent ≡ a.files → Seen (view P side0 R (five S lent))
  unfolding view events
  seen lent e =
      record {
        after =
            ap (λ (c : Configuration). (step_of P R c (sent S lent side0)).next) (at₂ lent e)
            ∙ ap (λ (s : Stepped). s.next)
            (step-sent S a τ (p₂ lent e) side0 lent (least_output S) (ready lent e (p₂ lent e) side0 (lit< tt) (lit≤ tt)) L well accepted);
        open_frame = ap (λ (c : Configuration). frame_of P R c side0 as_sent) (at₂ lent e) ∙ frame_is S a τ (p₂ lent e) side0 (lit< tt) (lit≤ tt);
        mask-frame = ap (λ (c : Configuration). frame_of P R c side0 as_sent) (at₄ lent e) ∙ frame_is S a τ (p₄ lent e) side0 (lit< tt) (lit≤ tt);
      }

-- a pairing gives both runs the same view of the five
pub same_five : (S : Scheme) → Linear S → (change : List ℕ → List ℕ) → (a b : Inputs) → WellFormed S a → (tape : List ℕ) → Accepted S tape
    → Accepted S (change tape) → (H : Hides (dealt_by S change) side0 a b)
    → view (dealt_by S change) side0 (run_of a tape) (five S a.files) ≡ view (dealt_by S change) side0 (run_of b (H.pairing.forth tape)) (five S a.files)
same_five S L change a b well tape h accepted H =
    (H.same_view tape h (shared (five S a.files))
    (shared_comparable (dealt_by S change) side0 (run_of a tape) (run_of b (H.pairing.forth tape)) (five S a.files)
    (five_list S L change a tape well accepted a.files refl))).views
