-- Protocols that send other open frames, and that they do not have `Privacy`.
use Prim.Native.Nat.{ℕ, ◌+◌, ◌≤◌}
use mathlib.Core.Path.{◌≡◌, refl, sym, ap, ◌∙◌, subst}
use mathlib.Core.Logic.{◌≢◌}
use mathlib.Core.List.{List, [], ◌∷◌, ◌++◌}
use mathlib.Core.Bool.{cond}
use native.Mathlib.Omega.{arith}
use native.Mathlib.Nat.{le_refl}
use lib.Dec.{eqb}
use lib.ListN.{length, get_or}
use lib.Seq.{take_at}
use Rattle.linear_model.specs.Bits.{zeros, bit}
use Rattle.pair_model.specs.Scheme.{Files, no_files, Scheme, Linear, Side, side0, side1, field, concat}
use Rattle.pair_model.specs.Tape.{Accepted}
use Rattle.pair_model.specs.Frame.{deal_kind, frame, header, kind_of, line_of, body_of, open_layout}
use Rattle.pair_model.specs.Unit.{State, Stepped, refused, idle, with_deal, step_reading, least_output, step_number, take_deal, take_open, advance, step}
use Rattle.pair_model.specs.Run.{Protocol, Inputs, WellFormed, Run, run_of, Configuration, as_sent, Entry, entry, SharedEntry, same, update, start, frames_for, frame_of, step_of, next, DeliveredAsSent, first_of, second_of}
use Rattle.pair_model.specs.View.{Event, View, events, view}
use Rattle.pair_model.specs.Theorem.{SameForFixed, Hides, Privacy}
use Rattle.pair_model.proofs.Theorem.Stages.{parameters_at, incoming, unit_at, accepts_deal}
use Rattle.pair_model.proofs.Theorem.Configurations.{configuration_at, start-at}
use Rattle.pair_model.specs.Leaky.{small, step_by, with_open_frame, bare_open, bare_key, open_of_line, telling_line}
use Rattle.pair_model.proofs.Evidence.Small.{a, b, well₁, well₂, same_for, zero_one, small_linear, zero-tape}

-- with the unit's own ways a step is the unit's step
pub own-step : step_by small (take_deal small) (take_open small) ≡ step small
unfolding step_by step advance
own-step = refl

-- ---- entries by what their steps give

-- the configuration after a step of side i
abbrev pub stepped : Configuration → Side → Stepped → Configuration
stepped c i s =
    record {
      unit = update i s.next c.unit;
      sent = update i (cond (eqb s.result 0) (c.sent i ++ (s.written ∷ [])) (c.sent i)) c.sent;
    }

-- an entry leaves what its step gives
pub next_by : (P : Protocol) (run : Run) (c : Configuration) (e : Entry) (s : Stepped) → step_of P run c e ≡ s → next P run c e ≡ stepped c e.side s
unfolding next
next_by P run c e s q = λ j. stepped c e.side (q j)

-- an entry as sent, with this file
abbrev pub sent : Scheme → Files → Side → Entry
sent S lent i = entry i as_sent lent (least_output S)

-- it is delivered as sent at a configuration in which the frame is there
pub delivered_at : (P : Protocol) (run : Run) (lent : Files) → lent ≡ run.inputs.files → {c d : Configuration} (i : Side) → c ≡ d
    → 1 ≤ (d.unit i).stage → (d.unit i).stage ≤ length (frames_for P run d i) → DeliveredAsSent P run c (sent P.scheme lent i)
delivered_at P run lent e {d = d} i q l m =
    subst (λ (c : Configuration). DeliveredAsSent P run c (sent P.scheme lent i)) (sym q)
    (record { waiting = l; written = m; files = ap (step_reading P.scheme (kind_of (frame_of P run d i as_sent))).content e; output = le_refl (least_output P.scheme) })

-- no event
abbrev pub none : Event
none = record { frame = []; files = no_files; result = 0; written = []; after = idle }

-- event k of a view
abbrev pub event_at : ℕ → View → Event
event_at k v = get_or v.events k none

-- the frame that side i writes at its deal, where it writes another open frame
abbrev open_frame : (State → List ℕ → List ℕ) → (S : Scheme) → Inputs → List ℕ → Side → List ℕ
open_frame other S a tape i = other (unit_at S a tape i 0) (body_of (incoming S a tape i 0))

module _ (other : State → List ℕ → List ℕ) (S : Scheme) (L : Linear S) (a : Inputs) (tape : List ℕ) (well : WellFormed S a) (h : Accepted S tape) (lent : Files) where
  R : Run
  R = run_of a tape

  abbrev C₀ : Configuration
  C₀ = configuration_at S a tape (λ i. 0)

  number-deal : (i : Side) → step_number S (parameters_at S a tape i) deal_kind (incoming S a tape i 0) lent (least_output S) ≡ 0
  number-deal i = accepts_deal S L a tape well h i lent (least_output S) (le_refl (least_output S))

  -- ---- the open frame is another one

  abbrev P : Protocol
  P = with_open_frame S other

  opened : Side → Stepped
  opened i = record { result = 0; written = open_frame other S a tape i; next = with_deal S (unit_at S a tape i 0) (body_of (incoming S a tape i 0)) }

  B₁ : Configuration
  B₁ = stepped C₀ side1 (opened side1)

  B₂ : Configuration
  B₂ = stepped B₁ side0 (opened side0)

  first-opened : next P R C₀ (sent S lent side1) ≡ B₁
  unfolding B₁ opened R step_by configuration_at unit_at incoming
  first-opened =
      next_by P R C₀ (sent S lent side1) (opened side1)
      (λ j. cond (eqb (number-deal side1 j) 0) (opened side1) (refused (number-deal side1 j) (unit_at S a tape side1 0)))

  second-opened : next P R B₁ (sent S lent side0) ≡ B₂
  unfolding B₁ B₂ opened R step_by configuration_at unit_at incoming
  second-opened =
      next_by P R B₁ (sent S lent side0) (opened side0)
      (λ j. cond (eqb (number-deal side0 j) 0) (opened side0) (refused (number-deal side0 j) (unit_at S a tape side0 0)))

  -- what side 0 is lent then
  frame_lent : frame_of P R B₂ side0 as_sent ≡ open_frame other S a tape side1
  unfolding B₁ B₂ opened R configuration_at unit_at
  frame_lent = refl

  module _ (e : lent ≡ a.files) where
    abbrev Delivered : Configuration → Side → Type 0
    Delivered c i = DeliveredAsSent P R c (sent S lent i)

    after_first : next P R (start P R) (sent S lent side1) ≡ B₁
    unfolding R
    after_first = ap (λ (c : Configuration). next P R c (sent S lent side1)) (start-at S a well tape) ∙ first-opened

    after-second : next P R (next P R (start P R) (sent S lent side1)) (sent S lent side0) ≡ B₂
    after-second = ap (λ (c : Configuration). next P R c (sent S lent side0)) after_first ∙ second-opened

    -- the three entries are delivered as sent
    delivered_first : Delivered (start P R) side1
    unfolding R configuration_at unit_at
    delivered_first = delivered_at P R lent e side1 (start-at S a well tape) (omega arith) (omega arith)

    delivered_second : Delivered (next P R (start P R) (sent S lent side1)) side0
    unfolding R B₁ opened configuration_at unit_at
    delivered_second = delivered_at P R lent e side0 after_first (omega arith) (omega arith)

    delivered_third : Delivered (next P R (next P R (start P R) (sent S lent side1)) (sent S lent side0)) side0
    unfolding R B₁ B₂ opened configuration_at unit_at
    delivered_third = delivered_at P R lent e side0 after-second (omega arith) (omega arith)

    -- and the third hands side 0 that frame of side 1, accepted or not
    seen : let c₁ = next P R (start P R) (sent S lent side1) in frame_of P R (next P R c₁ (sent S lent side0)) side0 as_sent ≡ open_frame other S a tape side1
    unfolding R
    seen = ap (λ (c : Configuration). frame_of P R c side0 as_sent) after-second ∙ frame_lent

-- where an open frame tells something of its sender's inputs, whatever the tape, and two runs' inputs differ in it, there is no `Privacy`
pub open_frame_leaks : (other : State → List ℕ → List ℕ) (S : Scheme) → Linear S → (a b : Inputs) → WellFormed S a → WellFormed S b → SameForFixed side0 a b
    → {A : Type 0} (look : List ℕ → A) (told : Inputs → A) → ((c : Inputs) → WellFormed S c → (tape : List ℕ) → look (open_frame other S c tape side1) ≡ told c)
    → told a ≢ told b → (tape : List ℕ) → Accepted S tape → ¬ Privacy (with_open_frame S other)
unfolding R view events
open_frame_leaks other S L a b well₁ well₂ g look told tells differ tape h privacy =
    differ (sym (tells a well₁ tape) ∙ ap look (sym (seen other S L a tape well₁ h a.files refl)) ∙ ap (λ (v : View). look (event_at 1 v).frame) views
    ∙ ap look (seen other S L b u well₂ (H.pairing.forth_holds tape h) a.files g.files) ∙ tells b well₂ u)
  where
    H : Hides (with_open_frame S other) side0 a b
    H = privacy side0 a b well₁ well₂ g

    u : List ℕ
    u = H.pairing.forth tape

    es : List SharedEntry
    es = same (sent S a.files side1) ∷ same (sent S a.files side0) ∷ same (sent S a.files side0) ∷ []

    views : view (with_open_frame S other) side0 (run_of a tape) (first_of side0 es) ≡ view (with_open_frame S other) side0 (run_of b u) (second_of side0 es)
    views =
        (H.same_view tape h es
        (delivered_first other S L a tape well₁ h a.files refl, (delivered_second other S L a tape well₁ h a.files refl, (delivered_third other S L a tape well₁ h a.files refl, tt)))
        ).views

-- at the small scheme: key halves 0 and 1 of side 1, in the open frame's body
pub bare_key_lem : ¬ Privacy (bare_key small)
unfolding unit_at bare_open field concat frame header
bare_key_lem =
    open_frame_leaks (bare_open small) small small_linear a b well₁ well₂ same_for (λ f. field (open_layout small) 0 (body_of f)) (λ c. c.key side1)
    (λ c well tape. take_at (c.key side1) _ 1 (well.key side1).size) (zero_one [] []) (zeros 8) zero-tape

-- and their bit 0 in its line
pub telling_line_lem : ¬ Privacy (telling_line small)
unfolding unit_at open_of_line frame header bit
telling_line_lem =
    open_frame_leaks _ small small_linear a b well₁ well₂ same_for line_of (λ c. c.shared.line + bit (c.key side1) 0) (λ c well tape. refl) (λ e. omega (arith, e)) (zeros 8) zero-tape
