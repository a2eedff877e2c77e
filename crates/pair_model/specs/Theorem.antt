-- The statement: what a run gives, and what it hides from either unit.
use Rattle.std.specs.Prelude.{ℕ, ◌+◌, ◌≤◌, ◌<◌, ◌≡◌, ◌≢◌, List, [], ◌∷◌, cond, eqb, get_or}
use Rattle.pair_model.specs.Scheme.{Scheme, Side, side0, side1, other, total}
use Rattle.pair_model.specs.Tape.{Accepted}
use Rattle.pair_model.specs.Frame.{kind_of, code_bytes}
use Rattle.pair_model.specs.Evaluator.{code, evaluate_number}
use Rattle.pair_model.specs.Unit.{State, least_output, step_reading, idle_stage, done_stage}
use Rattle.pair_model.specs.Join.{join_number, joined}
use Rattle.pair_model.specs.Run.{Protocol, Inputs, WellFormed, Run, run_of, Configuration, Delivery, as_sent, stray, Entry, entry, Lent, SharedEntry, start, frame_of, step_of, next, final, sent_count, DeliveredAsSent, ListOf, Comparable, SameNumbers, first_of, second_of}
use Rattle.pair_model.specs.View.{view}

-- a map and its inverse between what two predicates hold of
pub record Bijection {A B : Type 0} (P : A → Type 0) (Q : B → Type 0) : Type 0 where
  pub forth : A → B
  pub back : B → A
  pub forth_holds : (a : A) → P a → Q (forth a)
  pub back_holds : (b : B) → Q b → P (back b)
  pub back_forth : (a : A) → P a → back (forth a) ≡ a
  pub forth_back : (b : B) → Q b → forth (back b) ≡ b

-- two runs' inputs that differ in the other unit's halves alone
pub record SameForFixed (fixed : Side) (a b : Inputs) : Type 0 where
  pub key : a.key fixed ≡ b.key fixed
  pub label : a.label fixed ≡ b.label fixed
  pub shared : a.shared ≡ b.shared
  pub files : a.files ≡ b.files

module _ (P : Protocol) where
  abbrev S : Scheme
  S = P.scheme

  -- ---- what a run hides

  -- over one list: it is one of the second run too, equal entries get equal numbers, and the views of the fixed unit are equal
  pub record SameView (fixed : Side) (run₁ run₂ : Run) (es : List SharedEntry) : Type 0 where
    pub list : ListOf P run₂ (start P run₂) (second_of fixed es)
    pub numbers : SameNumbers P fixed run₁ run₂ (start P run₁) (start P run₂) es
    pub views : view P fixed run₁ (first_of fixed es) ≡ view P fixed run₂ (second_of fixed es)

  -- one pairing of tapes, given before any tape or list is named
  pub record Hides (fixed : Side) (a b : Inputs) : Type 0 where
    pub pairing : Bijection (Accepted S) (Accepted S)
    pub same_view : (tape : List ℕ) → Accepted S tape → (es : List SharedEntry)
        → let run₁ = run_of a tape in let run₂ = run_of b (pairing.forth tape) in
        Comparable P fixed run₁ run₂ (start P run₁) (start P run₂) es → SameView fixed run₁ run₂ es

  abbrev pub Privacy : Type 0
  Privacy = (fixed : Side) (a b : Inputs) → WellFormed S a → WellFormed S b → SameForFixed fixed a b → Hides fixed a b

  -- ---- what a run gives

  abbrev pub AcceptedIfSent : Delivery → ℕ → Type 0
  AcceptedIfSent as_sent result = result ≡ 0
  AcceptedIfSent (stray f) result = Unit {0}

  abbrev pub AllAccepted : Run → Configuration → List Entry → Type 0
  AllAccepted run c [] = Unit {0}
  AllAccepted run c (e ∷ es) = AcceptedIfSent e.delivery (step_of P run c e).result × AllAccepted run (next P run c e) es

  -- both units are done
  abbrev pub Done : Configuration → Type 0
  Done c = (i : Side) → (c.unit i).stage ≡ done_stage

  -- the third frame that a unit has written
  abbrev pub share_frame : Configuration → Side → List ℕ
  share_frame c i = get_or (c.sent i) 2 []

  -- six entries as sent, the units in turn
  abbrev pub in_order : Run → List Entry
  in_order run =
      let e0 = entry side0 as_sent run.inputs.files (least_output S) in
      let e1 = entry side1 as_sent run.inputs.files (least_output S) in
      e0 ∷ e1 ∷ e0 ∷ e1 ∷ e0 ∷ e1 ∷ []

  -- the run's own key, label and code
  abbrev pub own_code : Run → List ℕ
  own_code run =
      code S (total S.key_bytes run.inputs.key) (total S.key_bytes run.inputs.label) run.inputs.files

  -- when an entry as sent is available, by the counts of entries as sent so far: the unit is not done and not ahead of the other
  pub record Available (run : Run) (es : List Entry) (e : Entry) : Type 0 where
    pub not_done : sent_count es e.side < 3
    pub not_ahead : sent_count es e.side ≤ sent_count es (other e.side)
    pub files : let read = step_reading S (kind_of (frame_of P run (final P run (start P run) es) e.side as_sent)) in
        read.content e.files ≡ read.content run.inputs.files
    pub output : least_output S ≤ e.output_length

  -- the beginnings of a run are accepted
  abbrev pub Begins : Type 0
  Begins = (a : Inputs) → WellFormed S a → (i : Side) → (P.beginning a i).result ≡ 0

  -- what holds of a run, over every list of it
  pub record CorrectRun (run : Run) : Type 0 where
    pub begins : (i : Side) → (P.beginning run.inputs i).result ≡ 0
    pub accepted : (es : List Entry) → ListOf P run (start P run) es → AllAccepted run (start P run) es
    pub stages : (es : List Entry) → ListOf P run (start P run) es → (i : Side)
        → ((final P run (start P run) es).unit i).stage ≡ 1 + sent_count es i
    pub available : (es : List Entry) → ListOf P run (start P run) es → (e : Entry)
        → Available run es e → DeliveredAsSent P run (final P run (start P run) es) e
    pub only_available : (es : List Entry) → ListOf P run (start P run) es → (e : Entry)
        → DeliveredAsSent P run (final P run (start P run) es) e → Available run es e
    pub ends : ListOf P run (start P run) (in_order run) × Done (final P run (start P run) (in_order run))
    pub evaluates : evaluate_number S (total S.key_bytes run.inputs.key) (total S.key_bytes run.inputs.label) run.inputs.files (code_bytes S) ≡ 0
    pub joins : (es : List Entry) → ListOf P run (start P run) es → let c = final P run (start P run) es in Done c
        → (join_number S (share_frame c side0) (share_frame c side1) (code_bytes S) ≡ 0)
        × (joined S (share_frame c side0) (share_frame c side1) ≡ own_code run)

  abbrev pub Correctness : Type 0
  Correctness = (run : Run) → WellFormed S run.inputs → Accepted S run.tape → CorrectRun run

  -- ---- any calls whatever, from any state

  abbrev pub accepted_count : State → List Lent → ℕ
  accepted_count u [] = 0
  accepted_count u (l ∷ ls) =
      let s = P.step u l.frame l.files l.output_length in cond (eqb s.result 0) 1 0 + accepted_count s.next ls

  abbrev pub after : State → List Lent → State
  after u [] = u
  after u (l ∷ ls) = after (P.step u l.frame l.files l.output_length).next ls

  -- the stage moves by exactly the number of accepted frames, up to done; a refusal changes nothing
  pub record ThreeFrames : Type 0 where
    pub counts : (u : State) (ls : List Lent) → u.stage ≤ done_stage → (after u ls).stage ≡ u.stage + accepted_count u ls
    pub bounded : (u : State) (ls : List Lent) → u.stage ≤ done_stage → (after u ls).stage ≤ done_stage
    pub idle : (u : State) (ls : List Lent) → u.stage ≡ idle_stage → accepted_count u ls ≡ 0
    pub beyond : (u : State) (ls : List Lent) → done_stage < u.stage → accepted_count u ls ≡ 0
    pub refusal : (u : State) (l : Lent) → let s = P.step u l.frame l.files l.output_length in
        s.result ≢ 0 → (s.written ≡ []) × (s.next ≡ u)

  -- ---- the whole

  pub record Demand3 : Type 0 where
    pub correctness : Correctness
    pub privacy : Privacy
    pub three_frames : ThreeFrames
