-- What a run gives, by induction on its list: the configuration is known all along by how many frames each unit has accepted.
use Prim.Native.Nat.{ℕ, zero, suc, ◌+◌, ◌≤◌, ◌<◌}
use mathlib.Core.Path.{◌≡◌, refl, sym, ap, ap₂, ◌∙◌, subst}
use mathlib.Core.List.{List, [], ◌∷◌}
use native.Mathlib.Omega.{arith}
use native.Mathlib.Nat.{le_refl}
use lib.Dec.{lit<, lit≤}
use lib.ListN.{length, get_or, take}
use mathlib.Core.Bool.{not}
use Rattle.linear_model.proofs.Strings.{bytes_add}
use Rattle.numbers.specs.Number.{◌when◌, first, merge}
use Rattle.pair_model.specs.Scheme.{Files, faults_in, Scheme, Linear, Side, side0, side1, other, total}
use Rattle.pair_model.specs.Tape.{Accepted}
use Rattle.pair_model.specs.Frame.{code_bytes}
use Rattle.pair_model.specs.Evaluator.{evaluate_conditions, evaluate_number}
use Rattle.pair_model.specs.Unit.{Beginning, done_stage, least_output}
use Rattle.pair_model.specs.Join.{join_number, joined}
use Rattle.pair_model.specs.Run.{Protocol, protocol, Inputs, WellFormed, Run, run_of, Configuration, Delivery, as_sent, stray, Entry, entry, update, count_if_sent, sent_count, start, frames_for, step_of, next, final, Valid, ListOf, DeliveredAsSent}
use Rattle.pair_model.specs.Theorem.{AcceptedIfSent, AllAccepted, Done, share_frame, in_order, own_code, Available, CorrectRun}
use Rattle.numbers.proofs.Numbers.{at_least, equal, merge_none}
use Rattle.pair_model.proofs.Theorem.StepLaws.{fit_length, fit_faults}
use Rattle.pair_model.proofs.Theorem.Stages.{unit_at, outgoing}
use Rattle.pair_model.proofs.Theorem.Configurations.{configuration_at, stage_at, counts_of, there_of, next_stray, next-sent, sent-accepted, ready_of, delivered_of, Ready, begins_as, start-at}
use Rattle.pair_model.proofs.Theorem.ShareLaws.{share_frame_of, joins_shares, joins_to_code}

-- an entry counts before the others or after them
count_before : (d : Delivery) (s : Side) (p c : Side → ℕ) (i : Side) → count_if_sent d s p i + c i ≡ p i + count_if_sent d s c i
count_before as_sent side0 p c side0 = omega arith
count_before as_sent side0 p c side1 = refl
count_before as_sent side1 p c side0 = refl
count_before as_sent side1 p c side1 = omega arith
count_before (stray f) s p c i = refl

-- a count below 3 goes up to 3 at most
count_up : (s : Side) (p : Side → ℕ) → p s < 3 → ((i : Side) → p i ≤ 3) → (i : Side) → update s (suc (p s)) p i ≤ 3
count_up side0 p l b side0 = l
count_up side0 p l b side1 = b side1
count_up side1 p l b side0 = b side0
count_up side1 p l b side1 = l

module _ (S : Scheme) (L : Linear S) (a : Inputs) (tape : List ℕ) (well : WellFormed S a) (h : Accepted S tape) where
  abbrev P : Protocol
  P = protocol S

  abbrev R : Run
  R = run_of a tape

  abbrev C : (Side → ℕ) → Configuration
  C = configuration_at S a tape

  -- ---- one entry

  -- what an entry of a list does to a configuration that is known by its counts
  record Played (p : Side → ℕ) (e : Entry) (c : Configuration) : Type 0 where
    configuration : next P R c e ≡ C (count_if_sent e.delivery e.side p)
    accepted : AcceptedIfSent P e.delivery (step_of P R c e).result
    bounded : (i : Side) → count_if_sent e.delivery e.side p i ≤ 3

  played : (p : Side → ℕ) → ((i : Side) → p i ≤ 3) → (i : Side) (d : Delivery) (lent : Files) (output_length : ℕ)
      → Valid P R (C p) (entry i d lent output_length) d → Played p (entry i d lent output_length) (C p)
  played p b i as_sent lent output_length v =
      let ready = ready_of S a tape p i lent output_length v in
      record {
        configuration = next-sent S a tape p i lent output_length ready L well h;
        accepted = sent-accepted S a tape p i lent output_length ready L well h;
        bounded = count_up i p ready.not_done b;
      }
  played p b i (stray f) lent output_length v =
      record { configuration = next_stray S R (C p) i f lent output_length v; accepted = tt; bounded = b }

  -- ---- the whole list

  record Progress (p : Side → ℕ) (c : Configuration) (es : List Entry) : Type 0 where
    accepted : AllAccepted P R c es
    configuration : final P R c es ≡ C (λ i. p i + sent_count es i)
    bounded : (i : Side) → p i + sent_count es i ≤ 3

  progress : (p : Side → ℕ) (c : Configuration) → c ≡ C p → ((i : Side) → p i ≤ 3) → (es : List Entry) → ListOf P R c es → Progress p c es
  unfolding final sent_count
  progress p c e b [] v = record { accepted = tt; configuration = e ∙ (λ j. C (λ i. none i j)); bounded = λ i. omega (arith, b i) }
    where
      none : (i : Side) → p i ≡ p i + 0
      none i = omega arith
  progress p c e b (x ∷ es) v =
      let v₀ : Valid P R (C p) x x.delivery = subst (λ (c : Configuration). Valid P R c x x.delivery) e v.0 in
      let d : Played p x c = subst (λ (c : Configuration). Played p x c) (sym e) (played p b x.side x.delivery x.files x.output_length v₀) in
      let r = progress (count_if_sent x.delivery x.side p) (next P R c x) d.configuration d.bounded es v.1 in
      record {
        accepted = (d.accepted, r.accepted);
        configuration = r.configuration ∙ (λ j. C (λ i. before i j));
        bounded = λ i. rw (← before i) (r.bounded i);
      }
    where
      before : (i : Side) → count_if_sent x.delivery x.side p i + sent_count es i ≡ p i + count_if_sent x.delivery x.side (sent_count es) i
      before = count_before x.delivery x.side p (sent_count es)

  module _ (es : List Entry) (v : ListOf P R (start P R) es) where
    whole : Progress (λ i. 0) (start P R) es
    whole = progress (λ i. 0) (start P R) (start-at S a well tape) (λ i. lit≤ tt) es v

    none_before : (i : Side) → 0 + sent_count es i ≡ sent_count es i
    none_before i = omega arith

    -- after a list the configuration is the one of its counts of entries as sent
    pub reached : final P R (start P R) es ≡ C (sent_count es)
    reached = whole.configuration ∙ (λ j. C (λ i. none_before i j))

    -- of which each side has three at most
    pub at_most_3 : (i : Side) → sent_count es i ≤ 3
    at_most_3 i = omega (arith, whole.bounded i)

    stages : (i : Side) → ((final P R (start P R) es).unit i).stage ≡ 1 + sent_count es i
    unfolding configuration_at
    stages i = ap (λ (c : Configuration). (c.unit i).stage) reached ∙ stage_at S a tape i (sent_count es i) (at_most_3 i) ∙ omega arith

    available : (e : Entry) → Available P R es e → DeliveredAsSent P R (final P R (start P R) es) e
    available e v =
        let t : There c = subst There (sym reached) (there_of S a tape (sent_count es) i v.not_done v.not_ahead) in
        record { waiting = t.0; written = t.1; files = v.files; output = v.output }
      where
        i : Side
        i = e.side

        c : Configuration
        c = final P R (start P R) es

        There : Configuration → Type 0
        There c = (1 ≤ (c.unit i).stage) × ((c.unit i).stage ≤ length (frames_for P R c i))

    only_available : (e : Entry) → DeliveredAsSent P R (final P R (start P R) es) e → Available P R es e
    only_available e v =
        let t = counts_of S a tape (sent_count es) e.side (subst Written reached v.written) in
        record { not_done = t.0; not_ahead = t.1; files = v.files; output = v.output }
      where
        Written : Configuration → Type 0
        Written c = (c.unit e.side).stage ≤ length (frames_for P R c e.side)

    -- a unit that is done has sent its share frame
    finished : (i : Side) (n : ℕ) → (unit_at S a tape i n).stage ≡ done_stage → get_or (take n (outgoing S a tape i)) 2 [] ≡ share_frame_of S a tape i
    unfolding unit_at outgoing
    finished i zero e = absurd (omega arith)
    finished i (suc zero) e = absurd (omega arith)
    finished i (suc (suc zero)) e = absurd (omega arith)
    finished i (suc (suc (suc n))) e = refl

    -- so after a list its third frame is that one
    pub share-sent : Done P (final P R (start P R) es) → (i : Side) → share_frame P (final P R (start P R) es) i ≡ share_frame_of S a tape i
    unfolding configuration_at
    share-sent d i =
        ap (λ (c : Configuration). share_frame P c i) reached
        ∙ finished i (sent_count es i) (sym (ap (λ (c : Configuration). (c.unit i).stage) reached) ∙ d i)

    joins : let c = final P R (start P R) es in Done P c
        → (join_number S (share_frame P c side0) (share_frame P c side1) (code_bytes S) ≡ 0)
        × (joined S (share_frame P c side0) (share_frame P c side1) ≡ own_code P R)
    joins d = (
      ap₂ (λ (f g : List ℕ). join_number S f g (code_bytes S)) (share-sent d side0) (share-sent d side1) ∙ joins_shares S a tape,
      ap₂ (joined S) (share-sent d side0) (share-sent d side1) ∙ joins_to_code S a tape L,
    )

  -- ---- six entries in order

  record Ends (p : Side → ℕ) (es : List Entry) : Type 0 where
    list : ListOf P R (C p) es
    done : Done P (final P R (C p) es)

  one_on : (p : Side → ℕ) (i : Side) {es : List Entry} → p i < 3 → p i ≤ p (other i)
      → Ends (update i (suc (p i)) p) es → Ends p (entry i as_sent a.files (least_output S) ∷ es)
  unfolding final
  one_on p i {es} l m r =
      record {
        list = (delivered_of S a tape p i a.files (least_output S) ready, subst (λ (c : Configuration). ListOf P R c es) (sym moved) r.list);
        done = λ j. subst (λ (c : Configuration). ((final P R c es).unit j).stage ≡ done_stage) (sym moved) (r.done j);
      }
    where
      ready : Ready S a.files p i a.files (least_output S)
      ready = record { not_done = l; not_ahead = m; right = refl; long = le_refl (least_output S) }

      moved : next P R (C p) (entry i as_sent a.files (least_output S)) ≡ C (update i (suc (p i)) p)
      moved = next-sent S a tape p i a.files (least_output S) ready L well h

  in_order_ends : Ends (λ i. 0) (in_order P R)
  unfolding final configuration_at unit_at
  in_order_ends =
      one_on _ side0 (lit< tt) (lit≤ tt) (one_on _ side1 (lit< tt) (lit≤ tt) (one_on _ side0 (lit< tt) (lit≤ tt)
      (one_on _ side1 (lit< tt) (lit≤ tt) (one_on _ side0 (lit< tt) (lit≤ tt) (one_on _ side1 (lit< tt) (lit≤ tt)
      (record { list = tt; done = λ i. elim i as (λ j. ((final P R (C (update side1 3 (update side0 3 (update side1 2 (update side0 2 (update side1 1 (update side0 1 (λ x. 0)))))))) []).unit j).stage ≡ done_stage) [ side0 ↦ refl | side1 ↦ refl ] }))))))

  -- ---- the evaluator takes the run's key, label and file

  evaluates : evaluate_number S (total S.key_bytes a.key) (total S.key_bytes a.label) a.files (code_bytes S) ≡ 0
  unfolding evaluate_conditions first
  evaluates =
      (λ j. first
      (1 when not (equal (length (total S.key_bytes a.key)) S.key_bytes (bytes_add S.key_bytes _ _).size j)
      ∷ 1 when not (equal (length (total S.key_bytes a.label)) S.key_bytes (bytes_add S.key_bytes _ _).size j)
      ∷ 1 when fit_length S.product_reading a.files well.product j
      ∷ 1 when fit_length S.rows_reading a.files well.rows j
      ∷ 1 when at_least (code_bytes S) (code_bytes S) (le_refl (code_bytes S)) j
      ∷ merge (faults_in S.product_reading a.files) (faults_in S.rows_reading a.files)))
      ∙ merge_none _ _ (fit_faults S.product_reading a.files well.product) (fit_faults S.rows_reading a.files well.rows)

  -- all that a run gives
  pub correct : CorrectRun P R
  correct =
      record {
        begins = λ i. ap (λ (b : Beginning). b.result) (begins_as S a well i);
        accepted = λ es v. (whole es v).accepted;
        stages = stages;
        available = available;
        only_available = only_available;
        ends = rw (start-at S a well tape) (in_order_ends.list, in_order_ends.done);
        evaluates = evaluates;
        joins = joins;
      }
