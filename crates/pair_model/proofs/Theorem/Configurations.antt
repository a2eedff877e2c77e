-- A run's configuration by how many frames each unit has accepted: an entry as sent takes one unit one stage on, a stray one changes nothing.
use Prim.Native.Nat.{ℕ, zero, suc, ◌-◌, ◌≤◌, ◌<◌}
use mathlib.Core.Path.{◌≡◌, refl, sym, ap, ◌∙◌, subst}
use mathlib.Core.Logic.{◌≢◌}
use mathlib.Core.List.{List, [], ◌∷◌, ◌++◌}
use mathlib.Core.Bool.{false, cond, not}
use native.Mathlib.Omega.{arith}
use lib.Dec.{eqb, ltb, eqb-suc-zero}
use lib.ListN.{length, get_or, take}
use lib.Seq.{take-suc}
use Rattle.numbers.specs.Number.{◌when◌, first}
use Rattle.pair_model.specs.Scheme.{Files, Scheme, Linear, Side, side0, side1, side_byte, other}
use Rattle.pair_model.specs.Tape.{Accepted}
use Rattle.pair_model.specs.Frame.{parameters_of, frame, header, kind_of}
use Rattle.pair_model.specs.Unit.{Stepped, Beginning, refused, begin, begin_conditions, begun, idle, step, step_reading, least_output}
use Rattle.pair_model.specs.Dealer.{deal_frame}
use Rattle.pair_model.specs.Run.{Protocol, protocol, Inputs, WellFormed, Run, run_of, Configuration, as_sent, stray, entry, update, start, frames_for, frame_of, step_of, next, DeliveredAsSent}
use Rattle.numbers.proofs.Numbers.{equal}
use Rattle.pair_model.proofs.Theorem.StepLaws.{step-refused, step_result, number_for}
use Rattle.pair_model.proofs.Theorem.Stages.{parameters_at, incoming, outgoing, unit_at, accepted, accepts}

-- what is put where it stood changes nothing; what depends on a value by side changes with it
put_back : {A : Type 0} (i : Side) (f : Side → A) → update i (f i) f ≡ f
put_back i f = λ j s. at i s j
  where
    at : (i s : Side) → update i (f i) f s ≡ f s
    at side0 side0 = refl
    at side0 side1 = refl
    at side1 side0 = refl
    at side1 side1 = refl

pub put_under : {A B : Type 0} (i : Side) (g : Side → A → B) (p : Side → A) (n : A) → update i (g i n) (λ s. g s (p s)) ≡ (λ s. g s (update i n p s))
put_under i g p n = λ j s. at i s j
  where
    at : (i s : Side) → update i (g i n) (λ s. g s (p s)) s ≡ g s (update i n p s)
    at side0 side0 = refl
    at side0 side1 = refl
    at side1 side0 = refl
    at side1 side1 = refl

-- a stray entry changes nothing
pub next_stray : (S : Scheme) (run : Run) (c : Configuration) (i : Side) (f : List ℕ) (lent : Files) (output_length : ℕ)
    → (step_of (protocol S) run c (entry i (stray f) lent output_length)).result ≢ 0
    → next (protocol S) run c (entry i (stray f) lent output_length) ≡ c
unfolding next
next_stray S run c i f lent output_length h =
    (λ j.
    record {
      unit = update i (e j).next c.unit;
      sent = update i (cond (eqb (e j).result 0) (c.sent i ++ ((e j).written ∷ [])) (c.sent i)) c.sent;
    })
    ∙ (λ j. record { unit = put_back i c.unit j; sent = kept j })
  where
    number : ℕ
    number = number_for S (c.unit i) f lent output_length

    e : step S (c.unit i) f lent output_length ≡ refused number (c.unit i)
    e = step-refused S (c.unit i) f lent output_length h

    pick : (n : ℕ) → n ≢ 0 → cond (eqb n 0) (c.sent i ++ ([] ∷ [])) (c.sent i) ≡ c.sent i
    pick zero h = absurd (h refl)
    pick (suc n) h = rw (eqb-suc-zero n)

    kept : update i (cond (eqb number 0) (c.sent i ++ ([] ∷ [])) (c.sent i)) c.sent ≡ c.sent
    kept =
        ap (λ (l : List (List ℕ)). update i l c.sent) (pick number (λ z. h (step_result S (c.unit i) f lent output_length ∙ z)))
        ∙ put_back i c.sent

module _ (S : Scheme) (a : Inputs) (tape : List ℕ) where
  -- the configuration with so many frames accepted by each side
  unfoldable pub configuration_at : (Side → ℕ) → Configuration
  configuration_at p = record { unit = λ i. unit_at S a tape i (p i); sent = λ i. take (p i) (outgoing S a tape i) }

  -- a unit that has accepted n frames is at stage n + 1
  pub stage_at : (i : Side) (n : ℕ) → n ≤ 3 → (unit_at S a tape i n).stage ≡ suc n
  unfolding unit_at
  stage_at i zero l = refl
  stage_at i (suc zero) l = refl
  stage_at i (suc (suc zero)) l = refl
  stage_at i (suc (suc (suc zero))) l = refl
  stage_at i (suc (suc (suc (suc n)))) l = absurd (omega arith)

  -- ---- the frame that a unit waits for is there exactly when the other unit has gone as far

  abbrev arrived : Side → ℕ → List (List ℕ)
  arrived i q = deal_frame S a.shared a.files tape i ∷ take 2 (take q (outgoing S a tape (other i)))

  not_ahead_lem : (i : Side) (n q : ℕ) → (unit_at S a tape i n).stage ≤ length (arrived i q) → (n < 3) × (n ≤ q)
  unfolding unit_at outgoing
  not_ahead_lem i zero q l = omega arith
  not_ahead_lem i (suc zero) zero l = absurd (omega arith)
  not_ahead_lem i (suc zero) (suc q) l = omega arith
  not_ahead_lem i (suc (suc zero)) zero l = absurd (omega arith)
  not_ahead_lem i (suc (suc zero)) (suc zero) l = absurd (omega arith)
  not_ahead_lem i (suc (suc zero)) (suc (suc q)) l = omega arith
  not_ahead_lem i (suc (suc (suc n))) zero l = absurd (omega arith)
  not_ahead_lem i (suc (suc (suc n))) (suc zero) l = absurd (omega arith)
  not_ahead_lem i (suc (suc (suc n))) (suc (suc q)) l = absurd (omega arith)

  record There (i : Side) (n q : ℕ) : Type 0 where
    waiting : 1 ≤ (unit_at S a tape i n).stage
    written : (unit_at S a tape i n).stage ≤ length (arrived i q)
    frame : get_or (arrived i q) ((unit_at S a tape i n).stage - 1) [] ≡ incoming S a tape i n

  -- it is there, and it is what the unit is to receive
  there : (i : Side) (n q : ℕ) → n < 3 → n ≤ q → There i n q
  unfolding unit_at outgoing incoming
  there i zero q h l = record { waiting = omega arith; written = omega arith; frame = refl }
  there i (suc zero) zero h l = absurd (omega arith)
  there i (suc zero) (suc zero) h l = record { waiting = omega arith; written = omega arith; frame = refl }
  there i (suc zero) (suc (suc q)) h l = record { waiting = omega arith; written = omega arith; frame = refl }
  there i (suc (suc zero)) zero h l = absurd (omega arith)
  there i (suc (suc zero)) (suc zero) h l = absurd (omega arith)
  there i (suc (suc zero)) (suc (suc q)) h l = record { waiting = omega arith; written = omega arith; frame = refl }
  there i (suc (suc (suc n))) q h l = absurd (omega arith)

  -- each unit writes three frames
  pub three : (i : Side) → length (outgoing S a tape i) ≡ 3
  unfolding outgoing
  three i = refl

  -- its kind is known by the count alone
  kind_at : (i : Side) (n : ℕ) → n < 3 → kind_of (incoming S a tape i n) ≡ suc n
  unfolding incoming deal_frame frame header
  kind_at i zero l = refl
  kind_at i (suc zero) l = refl
  kind_at i (suc (suc zero)) l = refl
  kind_at i (suc (suc (suc n))) l = absurd (omega arith)

-- ---- an entry as sent, by the counts alone

-- the unit is not done and not ahead of the other, what it reads of its files is the run's, the output slice is long enough
pub record Ready (S : Scheme) (own : Files) (p : Side → ℕ) (i : Side) (lent : Files) (output_length : ℕ) : Type 0 where
  pub not_done : p i < 3
  pub not_ahead : p i ≤ p (other i)
  pub right : (step_reading S (suc (p i))).content lent ≡ (step_reading S (suc (p i))).content own
  pub long : least_output S ≤ output_length

module _ (S : Scheme) (a : Inputs) (tape : List ℕ) (p : Side → ℕ) (i : Side) where
  abbrev P : Protocol
  P = protocol S

  abbrev R : Run
  R = run_of a tape

  abbrev C : Configuration
  C = configuration_at S a tape p

  -- a frame is there for a unit exactly if it is not done and not ahead of the other
  pub counts_of : (C.unit i).stage ≤ length (frames_for P R C i) → (p i < 3) × (p i ≤ p (other i))
  unfolding configuration_at
  counts_of l = not_ahead_lem S a tape i (p i) (p (other i)) l

  -- the other way round
  pub there_of : p i < 3 → p i ≤ p (other i) → (1 ≤ (C.unit i).stage) × ((C.unit i).stage ≤ length (frames_for P R C i))
  unfolding configuration_at
  there_of l m = let t = there S a tape i (p i) (p (other i)) l m in (t.waiting, t.written)

  -- and it is the one that the unit is to receive
  pub frame_is : p i < 3 → p i ≤ p (other i) → frame_of P R C i as_sent ≡ incoming S a tape i (p i)
  unfolding configuration_at
  frame_is l m = (there S a tape i (p i) (p (other i)) l m).frame

  kind_is : p i < 3 → p i ≤ p (other i) → kind_of (frame_of P R C i as_sent) ≡ suc (p i)
  kind_is l m = ap kind_of (frame_is l m) ∙ kind_at S a tape i (p i) l

  -- what is read of two records of files at a frame of this kind is the same
  abbrev SameAt : Files → ℕ → Type 0
  SameAt lent kind = (step_reading S kind).content lent ≡ (step_reading S kind).content a.files

  module _ (lent : Files) (output_length : ℕ) where
    -- an entry as sent is ready by its counts
    pub ready_of : DeliveredAsSent P R C (entry i as_sent lent output_length) → Ready S a.files p i lent output_length
    ready_of v =
        let c = counts_of v.written in
        record {
          not_done = c.0;
          not_ahead = c.1;
          right = subst (SameAt lent) (kind_is c.0 c.1) v.files;
          long = v.output;
        }

    module _ (ready : Ready S a.files p i lent output_length) where
      -- and one that is ready is as sent
      pub delivered_of : DeliveredAsSent P R C (entry i as_sent lent output_length)
      delivered_of =
          let t = there_of ready.not_done ready.not_ahead in
          record {
            waiting = t.0;
            written = t.1;
            files = subst (SameAt lent) (sym (kind_is ready.not_done ready.not_ahead)) ready.right;
            output = ready.long;
          }

      module _ (L : Linear S) (well : WellFormed S a) (h : Accepted S tape) where
        -- its step is the accepted one
        pub step-sent : step_of P R C (entry i as_sent lent output_length) ≡ accepted S L a tape well h i lent output_length ready.long (p i)
        unfolding configuration_at
        step-sent =
            ap (λ (f : List ℕ). step S (unit_at S a tape i (p i)) f lent output_length) (frame_is ready.not_done ready.not_ahead)
            ∙ accepts S L a tape well h i lent output_length ready.long (p i) ready.not_done ready.right

        -- so it returns 0
        pub sent-accepted : (step_of P R C (entry i as_sent lent output_length)).result ≡ 0
        sent-accepted = ap (λ (s : Stepped). s.result) step-sent

        -- an entry as sent takes the unit one stage on
        pub next-sent : next P R C (entry i as_sent lent output_length) ≡ configuration_at S a tape (update i (suc (p i)) p)
        unfolding next configuration_at
        next-sent =
            (λ j.
            record {
              unit = update i (step-sent j).next (λ s. unit_at S a tape s (p s));
              sent =
                  update i (cond (eqb (step-sent j).result 0) (old ++ ((step-sent j).written ∷ [])) old)
                  (λ s. take (p s) (outgoing S a tape s));
            })
            ∙ (λ j.
            record {
              unit = put_under i (unit_at S a tape) p (suc (p i)) j;
              sent =
                  (ap (λ (l : List (List ℕ)). update i l (λ s. take (p s) (outgoing S a tape s))) (one_more (p i) ready.not_done)
                  ∙ put_under i (λ s n. take n (outgoing S a tape s)) p (suc (p i))) j;
            })
          where
            old : List (List ℕ)
            old = take (p i) (outgoing S a tape i)

            one_more : (n : ℕ) → n < 3 → take n (outgoing S a tape i) ++ (get_or (outgoing S a tape i) n [] ∷ []) ≡ take (suc n) (outgoing S a tape i)
            one_more n l = sym (take-suc (outgoing S a tape i) n [] (rw (three S a tape i) l))

-- ---- the beginning

module _ (S : Scheme) (a : Inputs) (well : WellFormed S a) where
  abbrev fresh : Side → Beginning
  fresh i = record { result = 0; next = begun S (parameters_at S a [] i) (a.key i) (a.label i) }

  -- it is accepted
  pub begins_as : (i : Side) → begin S (parameters_of i a.shared) (a.key i) (a.label i) ≡ fresh i
  unfolding begin first begin_conditions
  begins_as i = λ j. record { result = none j; next = cond (eqb (none j) 0) (fresh i).next idle }
    where
      low : (i : Side) → ltb 1 (side_byte i) ≡ false
      low side0 = refl
      low side1 = refl

      none : first (begin_conditions S (parameters_of i a.shared) (a.key i) (a.label i)) ≡ 0
      none =
          λ j. first (1 when not (equal (length (a.key i)) S.key_bytes (well.key i).size j)
          ∷ 1 when not (equal (length (a.label i)) S.key_bytes (well.label i).size j) ∷ 2 when low i j ∷ [])

  -- a run starts with no frame accepted
  pub start-at : (tape : List ℕ) → start (protocol S) (run_of a tape) ≡ configuration_at S a tape (λ i. 0)
  unfolding configuration_at unit_at
  start-at tape = λ j. record { unit = λ i. (begins_as i j).next; sent = λ i. [] }
