-- A list of C calls is a run: by induction over the list, slices stay bytes and stand for the run's configuration.
use Prim.Native.Nat.{ℕ, zero, suc, ◌-◌, ◌<◌}
use mathlib.Core.Path.{◌≡◌, refl, sym, ap, ◌∙◌, subst}
use mathlib.Core.List.{List, [], ◌∷◌, ◌++◌}
use mathlib.Core.Bool.{Bool, true, false, cond}
use native.Mathlib.Nat.{suc-ne-zero}
use lib.Dec.{eqb, lit<}
use lib.ListN.{length, get_or, take}
use Rattle.linear_model.specs.Bits.{Bytes}
use Rattle.numbers.specs.Sets.{is_set}
use Rattle.pair_model.specs.Base.{scheme_of}
use Rattle.pair_model.specs.Scheme.{Files, Scheme, Side, side0, side1, side_byte, other}
use Rattle.pair_model.specs.Tape.{Accepted}
use Rattle.pair_model.specs.Frame.{Parameters, parameters_of, FitsHeader, deal_kind, kind_of}
use Rattle.pair_model.specs.Unit.{State, Beginning, Stepped, begin, step, unit_begin}
use Rattle.pair_model.specs.Dealer.{deal_frame}
use Rattle.pair_model.specs.Run.{Protocol, protocol, WellFormed, Run, Configuration, Delivery, as_sent, stray, Entry, update, start, frames_for, frame_of, step_of, next, final}
use Rattle.pair_model.specs.View.{Event, event_of}
use Rattle.pair_model.specs.StateSlice.{state_bytes, encode_state, decode_as, set_in, decode_state, slice_step, pair_begin_state, pair_step_state}
use Rattle.pair_model.specs.Calls.{Slices, AreBytes, BytesIfStray, StrayBytes, decoded, begun_slices, handed_in, call_number, call_written, call_state, call_event, after_call, after_calls, StatesFit, SameEvents, CallsAreRuns}
use Rattle.pair_model.proofs.Theorem.StepLaws.{number_for, step-accepted, step_result, step-refused}
use Rattle.pair_model.proofs.Theorem.Stages.{parameters_at, bytes_deal}
use Rattle.pair_model.proofs.Theorem.Configurations.{put_under, begins_as}
use Rattle.pair_model.proofs.Internal.Begins.{begin_in}
use Rattle.pair_model.proofs.Internal.Encodings.{begin_long, by_number, by_written, slice_refused, slice_accepted}
use Rattle.pair_model.proofs.Internal.StateSizes.{bytes_frame, bytes_encoded, read_back_lem, sized_decoded, sized_begin, step_keeps_set, sized_step, bytes_written, sized_slice, slice_written}

-- ---- single calls

module _ (set : ℕ) (s : List ℕ) (long : length s ≡ state_bytes) (t : Parameters) (key label : List ℕ) (hs : FitsHeader t.shared)
    (hk : AreBytes key) (hl : AreBytes label) where
  -- a beginning leaves bytes, which stand for the model's state
  pub bytes_begun : Bytes state_bytes (pair_begin_state set t key label s)
  bytes_begun = subst (Bytes state_bytes) (begin_long s long set t key label).1 (bytes_encoded _ (sized_begin set t key label hs hk hl))

  pub decoded-begun : decode_state (pair_begin_state set t key label s) ≡ (unit_begin set t key label).next
  decoded-begun = ap decode_state (sym (begin_long s long set t key label).1) ∙ read_back_lem _ (sized_begin set t key label hs hk hl)

module _ (s : List ℕ) (long : length s ≡ state_bytes) (hs : AreBytes s) (f : List ℕ) (hf : AreBytes f) (lent : Files) (n : ℕ) where
  abbrev own : Scheme
  own = scheme_of (set_in s)

  -- and so does a step
  record Stands (t : List ℕ) : Type 0 where
    bytes : Bytes state_bytes t
    is : decode_state t ≡ (slice_step s f lent n).next

  stands : Stands (pair_step_state s f lent n)
  stands = pick (number_for own (decode_state s) f lent n) refl
    where
      pick : (k : ℕ) → number_for own (decode_state s) f lent n ≡ k → Stands (pair_step_state s f lent n)
      pick zero e =
          let a = step-accepted own (decode_state s) f lent n e in
          let sized = sized_slice s (record { size = long; small = hs }) f hf lent n in
          subst Stands (ap (λ (t : Stepped). encode_state t.next) a ∙ (slice_accepted s long f lent n e).1)
          (record { bytes = bytes_encoded _ sized; is = read_back_lem _ sized })
      pick (suc k) e =
          let r = step-refused own (decode_state s) f lent n (λ z. suc-ne-zero k (sym e ∙ sym (step_result own (decode_state s) f lent n) ∙ z)) in
          subst Stands (slice_refused s long f lent n (λ z. suc-ne-zero k (sym e ∙ z))).1
          (record { bytes = record { size = long; small = hs }; is = sym (ap (λ (t : Stepped). t.next) r) })

  pub bytes_stepped : Bytes state_bytes (pair_step_state s f lent n)
  bytes_stepped = stands.bytes

  pub decoded-stepped : decode_state (pair_step_state s f lent n) ≡ (slice_step s f lent n).next
  decoded-stepped = stands.is

-- ---- what holds of both sides, and of all frames, also after a call

update_all : {A : Type 0} (Q : A → Type 0) (i : Side) (a : A) (f : Side → A) → Q a → ((s : Side) → Q (f s)) → (s : Side) → Q (update i a f s)
update_all Q side0 a f q h side0 = q
update_all Q side0 a f q h side1 = h side1
update_all Q side1 a f q h side0 = h side0
update_all Q side1 a f q h side1 = q

abbrev Frames : List (List ℕ) → Type 0
Frames fs = (k : ℕ) → AreBytes (get_or fs k [])

frames-take : (n : ℕ) (fs : List (List ℕ)) → Frames fs → Frames (take n fs)
frames-take zero fs h k = λ i. lit< tt
frames-take (suc n) [] h k = λ i. lit< tt
frames-take (suc n) (f ∷ fs) h zero = h 0
frames-take (suc n) (f ∷ fs) h (suc k) = frames-take n fs (λ j. h (suc j)) k

frames_more : (fs : List (List ℕ)) (f : List ℕ) → Frames fs → AreBytes f → Frames (fs ++ (f ∷ []))
frames_more [] f h b zero = b
frames_more [] f h b (suc k) = λ i. lit< tt
frames_more (g ∷ fs) f h b zero = h 0
frames_more (g ∷ fs) f h b (suc k) = frames_more fs f (λ j. h (suc j)) b k

frames_if : (accepted : Bool) (fs : List (List ℕ)) (f : List ℕ) → Frames fs → AreBytes f → Frames (cond accepted (fs ++ (f ∷ [])) fs)
frames_if true fs f h b = frames_more fs f h b
frames_if false fs f h b = h

module _ (set : ℕ) (is : is_set set ≡ true) (run : Run) (well : WellFormed (scheme_of set) run.inputs) (tape : Accepted (scheme_of set) run.tape) where
  abbrev S : Scheme
  S = scheme_of set

  abbrev P : Protocol
  P = protocol S

  -- slices of states of this set, and frames, all of bytes
  record Held (c : Slices) : Type 0 where
    states : (i : Side) → Bytes state_bytes (c.state i)
    sets : (i : Side) → set_in (c.state i) ≡ set
    frames : (i : Side) → Frames (c.sent i)

  -- ---- one call of a list

  bytes_dealt : (i : Side) → AreBytes (deal_frame S run.inputs.shared run.inputs.files run.tape i)
  unfolding deal_frame
  bytes_dealt i = (bytes_frame deal_kind (parameters_at S run.inputs run.tape i) (lit< tt) (low i) well.shared (bytes_deal S run.inputs.files run.tape tape i)).small
    where
      low : (i : Side) → side_byte i < 256
      low side0 = lit< tt
      low side1 = lit< tt

  module _ (c : Slices) (h : Held c) where
    awaited_bytes : (i : Side) (k : ℕ) → AreBytes (get_or (frames_for P run (decoded c) i) k [])
    awaited_bytes i zero = bytes_dealt i
    awaited_bytes i (suc k) = frames-take 2 (c.sent (other i)) (h.frames (other i)) k

    handed_bytes : (i : Side) (d : Delivery) → BytesIfStray d → AreBytes (handed_in set run c i d)
    handed_bytes i as_sent b = awaited_bytes i (kind_of (c.state i) - 1)
    handed_bytes i (stray f) b = b

    -- the frame is the one of the run
    same_frame : (i : Side) (d : Delivery) → handed_in set run c i d ≡ frame_of P run (decoded c) i d
    unfolding decode_as
    same_frame i as_sent = refl
    same_frame i (stray f) = refl

    module _ (e : Entry) (b : BytesIfStray e.delivery) where
      abbrev s : List ℕ
      s = c.state e.side

      abbrev f : List ℕ
      f = handed_in set run c e.side e.delivery

      bytes_s : Bytes state_bytes s
      bytes_s = h.states e.side

      bytes_f : AreBytes f
      bytes_f = handed_bytes e.side e.delivery b

      number_is : (slice_step s f e.files e.output_length).result ≡ call_number set run c e
      number_is = by_number s bytes_s.size f e.files e.output_length

      written_is : (slice_step s f e.files e.output_length).written ≡ call_written set run c e
      written_is = by_written s bytes_s.size f e.files e.output_length

      state_is : decode_state (call_state set run c e) ≡ (slice_step s f e.files e.output_length).next
      state_is = decoded-stepped s bytes_s.size bytes_s.small f bytes_f e.files e.output_length

      step_is : slice_step s f e.files e.output_length ≡ step_of P run (decoded c) e
      step_is =
          ap (λ (set : ℕ). step (scheme_of set) (decode_state s) f e.files e.output_length) (h.sets e.side)
          ∙ ap (λ (f : List ℕ). step S (decode_state s) f e.files e.output_length) (same_frame e.side e.delivery)

      -- it is seen as the run's step is
      same_event : call_event set run c e ≡ event_of P run (decoded c) e
      same_event =
          (λ j. record { frame = f; files = e.files; result = sym number_is j; written = sym written_is j; after = state_is j })
          ∙ (λ j.
          record {
            frame = same_frame e.side e.delivery j;
            files = e.files;
            result = (step_is j).result;
            written = (step_is j).written;
            after = (step_is j).next;
          })

      -- and leaves the run's next configuration
      same_next : decoded (after_call set run c e) ≡ next P run (decoded c) e
      unfolding after_call next
      same_next =
          (λ j. record { unit = sym (put_under e.side (λ i. decode_state) c.state (call_state set run c e)) j; sent = sent (call_event set run c e) })
          ∙ (λ j. record { unit = update e.side (same_event j).after (decoded c).unit; sent = sent (same_event j) })
        where
          sent : Event → Side → List (List ℕ)
          sent v = update e.side (cond (eqb v.result 0) (c.sent e.side ++ (v.written ∷ [])) (c.sent e.side)) c.sent

      -- of this set
      set_after : set_in (call_state set run c e) ≡ set
      unfolding decode_as
      set_after =
          ap (λ (u : State). u.set) state_is
          ∙ step_keeps_set (decode_state s) (sized_decoded s bytes_s) f bytes_f e.files e.output_length
          ∙ h.sets e.side

      -- and of bytes again
      held_after : Held (after_call set run c e)
      unfolding after_call
      held_after =
          record {
            states = update_all (Bytes state_bytes) e.side _ c.state (bytes_stepped s bytes_s.size bytes_s.small f bytes_f e.files e.output_length) h.states;
            sets = update_all (λ (t : List ℕ). set_in t ≡ set) e.side _ c.state set_after h.sets;
            frames =
                update_all Frames e.side _ c.sent
                (frames_if (eqb (call_number set run c e) 0) (c.sent e.side) (call_written set run c e) (h.frames e.side)
                (subst AreBytes written_is (slice_written s bytes_s f bytes_f e.files e.output_length)))
                h.frames;
          }

  -- ---- the whole list

  same_list : (c : Slices) (d : Configuration) → decoded c ≡ d → Held c → (es : List Entry) → StrayBytes es
      → SameEvents set run c d es × (decoded (after_calls set run c es) ≡ final P run d es)
  unfolding after_calls final
  same_list c d q h [] b = (tt, q)
  same_list c d q h (e ∷ es) b =
      let r = same_list (after_call set run c e) (next P run d e) (same_next c h e b.0 ∙ ap (λ (d : Configuration). next P run d e) q) (held_after c h e b.0) es b.1 in
      ((same_event c h e b.0 ∙ ap (λ (d : Configuration). event_of P run d e) q, r.0), r.1)

  module _ (before : Side → List ℕ) (long : (i : Side) → length (before i) ≡ state_bytes) where
    begun-unit : (i : Side)
        → decode_state ((begun_slices set run.inputs before).state i) ≡ (begin S (parameters_of i run.inputs.shared) (run.inputs.key i) (run.inputs.label i)).next
    begun-unit i =
        let t = parameters_of i run.inputs.shared in
        decoded-begun set (before i) (long i) t (run.inputs.key i) (run.inputs.label i) well.shared (well.key i).small (well.label i).small
        ∙ ap (λ (b : Beginning). b.next) (begin_in set is t (run.inputs.key i) (run.inputs.label i))

    begun_held : Held (begun_slices set run.inputs before)
    unfolding decode_as
    begun_held =
        record {
          states =
              λ i. bytes_begun set (before i) (long i) (parameters_of i run.inputs.shared) (run.inputs.key i) (run.inputs.label i)
              well.shared (well.key i).small (well.label i).small;
          sets = λ i. ap (λ (u : State). u.set) (begun-unit i) ∙ ap (λ (b : Beginning). b.next.set) (begins_as S run.inputs well i);
          frames = λ i k j. lit< tt;
        }

    begun-start : decoded (begun_slices set run.inputs before) ≡ start P run
    begun-start =
        λ j. record { unit = λ i. begun-unit i j; sent = λ i. [] }

pub states_fit : StatesFit
states_fit =
    record {
      begins = sized_begin;
      steps = λ u f lent n h b. sized_step u h f b lent n;
      writes = λ u f lent n h b. bytes_written u h f b lent n;
      encoded = bytes_encoded;
      read_back = read_back_lem;
      decodes = sized_decoded;
    }

pub calls_are_runs : CallsAreRuns
calls_are_runs set is run well tape before long =
    let all = same_list set is run well tape _ _ (begun-start set is run well tape before long) (begun_held set is run well tape before long) in
    record {
      begins =
          λ i.
          let t = parameters_of i run.inputs.shared in
          sym (begin_long (before i) (long i) set t (run.inputs.key i) (run.inputs.label i)).0
          ∙ ap (λ (b : Beginning). b.result) (begin_in set is t (run.inputs.key i) (run.inputs.label i));
      events = λ es b. (all es b).0;
      after = λ es b. (all es b).1;
    }
