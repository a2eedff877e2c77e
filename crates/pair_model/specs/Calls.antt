-- Lists of C calls: the states of both units stand in slices, and `pair_begin` and `pair_step` are called on these.
use Rattle.std.specs.Prelude.{ℕ, ◌-◌, ◌<◌, ◌≡◌, List, [], ◌∷◌, ◌++◌, true, cond, eqb, length, get_or}
use Rattle.linear_model.specs.Bits.{Bytes}
use Rattle.numbers.specs.Sets.{is_set}
use Rattle.pair_model.specs.Scheme.{Files, Side}
use Rattle.pair_model.specs.Base.{scheme_of}
use Rattle.pair_model.specs.Tape.{Accepted}
use Rattle.pair_model.specs.Frame.{Parameters, parameters_of, FitsHeader, kind_of}
use Rattle.pair_model.specs.Unit.{State, unit_begin, unit_step}
use Rattle.pair_model.specs.Run.{Protocol, protocol, Inputs, WellFormed, Run, Configuration, Delivery, as_sent, stray, Entry, update, start, frames_for, next, final}
use Rattle.pair_model.specs.View.{Event, event_of}
use Rattle.pair_model.specs.StateSlice.{state_bytes, encode_state, decode_state, Sized, pair_begin_number, pair_begin_state, pair_step_number, pair_step_state, pair_step_written}

-- both state slices, and the frames that each unit has written
pub record Slices : Type 0 where
  pub state : Side → List ℕ
  pub sent : Side → List (List ℕ)

-- a string of bytes, of any length
abbrev pub AreBytes : List ℕ → Type 0
AreBytes s = (i : ℕ) → get_or s i 0 < 256

-- what a host hands in of its own are bytes
abbrev pub BytesIfStray : Delivery → Type 0
BytesIfStray as_sent = Unit {0}
BytesIfStray (stray f) = AreBytes f

-- in each entry of a list
abbrev pub StrayBytes : List Entry → Type 0
StrayBytes [] = Unit {0}
StrayBytes (e ∷ es) = BytesIfStray e.delivery × StrayBytes es

-- ---- sizes

-- a state of a set that a slice can hold
pub record SizedState (u : State) : Type 0 where
  pub set : is_set u.set ≡ true
  pub sized : Sized (scheme_of u.set) u

-- what calls give fits its slice, and reads back
pub record StatesFit : Type 0 where
  -- after a beginning with bytes, refused or not
  pub begins : (set : ℕ) (t : Parameters) (key label : List ℕ) → FitsHeader t.shared → AreBytes key → AreBytes label
      → SizedState (unit_begin set t key label).next
  -- after a step on any frame of bytes; and what it writes are bytes
  pub steps : (u : State) (f : List ℕ) (lent : Files) (output_length : ℕ) → SizedState u → AreBytes f → SizedState (unit_step u f lent output_length).next
  pub writes : (u : State) (f : List ℕ) (lent : Files) (output_length : ℕ) → SizedState u → AreBytes f
      → AreBytes (unit_step u f lent output_length).written
  -- in a slice, and read back from it
  pub encoded : (u : State) → SizedState u → Bytes state_bytes (encode_state u)
  pub read_back : (u : State) → SizedState u → decode_state (encode_state u) ≡ u
  -- any bytes of a state's length
  pub decodes : (s : List ℕ) → Bytes state_bytes s → SizedState (decode_state s)

-- the configuration that slices stand for
abbrev pub decoded : Slices → Configuration
decoded c = record { unit = λ i. decode_state (c.state i); sent = c.sent }

module _ (set : ℕ) where
  abbrev P : Protocol
  P = protocol (scheme_of set)

  -- ---- calls

  -- both slices after `pair_begin`, whatever they held before
  abbrev pub begun_slices : Inputs → (Side → List ℕ) → Slices
  begun_slices a before =
      record {
        state = λ i. pair_begin_state set (parameters_of i a.shared) (a.key i) (a.label i) (before i);
        sent = λ i. [];
      }

  -- the frame handed in; as sent it is the one that byte 0 of the slice, the stage, waits for
  abbrev pub handed_in : Run → Slices → Side → Delivery → List ℕ
  handed_in run c i as_sent = get_or (frames_for P run (decoded c) i) (kind_of (c.state i) - 1) []
  handed_in run c i (stray f) = f

  -- what one call of `pair_step` returns
  abbrev pub call_number : Run → Slices → Entry → ℕ
  call_number run c e = pair_step_number (c.state e.side) (handed_in run c e.side e.delivery) e.files e.output_length

  -- what it writes
  abbrev pub call_written : Run → Slices → Entry → List ℕ
  call_written run c e = pair_step_written (c.state e.side) (handed_in run c e.side e.delivery) e.files e.output_length

  -- its slice afterwards
  abbrev pub call_state : Run → Slices → Entry → List ℕ
  call_state run c e = pair_step_state (c.state e.side) (handed_in run c e.side e.delivery) e.files e.output_length

  -- both slices after a call
  unfoldable pub after_call : Run → Slices → Entry → Slices
  after_call run c e =
      let old = c.sent e.side in
      record {
        state = update e.side (call_state run c e) c.state;
        sent = update e.side (cond (eqb (call_number run c e) 0) (old ++ (call_written run c e ∷ [])) old) c.sent;
      }

  -- and after a list of calls
  unfoldable pub after_calls : Run → Slices → List Entry → Slices
  after_calls run c [] = c
  after_calls run c (e ∷ es) = after_calls run (after_call run c e) es

  -- ---- they are the run's steps

  -- what a unit sees of a call
  abbrev pub call_event : Run → Slices → Entry → Event
  call_event run c e =
      record {
        frame = handed_in run c e.side e.delivery;
        files = e.files;
        result = call_number run c e;
        written = call_written run c e;
        after = decode_state (call_state run c e);
      }

  -- each call of a list is seen as the run's step is
  abbrev pub SameEvents : Run → Slices → Configuration → List Entry → Type 0
  SameEvents run c d [] = Unit {0}
  SameEvents run c d (e ∷ es) = (call_event run c e ≡ event_of P run d e) × SameEvents run (after_call run c e) (next P run d e) es

  -- both beginnings, and after them every list of calls
  pub record RunByCalls (run : Run) (before : Side → List ℕ) : Type 0 where
    pub begins : (i : Side)
        → pair_begin_number set (parameters_of i run.inputs.shared) (run.inputs.key i) (run.inputs.label i) (before i) ≡ (P.beginning run.inputs i).result
    pub events : (es : List Entry) → StrayBytes es → SameEvents run (begun_slices run.inputs before) (start P run) es
    pub after : (es : List Entry) → StrayBytes es
        → decoded (after_calls run (begun_slices run.inputs before) es) ≡ final P run (start P run) es

-- in each set, on two slices of a state's length, with any bytes in them
abbrev pub CallsAreRuns : Type 0
CallsAreRuns =
    (set : ℕ) → is_set set ≡ true → let S = scheme_of set in
    (run : Run) → WellFormed S run.inputs → Accepted S run.tape
    → (before : Side → List ℕ) → ((i : Side) → length (before i) ≡ state_bytes) → RunByCalls set run before
