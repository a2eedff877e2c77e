-- What a unit sees of a run.
use Rattle.std.specs.Prelude.{ℕ, List, [], ◌∷◌}
use Rattle.pair_model.specs.Unit.{State}
use Rattle.pair_model.specs.Scheme.{Files, Side, side0, side1}
use Rattle.pair_model.specs.Frame.{Parameters, parameters_of}
use Rattle.pair_model.specs.Run.{Protocol, Run, Configuration, Entry, begun_unit, start, frame_of, step_of, next}

-- one of its steps, refused or not: the frame and files handed in, the result, the bytes written and the state afterwards
pub record Event : Type 0 where
  pub frame : List ℕ
  pub files : Files
  pub result : ℕ
  pub written : List ℕ
  pub after : State

-- what it was begun with, its state then, and its own steps
pub record View : Type 0 where
  pub parameters : Parameters
  pub key : List ℕ
  pub label : List ℕ
  pub begun : State
  pub events : List Event

-- an event of side j goes before those of side i where it is its own
abbrev pub cons_if_own : Side → Side → Event → List Event → List Event
cons_if_own side0 side0 event events = event ∷ events
cons_if_own side0 side1 event events = events
cons_if_own side1 side0 event events = events
cons_if_own side1 side1 event events = event ∷ events

module _ (P : Protocol) where
  abbrev pub event_of : Run → Configuration → Entry → Event
  event_of run c e =
      record {
        frame = frame_of P run c e.side e.delivery;
        files = e.files;
        result = (step_of P run c e).result;
        written = (step_of P run c e).written;
        after = (step_of P run c e).next;
      }

  unfoldable pub events : Side → Run → Configuration → List Entry → List Event
  events i run c [] = []
  events i run c (e ∷ es) = cons_if_own i e.side (event_of run c e) (events i run (next P run c e) es)

  unfoldable pub view : Side → Run → List Entry → View
  view i run es =
      record {
        parameters = parameters_of i run.inputs.shared;
        key = run.inputs.key i;
        label = run.inputs.label i;
        begun = begun_unit P run.inputs i;
        events = events i run (start P run) es;
      }
