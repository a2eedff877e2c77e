-- What the struct of a unit stands for, and which struct a state becomes.
use Rattle.std.specs.Prelude.{◌*◌, take}
use Rattle.numbers.specs.Sets.{counted}
use Rattle.pair_frames.specs.declared.sizes.Sizes.{Sizes}
use Rattle.pair_frames.specs.Headers.{parameters_in}
use Rattle.pair_frames.specs.Numbers.{Numbers, set_sizes}
use Rattle.pair_frames.specs.Schemes.{numbers_in}
use Rattle.pair_model.specs.Unit.{State, state}
use Rattle.pair_model.specs.StateSlice.{string_room, trits_room, in_room}
use Rattle.pair_units.specs.declared.state.UnitState.{UnitState}

-- the state that a struct stands for at sizes of these numbers: the front of each room
abbrev pub state_by : Numbers → UnitState → State
state_by z u =
    let n = z.key_bytes in
    let m = z.inner_bytes in
    state z.set (parameters_in u.parameters) u.stage
    (record {
      key = take n u.key;
      label = take n u.label;
      key_mask = take n u.key_mask;
      label_mask = take n u.label_mask;
      z = take m u.z;
      r = take (2 * m) u.r;
      own_mask = take m u.own_mask;
    })

-- at these sizes
abbrev pub state_at : Sizes → UnitState → State
state_at z u = state_by (numbers_in z) u

-- the state that a struct stands for: of its set, where a number that is none counts as 1
abbrev pub state_of : UnitState → State
state_of u = state_by (set_sizes (counted u.set)) u

-- the struct that a state becomes: each string in its room
abbrev pub unit_of : State → UnitState
unit_of s =
    record {
      set = s.set;
      parameters = record { side = s.parameters.side; session = s.parameters.shared.session; line = s.parameters.shared.line };
      stage = s.stage;
      key = in_room string_room s.secrets.key;
      label = in_room string_room s.secrets.label;
      key_mask = in_room string_room s.secrets.key_mask;
      label_mask = in_room string_room s.secrets.label_mask;
      z = in_room string_room s.secrets.z;
      r = in_room trits_room s.secrets.r;
      own_mask = in_room string_room s.secrets.own_mask;
    }
