-- A state as the bytes of a slice, and the beginning and the step over such a slice.
use Rattle.std.specs.Prelude.{ℕ, ◌+◌, ◌-◌, ◌*◌, ◌<◌, List, [], ◌∷◌, ◌++◌, Bool, cond, not, eqb, length, get_or, take, drop}
use Rattle.linear_model.specs.Bits.{Bytes, zeros}
use Rattle.numbers.specs.Number.{Condition, ◌when◌, first}
use Rattle.numbers.specs.Sets.{counted, number_in}
use Rattle.pair_model.specs.Scheme.{Files, Scheme, layout_bytes, field, concat}
use Rattle.pair_model.specs.Base.{scheme_of}
use Rattle.pair_model.specs.Frame.{Parameters, FitsHeader, header, header_bytes, kind_of, carried_parameters}
use Rattle.pair_model.specs.Unit.{Secrets, State, state, Stepped, begun, idle, begin_conditions, step_conditions, step}

-- ---- the bytes of a state

-- the room for each string of a key's or the inner vector's length, and for the trits of r: those of the largest set
abbrev pub string_room : ℕ
string_room = 64

abbrev pub trits_room : ℕ
trits_room = 2 * string_room

-- a string and zeros after it, up to a room's length; a longer one is not cut
abbrev pub in_room : ℕ → List ℕ → List ℕ
in_room room s = s ++ zeros (room - length s)

-- the rooms of a slice: the halves, the deal, the own mask
abbrev pub rooms : List ℕ
rooms = string_room ∷ string_room ∷ string_room ∷ string_room ∷ string_room ∷ trits_room ∷ string_room ∷ []

-- the secrets, each in its room
abbrev pub in_rooms : Secrets → List (List ℕ)
in_rooms s =
    in_room string_room s.key ∷ in_room string_room s.label ∷ in_room string_room s.key_mask ∷ in_room string_room s.label_mask
    ∷ in_room string_room s.z ∷ in_room trits_room s.r ∷ in_room string_room s.own_mask ∷ []

-- before them a header like a frame's, with the stage for its kind, and the set
unfoldable pub state_header : ℕ → Parameters → ℕ → List ℕ
state_header set t stage = header stage t ++ set ∷ []

abbrev pub state_header_bytes : ℕ
state_header_bytes = header_bytes + 1

abbrev pub state_bytes : ℕ
state_bytes = state_header_bytes + layout_bytes rooms

unfoldable pub encode_state : State → List ℕ
encode_state u = state_header u.set u.parameters u.stage ++ concat (in_rooms u.secrets)

-- where a slice's room i stands
abbrev pub room_place : ℕ → ℕ
room_place i = state_header_bytes + layout_bytes (take i rooms)

-- the front of it
abbrev pub in_front : List ℕ → ℕ → ℕ → List ℕ
in_front s i n = take n (field rooms i (drop state_header_bytes s))

module _ (S : Scheme) where
  -- any bytes as a state of this scheme: of each room the string in its front
  unfoldable pub decode_as : List ℕ → State
  decode_as s =
      state S.set (carried_parameters s) (kind_of s)
      (record {
        key = in_front s 0 S.key_bytes;
        label = in_front s 1 S.key_bytes;
        key_mask = in_front s 2 S.key_bytes;
        label_mask = in_front s 3 S.key_bytes;
        z = in_front s 4 S.inner_bytes;
        r = in_front s 5 (2 * S.inner_bytes);
        own_mask = in_front s 6 S.inner_bytes;
      })

  -- a state that a slice can hold: stage and side of a byte, what a header can hold, and strings of the stated lengths
  pub record Sized (u : State) : Type 0 where
    pub stage : u.stage < 256
    pub side : u.parameters.side < 256
    pub shared : FitsHeader u.parameters.shared
    pub key : Bytes S.key_bytes u.secrets.key
    pub label : Bytes S.key_bytes u.secrets.label
    pub key_mask : Bytes S.key_bytes u.secrets.key_mask
    pub label_mask : Bytes S.key_bytes u.secrets.label_mask
    pub z : Bytes S.inner_bytes u.secrets.z
    pub r : Bytes (2 * S.inner_bytes) u.secrets.r
    pub own_mask : Bytes S.inner_bytes u.secrets.own_mask

-- the set of the state in a slice
abbrev pub set_in : List ℕ → ℕ
set_in s = counted (get_or s header_bytes 0)

-- any bytes decode to some state
abbrev pub decode_state : List ℕ → State
decode_state s = decode_as (scheme_of (set_in s)) s

-- ---- beginning and step over such a slice

-- a slice of another length is 1
abbrev pub bad_state : List ℕ → Bool
bad_state s = not (eqb (length s) state_bytes)

module _ (set : ℕ) where
  abbrev pub pair_begin_conditions : Parameters → List ℕ → List ℕ → List ℕ → List Condition
  pair_begin_conditions t key label s = 1 when bad_state s ∷ begin_conditions (scheme_of set) t key label

  unfoldable pub pair_begin_number : Parameters → List ℕ → List ℕ → List ℕ → ℕ
  pair_begin_number t key label s = number_in set (pair_begin_conditions t key label s)

  -- a slice of another length stays as it was; one of its length gets the begun state, or the idle one where the beginning is refused
  unfoldable pub pair_begin_state : Parameters → List ℕ → List ℕ → List ℕ → List ℕ
  pair_begin_state t key label s =
      cond (bad_state s) s
      (cond (eqb (pair_begin_number t key label s) 0) (encode_state (begun (scheme_of set) t key label)) (encode_state idle))

-- the step of the state in a slice, in the scheme that its set names
abbrev pub slice_step : List ℕ → List ℕ → Files → ℕ → Stepped
slice_step s f lent output_length = step (scheme_of (set_in s)) (decode_state s) f lent output_length

-- the slice's own length, then the conditions of that step
abbrev pub pair_step_conditions : List ℕ → List ℕ → Files → ℕ → List Condition
pair_step_conditions s f lent output_length =
    let u = decode_state s in 1 when bad_state s ∷ step_conditions (scheme_of (set_in s)) u.parameters u.stage f lent output_length

unfoldable pub pair_step_number : List ℕ → List ℕ → Files → ℕ → ℕ
pair_step_number s f lent output_length = first (pair_step_conditions s f lent output_length)

-- a refused step leaves the slice as it was
unfoldable pub pair_step_state : List ℕ → List ℕ → Files → ℕ → List ℕ
pair_step_state s f lent output_length =
    cond (eqb (pair_step_number s f lent output_length) 0) (encode_state (slice_step s f lent output_length).next) s

unfoldable pub pair_step_written : List ℕ → List ℕ → Files → ℕ → List ℕ
pair_step_written s f lent output_length = cond (bad_state s) [] (slice_step s f lent output_length).written
