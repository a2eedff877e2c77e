-- What a frame is read to: its kind, side, session, line and body length, or its refusal.
use Rattle.std.specs.Prelude.{ℕ, ◌-◌, List, [], ◌∷◌, Bool, true, false, not, ltb, eqb, length}
use Rattle.numbers.specs.Number.{Condition, ◌when◌}
use Rattle.pair_model.specs.Scheme.{Scheme}
use Rattle.pair_model.specs.Frame.{header_bytes, kind_of, side_of, session_of, line_of, frame_bytes}

pub data Header : Type 0 where
  fields : (kind side session line body : ℕ) → Header
  refusal : (number : ℕ) → Header

abbrev pub choose : Bool → Header → Header → Header
choose true a b = a
choose false a b = b

-- a frame whose kind may be lowest to highest: 3 where it is shorter than a header or of another kind, 4 where its length is not its kind's
unfoldable pub read_header : Scheme → ℕ → ℕ → List ℕ → Header
read_header S lowest highest f =
    choose (ltb (length f) header_bytes) (refusal 3)
    (choose (ltb (kind_of f) lowest) (refusal 3)
    (choose (ltb highest (kind_of f)) (refusal 3)
    (choose (not (eqb (length f) (frame_bytes S (kind_of f)))) (refusal 4)
    (fields (kind_of f) (side_of f) (session_of f) (line_of f) (length f - header_bytes)))))

-- the number of each case
abbrev pub header_number : Header → ℕ
header_number (fields kind side session line body) = 0
header_number (refusal number) = number

-- whether the frame was refused with this number
abbrev pub refused_with : ℕ → Header → Bool
refused_with number (fields kind side session line body) = false
refused_with number (refusal told) = eqb told number

-- the kind, the side and the session that were read; of a refused frame, whose number comes first, 0
abbrev pub kind_read : Header → ℕ
kind_read (fields kind side session line body) = kind
kind_read (refusal number) = 0

abbrev pub side_read : Header → ℕ
side_read (fields kind side session line body) = side
side_read (refusal number) = 0

abbrev pub session_read : Header → ℕ
session_read (fields kind side session line body) = session
session_read (refusal number) = 0

-- a frame of another line than this one: the last condition of a call, so that it is told only of frames that have no other fault
abbrev pub line_conditions : ℕ → List ℕ → List Condition
line_conditions line f = 15 when not (eqb (line_of f) line) ∷ []
