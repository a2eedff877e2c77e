-- Frames: the header and all lengths, in this one place.
use Rattle.std.specs.Prelude.{ℕ, ◌+◌, ◌*◌, ◌/◌, ◌%◌, ◌<◌, ◌^◌, List, [], ◌∷◌, ◌++◌, get_or, drop}
use Rattle.linear_model.specs.Products.{plane_bytes}
use Rattle.pair_model.specs.Scheme.{Scheme, Side, side_byte, layout_bytes}
use Rattle.pair_model.specs.Tape.{deal_layout}

-- the kinds
abbrev pub deal_kind : ℕ
deal_kind = 1

abbrev pub open_kind : ℕ
open_kind = 2

abbrev pub mask_kind : ℕ
mask_kind = 3

abbrev pub share_kind : ℕ
share_kind = 4

-- what both units of a run are begun with alike, and each frame of the run carries
pub record SharedParameters : Type 0 where
  pub session : ℕ
  -- the line of the packs: 0 bikes, 1 storage, others free
  pub line : ℕ

-- those with this session and line
abbrev pub shared_parameters : ℕ → ℕ → SharedParameters
shared_parameters session line = record { session = session; line = line }

-- what a unit is begun with besides its halves, and each of its frames carries
pub record Parameters : Type 0 where
  pub side : ℕ
  pub shared : SharedParameters

-- those of this side, session and line
abbrev pub parameters : ℕ → ℕ → ℕ → Parameters
parameters side session line = record { side = side; shared = shared_parameters session line }

-- those of a side's unit
abbrev pub parameters_of : Side → SharedParameters → Parameters
parameters_of i shared = record { side = side_byte i; shared = shared }

-- a header: kind, side, session (four bytes, lowest first), line
unfoldable pub header : ℕ → Parameters → List ℕ
header kind t =
    let session = t.shared.session in
    kind ∷ t.side ∷ session % 256 ∷ session / 256 % 256 ∷ session / 65536 % 256 ∷ session / 16777216 % 256 ∷ t.shared.line ∷ []

abbrev pub header_bytes : ℕ
header_bytes = 7

-- what these bytes can hold
pub record FitsHeader (shared : SharedParameters) : Type 0 where
  pub session : shared.session < 2 ^ 32
  pub line : shared.line < 256

-- a frame: header, then body
unfoldable pub frame : ℕ → Parameters → List ℕ → List ℕ
frame kind t body = header kind t ++ body

-- a frame's kind, side, session, line and body
abbrev pub kind_of : List ℕ → ℕ
kind_of f = get_or f 0 0

abbrev pub side_of : List ℕ → ℕ
side_of f = get_or f 1 0

abbrev pub session_of : List ℕ → ℕ
session_of f = get_or f 2 0 + 256 * get_or f 3 0 + 65536 * get_or f 4 0 + 16777216 * get_or f 5 0

abbrev pub line_of : List ℕ → ℕ
line_of f = get_or f 6 0

abbrev pub body_of : List ℕ → List ℕ
body_of f = drop header_bytes f

-- the parameters that it carries
abbrev pub carried_parameters : List ℕ → Parameters
carried_parameters f = parameters (side_of f) (session_of f) (line_of f)

module _ (S : Scheme) where
  -- an open body: key half + K̃i, label half + x̃i
  abbrev pub open_layout : List ℕ
  open_layout = S.key_bytes ∷ S.key_bytes ∷ []

  -- a code and a code share: two planes of the digits
  abbrev pub code_bytes : ℕ
  code_bytes = 2 * plane_bytes S.digits

  -- the length of a body, by the frame's kind
  abbrev pub body_bytes : ℕ → ℕ
  body_bytes kind = get_or (0 ∷ layout_bytes (deal_layout S) ∷ layout_bytes open_layout ∷ S.inner_bytes ∷ code_bytes ∷ []) kind 0

  -- the whole length of a frame, by its kind
  abbrev pub frame_bytes : ℕ → ℕ
  frame_bytes kind = header_bytes + body_bytes kind
