-- One round of the program's two units, each frame in the front of the least output slice, and an input that is accepted.
use Rattle.std.specs.Prelude.{ℕ, ◌≤◌, ◌≡◌, List, ◌++◌, false, length, drop}
use Rattle.linear_model.specs.Bits.{zeros}
use Rattle.matrix_model.specs.File.{check_number}
use Rattle.pair_model.specs.Base.{base}
use Rattle.pair_model.specs.Frame.{code_bytes}
use Rattle.pair_model.specs.Unit.{State, Stepped, least_output}
use Rattle.pair_model.specs.Tape.{unfit_tape}
use Rattle.pair_model.specs.WholeRun.{input_bytes, input_tape, input_file}

-- a frame in the front of the least output slice
abbrev pub padded : List ℕ → List ℕ
padded w = w ++ drop (length w) (zeros (least_output base))

-- what a step has sent, and the unit afterwards
pub record Sends (s : Stepped) (frame : List ℕ) (next : State) : Type 0 where
  pub frame_is : frame ≡ padded s.written
  pub next_is : next ≡ s.next

-- an input of the program that is accepted, with room for the code
pub record RunFits (input : List ℕ) (room : ℕ) : Type 0 where
  pub long : length input ≡ input_bytes base
  pub room_is : code_bytes base ≤ room
  pub file : check_number 1 (input_file base input) ≡ 0
  pub tape : unfit_tape base (input_tape base input) ≡ false
