-- A whole run in one place: the program's input, its number and its code.
use Rattle.std.specs.Prelude.{ℕ, List, [], ◌∷◌, not, ◌||◌, ltb, eqb, length}
use Rattle.numbers.specs.Number.{Condition, ◌when◌, first}
use Rattle.matrix_model.specs.File.{rows_of, bad_check_of, bad_layout_of, bad_trit_of, tied_rows_of, matrix_b}
use Rattle.pair_model.specs.Scheme.{files, Scheme, Side, side0, side1, total, layout_bytes, field}
use Rattle.pair_model.specs.Base.{base}
use Rattle.pair_model.specs.Tape.{tape_bytes, unfit_tape}
use Rattle.pair_model.specs.Frame.{SharedParameters, shared_parameters, code_bytes}
use Rattle.pair_model.specs.Evaluator.{code}

-- what the program's units share: session 1, line 0
abbrev pub program_shared : SharedParameters
program_shared = shared_parameters 1 0

module _ (S : Scheme) where
  -- two key halves, two label halves, tape, matrix file
  abbrev pub input_layout : List ℕ
  input_layout = S.key_bytes ∷ S.key_bytes ∷ S.key_bytes ∷ S.key_bytes ∷ tape_bytes S ∷ S.rows_reading.bytes ∷ []

  abbrev pub input_bytes : ℕ
  input_bytes = layout_bytes input_layout

  abbrev pub input_key : List ℕ → Side → List ℕ
  input_key input side0 = field input_layout 0 input
  input_key input side1 = field input_layout 1 input

  abbrev pub input_label : List ℕ → Side → List ℕ
  input_label input side0 = field input_layout 2 input
  input_label input side1 = field input_layout 3 input

  abbrev pub input_tape : List ℕ → List ℕ
  input_tape input = field input_layout 4 input

  abbrev pub input_file : List ℕ → List ℕ
  input_file input = field input_layout 5 input

  -- the evaluator's code of the summed halves
  unfoldable pub run_code : List ℕ → List ℕ
  run_code input = code S (total S.key_bytes (input_key input)) (total S.key_bytes (input_label input)) (files (input_file input))

-- the lowest number over all of it
unfoldable pub run_conditions : List ℕ → ℕ → List Condition
run_conditions input output_length =
    let file = input_file base input in
    1 when not (eqb (length input) (input_bytes base))
    ∷ 1 when ltb output_length (code_bytes base)
    ∷ 8 when bad_check_of matrix_b file
    ∷ 9 when bad_layout_of matrix_b file
    ∷ 10 when (bad_trit_of matrix_b (rows_of matrix_b file) || unfit_tape base (input_tape base input))
    ∷ 12 when tied_rows_of matrix_b (rows_of matrix_b file)
    ∷ []

abbrev pub run_number : List ℕ → ℕ → ℕ
run_number input output_length = first (run_conditions input output_length)
