-- Document 01's sample as a run, beside inputs that differ from it in one unit's key and label.
use Rattle.std.specs.Prelude.{ℕ, ◌≡◌, ◌≢◌, List, [], ◌∷◌}
use Rattle.linear_model.specs.Bits.{zeros}
use Rattle.matrix_model.specs.Sample.{sample_file}
use Rattle.pair_model.specs.Scheme.{Files, files, no_files, Scheme, Side, side0, side1, other, total}
use Rattle.pair_model.specs.Tape.{tape_bytes, Accepted}
use Rattle.pair_model.specs.Frame.{shared_parameters, code_bytes}
use Rattle.pair_model.specs.Evaluator.{evaluate_number}
use Rattle.pair_model.specs.Unit.{least_output}
use Rattle.pair_model.specs.Base.{base}
use Rattle.pair_model.specs.Run.{protocol, Inputs, WellFormed, Run, run_of, Entry, entry, as_sent, stray, Lent, SharedEntry, same, differ, update, start, final, DeliveredAsSent, first_of, Comparable}
use Rattle.pair_model.specs.Theorem.{SameForFixed, Done, own_code}

-- what each side has
abbrev pub of_sides : List ℕ → List ℕ → Side → List ℕ
of_sides x y side0 = x
of_sides x y side1 = y

-- first key half 01 then zeros, first label half 05 then zeros, all other halves zero, session 1, line 0; matrix row i has trit 1 in column i alone
abbrev pub sample_inputs : Inputs
sample_inputs =
    record {
      key = of_sides (1 ∷ zeros 31) (zeros 32);
      label = of_sides (5 ∷ zeros 31) (zeros 32);
      shared = shared_parameters 1 0;
      files = files sample_file;
    }

-- the same with another key half and another label half of one side
abbrev pub changed : Side → Inputs
changed i =
    record {
      key = update i (2 ∷ zeros 31) sample_inputs.key;
      label = update i (9 ∷ zeros 31) sample_inputs.label;
      shared = shared_parameters 1 0;
      files = files sample_file;
    }

-- a tape of zeros
abbrev pub sample_run : Run
sample_run = run_of sample_inputs (zeros (tape_bytes base))

-- an entry as sent for a unit
abbrev pub sample_entry : Side → Entry
sample_entry i = entry i as_sent (files sample_file) (least_output base)

-- the six entries in order, with an empty frame for the fixed unit and, for the other one, a stray call that differs between the runs
abbrev pub with_strays : Scheme → Files → Side → List SharedEntry
with_strays S lent fixed =
    let e0 = same (entry side0 as_sent lent (least_output S)) in
    let e1 = same (entry side1 as_sent lent (least_output S)) in
    let l₁ : Lent = record { frame = []; files = lent; output_length = least_output S } in
    let l₂ : Lent = record { frame = 7 ∷ []; files = no_files; output_length = 0 } in
    e0 ∷ same (entry fixed (stray []) lent (least_output S)) ∷ e1 ∷ differ l₁ l₂ ∷ e0 ∷ e1 ∷ e0 ∷ e1 ∷ []

-- the sample is a run, and can be compared with runs of those other inputs, whatever their tape is
pub record SampleCompared : Type 0 where
  pub well_formed : WellFormed base sample_inputs
  pub accepted : Accepted base sample_run.tape
  pub changed_well_formed : (i : Side) → WellFormed base (changed i)
  pub differs : (i : Side) → ((changed i).key i ≢ sample_inputs.key i) × ((changed i).label i ≢ sample_inputs.label i)
  pub same_for_fixed : (fixed : Side) → SameForFixed fixed sample_inputs (changed (other fixed))
  pub comparable : (fixed : Side) (tape : List ℕ) → let P = protocol base in let run₂ = run_of (changed (other fixed)) tape in
      Comparable P fixed sample_run run₂ (start P sample_run) (start P run₂) (with_strays base (files sample_file) fixed)
  pub done : (fixed : Side) → let P = protocol base in
      Done P (final P sample_run (start P sample_run) (first_of fixed (with_strays base (files sample_file) fixed)))
  -- each unit's deal is there at the start, and what unit 0 waits for after it is not
  pub available : (i : Side) → let P = protocol base in DeliveredAsSent P sample_run (start P sample_run) (sample_entry i)
  pub not_ahead : let P = protocol base in
      ¬ DeliveredAsSent P sample_run (final P sample_run (start P sample_run) (sample_entry side0 ∷ [])) (sample_entry side0)
  -- 101 and 78 zeros, which the evaluator gives too
  pub evaluates : evaluate_number base (total base.key_bytes sample_inputs.key) (total base.key_bytes sample_inputs.label) (files sample_file) (code_bytes base) ≡ 0
  pub code : own_code (protocol base) sample_run ≡ 5 ∷ zeros 21
