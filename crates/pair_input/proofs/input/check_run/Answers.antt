-- `pair_input::input::check_run` meets its contract: the file's number, and 10 before its 12 where the tape is unfit.
use mathlib.Core.Path.{◌≡◌, sym, ap, ◌∙◌}
use mathlib.Core.List.{List}
use Prim.Native.Nat.{ℕ}
use native.Mathlib.Omega.{arith}
use lib.ListN.{length, take, drop, length-drop}
use lib.Seq.{length-take-le}
use Rattle.linear_model.specs.Trits.{fit_trits}
use Rattle.matrix_model.specs.File.{check_number}
use Rattle.pair_model.proofs.Internal.Contents.{fit_vector}
use Rattle.pair_model.proofs.Internal.Runs.{run_length, run_room, run_fit, run_unfit, file_is, file_length, r0_is}
use Rattle.pair_input.proofs.input.check_run.Goals as goal
use Rattle.pair_input.proofs.input.check_run.Goals.{then-input-ne-INPUT_BYTES-via-then-input-ne-INPUT_BYTES, then-input-ne-INPUT_BYTES-via-else-input-ne-INPUT_BYTES+then-room-lt-CODE_BYTES}

-- what is read of r0 has the length of its two planes
long : (input : List ℕ) → length input ≡ 6528 → length (take 64 (drop 320 input)) ≡ 64
long input l = length-take-le 64 (drop 320 input) (rw length-drop (omega (arith, l)))

pub returns-then-input-ne-INPUT_BYTES : goal.returns-then-input-ne-INPUT_BYTES
returns-then-input-ne-INPUT_BYTES c =
    elim c.then-input-ne-INPUT_BYTES.branch [
      | then-input-ne-INPUT_BYTES-via-then-input-ne-INPUT_BYTES w ↦ run_length _ _ w.if-input-ne-INPUT_BYTES.true
      | then-input-ne-INPUT_BYTES-via-else-input-ne-INPUT_BYTES+then-room-lt-CODE_BYTES w ↦ run_room _ _ w.if-input-ne-INPUT_BYTES.false w.if-room-lt-CODE_BYTES.true
    ]

pub returns-then-trits_fit : goal.returns-then-trits_fit
returns-then-trits_fit c =
    let input = c.args.input.now in
    let l = c.if-input-ne-INPUT_BYTES.false in
    run_fit input _ l c.if-room-lt-CODE_BYTES.false (file_length input l) _ (c.matrix_check-of_file.ensures ∙ ap (check_number 1) (file_is input))
    (ap (fit_trits 32 256) (sym (r0_is input)) ∙ sym (c.trits_fit.ensures ∙ fit_vector 32 (take 64 (drop 320 input)) (long input l)) ∙ c.if-trits_fit.true)

pub returns : goal.returns
returns c =
    let input = c.args.input.now in
    let l = c.if-input-ne-INPUT_BYTES.false in
    c.with_unfit_tape.ensures
    ∙ run_unfit input _ l c.if-room-lt-CODE_BYTES.false (file_length input l) _ (c.matrix_check-of_file.ensures ∙ ap (check_number 1) (file_is input))
    (ap (fit_trits 32 256) (sym (r0_is input)) ∙ sym (c.trits_fit.ensures ∙ fit_vector 32 (take 64 (drop 320 input)) (long input l)) ∙ c.if-trits_fit.false)
