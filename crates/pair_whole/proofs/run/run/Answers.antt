-- `pair_whole::run::run` meets its contract: an input that nothing refuses is run.
use mathlib.Core.Path.{sym, ◌∙◌}
use Rattle.numbers.proofs.Refusals.{passed_on, refused}
use Rattle.numbers.proofs.Outputs.{output-refused}
use Rattle.pair_model.proofs.Internal.Runs.{run_fits}
use Rattle.pair_whole.proofs.run.run.Goals as goal

pub returns-in_err-check_run : goal.returns-in_err-check_run
returns-in_err-check_run c =
    let why = passed_on _ _ c.from_residual.ensures in
    record {
      result = why ∙ c.in_err-check_run.ensures;
      output = output-refused _ _ _ (refused _ (sym why));
    }

pub run_units-requires : goal.run_units-requires
run_units-requires c = run_fits _ _ (sym c.in_ok-check_run.ensures)
