-- `protocol::units::pair_step` meets its contract: the slice stands for the next state. The theorem and the evidence are the model's, and what is
-- said of lists of calls is that of Calls.
use mathlib.Core.Path.{ap, ◌∙◌}
use lib.ListN.{length}
use Rattle.pair_model.specs.Scheme.{files}
use Rattle.pair_model.specs.StateSlice.{decode_state}
use Rattle.pair_model.proofs.Evidence.Whole.{theorem_and_evidence}
use Rattle.pair_model.proofs.Theorem.Calls.{decoded-stepped, calls_are_runs}
use Rattle.protocol.proofs.Reports.{is_counted}
use Rattle.protocol.proofs.units.pair_step.Goals as goal

pub returns : goal.returns
returns c =
    let a = c.args in
    let e = c.step_state-written.ensures in
    record {
      result = c.answer_number.ensures ∙ e.result;
      state = e.state;
      output = e.output;
      count = c.unwrap_or.ensures ∙ is_counted c.step_state-written.result _ e.count e.none;
      next = λ l. ap decode_state e.state ∙ decoded-stepped a.state.now l (λ i. (c.slice_known-1.given i).fits) a.f.now (λ i. (c.shared_slice_known-1.given i).fits) (files a.file.now) (length a.out.now);
      same_protocol = calls_are_runs;
      correctness = theorem_and_evidence.0;
      privacy = theorem_and_evidence.1.0;
      three_frames = theorem_and_evidence.1.1.0;
      evidence = theorem_and_evidence.1.1.1;
    }
