-- `pair_whole::run::send` meets its contract: it is one step over zeros, at a frame that is accepted.
use mathlib.Core.Path.{sym, ap, ◌∙◌}
use Rattle.linear_model.specs.Bits.{zeros}
use Rattle.numbers.specs.Number.{at_front}
use Rattle.pair_model.specs.Scheme.{files}
use Rattle.pair_frames.specs.Numbers.{set_sizes}
use Rattle.pair_model.specs.Base.{base}
use Rattle.pair_model.specs.Unit.{Stepped, least_output}
use Rattle.pair_model.proofs.Theorem.StepLaws.{step-accepted}
use Rattle.pair_units.specs.Units.{state_by}
use Rattle.pair_whole.proofs.run.send.Goals as goal

pub returns : goal.returns
returns c =
    let v = c.advance.ensures in
    let e = sym (step-accepted base (state_by (set_sizes 1) c.args.u) c.args.f.now (files c.args.file.now) (least_output base) c.requires) in
    record {
      frame_is = v.output ∙ ap (λ (t : Stepped). at_front t.written (zeros (least_output base))) e;
      next_is = v.next ∙ ap (λ (t : Stepped). t.next) e;
    }
