-- `pair_whole::run::start` meets its contract: the step is that of the begun state.
use mathlib.Core.Path.{ap, subst, ◌∙◌}
use Rattle.pair_frames.specs.Numbers.{set_sizes}
use Rattle.pair_model.specs.Scheme.{files}
use Rattle.pair_model.specs.Base.{base}
use Rattle.pair_model.specs.Frame.{parameters}
use Rattle.pair_model.specs.Unit.{State, least_output, step}
use Rattle.pair_model.specs.Internal.Exchange.{Sends}
use Rattle.pair_units.specs.Units.{state_by}
use Rattle.pair_whole.proofs.Sent.{begin_read}
use Rattle.pair_whole.proofs.run.start.Goals as goal

pub returns : goal.returns
returns c =
    let a = c.args in
    let sent = c.send.result in
    let b = ap (state_by (set_sizes 1)) c.begin_unit.ensures.next ∙ begin_read (parameters a.side 1 0) a.key.now a.label.now in
    subst (λ (u : State). Sends (step base u a.f.now (files a.file.now) (least_output base)) sent.frame (state_by (set_sizes 1) sent.next)) b c.send.ensures
