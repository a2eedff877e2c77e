-- `protocol::interface::pair_sample` meets its contract: the place is reported.
use mathlib.Core.Path.{◌∙◌}
use Rattle.protocol.proofs.Reports.{is_reported}
use Rattle.protocol.proofs.interface.pair_sample.Goals as goal

pub returns-clause-next : goal.returns-clause-next
returns-clause-next c = c.unwrap_or.ensures ∙ is_reported c.sample-sampled.result _ c.sample-sampled.ensures.next c.answer_number.ensures
