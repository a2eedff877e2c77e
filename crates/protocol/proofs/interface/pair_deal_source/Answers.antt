-- `protocol::interface::pair_deal_source` meets its contract: the place is reported.
use mathlib.Core.Path.{◌∙◌}
use Rattle.protocol.proofs.Reports.{is_reported}
use Rattle.protocol.proofs.interface.pair_deal_source.Goals as goal

pub returns-clause-next : goal.returns-clause-next
returns-clause-next c = c.unwrap_or.ensures ∙ is_reported c.deal_source-dealt.result _ c.deal_source-dealt.ensures.next c.answer_number.ensures
