-- `linear_circulant::quarters::quarters_added` meets its contract. Exclusive or adds bit by bit.
use Rattle.linear_model.proofs.Internal.Quarters.{quarters_added}
use Rattle.linear_circulant.proofs.quarters.quarters_added.Goals as goal

pub returns : goal.returns
returns c = quarters_added c.args.x
