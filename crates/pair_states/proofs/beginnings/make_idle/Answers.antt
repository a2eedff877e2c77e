-- `pair_states::beginnings::make_idle` meets its contract.
use mathlib.Core.Path.{◌∙◌}
use lib.Dec.{lit≤}
use Rattle.pair_model.specs.Base.{base}
use Rattle.pair_model.specs.Frame.{parameters}
use Rattle.pair_states.proofs.Blank.{encode_nothing}
use Rattle.pair_states.proofs.beginnings.make_idle.Goals as goal

pub returns : goal.returns
returns c = c.clear.ensures ∙ encode_nothing base (record { key = lit≤ tt; inner = lit≤ tt }) 1 (parameters 0 0 0) 0
