-- `elimination::elimination::set_bit` meets its contract.
use native.Mathlib.Omega.{arith}
use Rattle.elimination_model.proofs.Internal.Turns.{trailing_set}
use Rattle.elimination.proofs.elimination.set_bit.Goals as goal

pub returns : goal.returns
returns c = trailing_set 64 c.args.x c.requires (omega arith)
