-- `linear_words::lanes::weight` meets its contract. The two words have the digits between them.
use native.Mathlib.Omega.{arith}
use borrow.Author.Rules.{rules}
use Rattle.linear_model.proofs.Internal.Thirds.{weight_sum}
use Rattle.linear_words.proofs.lanes.weight.Goals as goal

pub returns : goal.returns
returns c =
    let t = c.args.t in
    (weight_sum t.low t.high _ _ (search rules) (search rules) (omega (arith, c.folded.ensures.0)) (omega (arith, c.folded-2.ensures.0)), omega arith)
