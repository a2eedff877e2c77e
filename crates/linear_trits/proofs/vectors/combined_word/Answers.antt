-- `linear_trits::vectors::combined_word` meets its contract: what an operation gives of words is what it gives of the strings that have them.
use borrow.Author.Rules.{rules}
use Rattle.linear_model.proofs.Internal.Planes.{plane_bits_of}
use Rattle.linear_trits.specs.Results.{result_trit}
use Rattle.linear_trits.proofs.Combined.{combined}
use Rattle.linear_trits.proofs.vectors.combined_word.Goals as goal

pub returns : goal.returns
returns g c =
    let a = c.args in
    let f = g.O.Operation.trit a.op in
    plane_bits_of 64 (result_trit f a.high a.m a.a.now a.b.now) a.i _ _ (search rules) (search rules) (combined 64 a.high a.m _ a.a.now a.b.now _ _ f c.word_trits.ensures c.word_trits-2.ensures c.apply.ensures)
