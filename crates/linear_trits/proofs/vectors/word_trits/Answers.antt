-- `linear_trits::vectors::word_trits` meets its contract. The words hold the bits of 64 places.
use mathlib.Core.Path.{sym}
use Prim.Native.Nat.{◌*◌}
use Rattle.linear_model.proofs.WordBits.{word_bit_at}
use Rattle.linear_model.proofs.Internal.Planes.{trit_word}
use Rattle.linear_trits.proofs.vectors.word_trits.Goals as goal

pub returns : goal.returns
returns c =
    let a = c.args in
    record {
      bits = λ k l. sym (word_bit_at a.s.now (8 * a.i) _ c.word.ensures k l);
      trits = trit_word a.high a.s.now a.i _ _ c.word.ensures c.word-2.ensures;
    }
