-- `linear_words::words::word` meets its contract. The bytes of the string are those of the number.
use mathlib.Core.Path.{refl}
use Rattle.linear_words.proofs.LittleEndian.{eight_bytes}
use Rattle.linear_words.proofs.words.word.Goals as goal

pub returns : goal.returns
returns c = eight_bytes c.args.s.now c.args.i _ (λ k. (c.type_inv.s k).fits) refl refl refl refl refl refl refl c.from_le_bytes.ensures
