-- `linear_words::words::put_word` meets its contract. The bytes of the number are copied.
use mathlib.Core.Path.{refl, ◌∙◌}
use native.Mathlib.Omega.{arith}
use Rattle.std.proofs.lemmas.Slice.{put_mid-paste}
use Rattle.linear_words.proofs.LittleEndian.{stored_bytes}
use Rattle.linear_words.proofs.words.put_word.Goals as goal

pub returns : goal.returns
returns c =
    let a = c.args in
    put_mid-paste a.i _ a.out.now _ _ 8 (c.copy_from_slice.ensures.after ∙ c.to_le_bytes.ensures) (omega arith) refl ∙ stored_bytes a.out.now a.i a.x c.ranges.x.fits c.requires
