use mathlib.Core.Path.{sym, ◌∙◌}
use Prim.Native.Nat.{◌+◌, ◌^◌, ◌<◌}
use native.Mathlib.Omega.{arith}
use borrow.Author.Tests.{ltb-true}
use lib.ListN.{length}
use Rattle.source_model.proofs.Pairs.{pairs_read_next}
use Rattle.source_model.proofs.Readings.{reading_four}
use Rattle.source.proofs.drawing.draw_fours.Goals as goal

pub loop-found-smaller : goal.loop-found-smaller
loop-found-smaller c =
    let more : c.loop-found.reader.byte + 1 < length c.loop-found.reader.source.now = ltb-true _ _ (sym c.has_four.ensures ∙ c.if-has_four.true) in
    let short : length c.loop-found.reader.source.now < 2 ^ 62 = rw c.loop-found.invariant.source c.requires.0 in
    let n = pairs_read_next c.take_four.ensures.read (omega arith) in
    rw c.take_four.ensures.source (omega (arith, n))

pub loop-found-preserved : goal.loop-found-preserved
loop-found-preserved c =
    let l = c.loop-found in
    let more : l.reader.byte + 1 < length l.reader.source.now = ltb-true _ _ (sym c.has_four.ensures ∙ c.if-has_four.true) in
    let k = c.keep_four-found.ensures in
    let short : length c.loop-found.reader.source.now < 2 ^ 62 = rw c.loop-found.invariant.source c.requires.0 in
    let n = pairs_read_next c.take_four.ensures.read (omega arith) in
    record {
      source = c.take_four.ensures.source ∙ l.invariant.source;
      reading = rw (c.take_four.ensures.source, k.0, k.1, n) (reading_four l.trits l.found _ _ l.invariant.reading (omega arith) (omega arith) c.take_four.ensures.read.value_is);
    }
