use mathlib.Core.Path.{◌∙◌}
use native.Mathlib.Omega.{arith}
use Rattle.linear_model.proofs.Filling.{filling_more, filling_all}
use Rattle.source_model.specs.Draw.{copied}
use Rattle.source_model.proofs.Copied.{copied-pairs}
use Rattle.source_model.proofs.Pairs.{pairs_read_next}
use Rattle.source.proofs.copying.copy_bytes.Goals as goal

pub loop-byte-preserved : goal.loop-byte-preserved
loop-byte-preserved c =
    let i = c.loop-byte.invariant in
    let s = c.take_four.ensures.source ∙ i.source in
    let n = pairs_read_next c.take_four.ensures.read (omega arith) in
    record {
      source = s;
      place = omega (arith, n);
      filling = filling_more i.filling (omega arith) (c.take_four.ensures.read.value_is ∙ rw (i.source, i.place, copied-pairs));
    }

pub returns : goal.returns
returns c = unfold copied in filling_all c.loop-byte.invariant.filling (omega arith)
