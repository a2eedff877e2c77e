use mathlib.Core.Path.{◌∙◌}
use native.Mathlib.Omega.{arith}
use Rattle.source_model.proofs.Pairs.{pair_lt, pair_read_next}
use Rattle.source_model.proofs.Readings.{counted-one, reading_more, reading_drew}
use Rattle.source.proofs.drawing.draw_pairs.Goals as goal

pub keep-found-requires : goal.keep-found-requires
keep-found-requires c =
    let t = c.take.ensures.read in
    (omega arith, rw t.value_is (pair_lt _ _))

pub loop-found-smaller : goal.loop-found-smaller
loop-found-smaller c =
    let t = c.take.ensures.read in
    let n = pair_read_next t (omega arith) in
    rw c.take.ensures.source (omega (arith, n))

pub loop-found-preserved : goal.loop-found-preserved
loop-found-preserved c =
    let k = c.keep-found in
    let l = c.loop-found in
    let t = c.take.ensures.read in
    let n = pair_read_next t (omega arith) in
    record {
      source = c.take.ensures.source ∙ l.invariant.source;
      some = omega (arith, counted-one _ _ _ k.ensures.1);
      within = rw c.take.ensures.source (omega (arith, n));
      long = k.auto.trits ∙ l.invariant.long;
      reading = rw c.take.ensures.source (λ start r. rw (k.ensures.0, k.ensures.1, n) (reading_more l.trits l.found _ _ (l.invariant.reading start r) (omega arith) (omega arith) t.value_is));
    }

pub returns-else-reader-clause-drew : goal.returns-else-reader-clause-drew
returns-else-reader-clause-drew c =
    let i = c.loop-found.invariant in
    rw (← i.source) (λ start r. reading_drew (i.reading start r) (λ l. omega arith))

pub returns-after-loop-found-clause-drew : goal.returns-after-loop-found-clause-drew
returns-after-loop-found-clause-drew c =
    let i = c.loop-found.invariant in
    rw (← i.source) (λ start r. reading_drew (i.reading start r) (λ l. omega arith))
