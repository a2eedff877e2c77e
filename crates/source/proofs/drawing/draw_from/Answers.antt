-- `source::drawing::draw_from` meets its contract. That draws are disjoint is a law of their definition.
use mathlib.Core.Path.{sym, ap}
use native.Mathlib.Omega.{arith}
use lib.ListN.{length}
use Rattle.source_model.specs.Draw.{drawn}
use Rattle.source_model.proofs.Conditions.{is_enough}
use Rattle.source_model.proofs.Disjoint.{disjoint_draws}
use Rattle.source.proofs.drawing.draw_from.Goals as goal

pub returns-then-source-ge-SOURCE_LIMIT-clause-disjoint : goal.returns-then-source-ge-SOURCE_LIMIT-clause-disjoint
returns-then-source-ge-SOURCE_LIMIT-clause-disjoint c = disjoint_draws

pub returns-then-pairs-start-clause-disjoint : goal.returns-then-pairs-start-clause-disjoint
returns-then-pairs-start-clause-disjoint c = disjoint_draws

pub returns-then-pairs-start-2-clause-disjoint : goal.returns-then-pairs-start-2-clause-disjoint
returns-then-pairs-start-2-clause-disjoint c = disjoint_draws

pub returns-then-found-trits-clause-disjoint : goal.returns-then-found-trits-clause-disjoint
returns-then-found-trits-clause-disjoint c = disjoint_draws

pub returns-clause-result : goal.returns-clause-result
unfolding drawn
returns-clause-result c =
    let e = c.at_pair-reader.ensures in
    let all = rw (e.0, e.1) at (c.draw_trits-found.ensures.all (omega arith)) in
    sym (is_enough _ _ _ _ (record { counted = omega arith; copies = omega arith; all = omega (arith, ap length all.0) }))

pub returns-clause-disjoint : goal.returns-clause-disjoint
returns-clause-disjoint c = disjoint_draws
