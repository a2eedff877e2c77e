use mathlib.Core.Path.{◌≡◌, refl, ◌∙◌}
use Prim.Native.Nat.{◌*◌, ◌<◌}
use native.Mathlib.Nat.{le_refl}
use native.Mathlib.Omega.{arith}
use lib.Dec.{lit<}
use Rattle.elimination_model.specs.Internal.Words.{NonzeroColumn, Pivot}
use Rattle.elimination_model.proofs.Elimination.{reduced_none, reduced_untied, reduced_zero}
use Rattle.elimination_model.proofs.Internal.Tables.{zero_table}
use Rattle.elimination_model.proofs.Internal.Turns.{cleared_fit, turn_reduced, turn_carried, turn_zero}
use Rattle.elimination.proofs.elimination.first_tied_of.Goals as goal

pub loop-r-init : goal.loop-r-init
loop-r-init c = record { long = refl; fit = c.requires.2; table = zero_table _ c.requires.0; reduced = reduced_none _ _ _; carried = λ a h x. x }

pub returns-in_default-clause-tied : goal.returns-in_default-clause-tied
returns-in_default-clause-tied c =
    let i = c.loop-r.invariant in
    let none : NonzeroColumn c.args.w c.args.f c.loop-r.words (2 * c.args.w * c.loop-r.r) c.args.f 0 =
    record { within = le_refl c.args.f; small = lit< tt; found = λ h. absurd (omega arith); zero_row = λ _. c.in_default.ensures.zero_row refl } in
    let z = turn_zero _ _ _ _ _ _ none (le_refl c.args.f) in
    record {
      within = omega arith;
      before = reduced_untied _ _ _ _ _ i.reduced (omega arith);
      is_tied = λ g. reduced_zero _ _ _ _ _ i.reduced (omega arith) z;
      fit = i.fit;
      zero_row = λ g. z;
      carried = i.carried;
    }

pub loop-r-preserved : goal.loop-r-preserved
loop-r-preserved c =
    let i = c.loop-r.invariant in
    let column = c.in-Some.column in
    let found = c.in-Some.ensures.found in
    let inner : column.word < c.args.f = omega (arith, found.0) in
    let p : Pivot c.args.w c.args.t c.loop-r.r column.word column.bit c.loop-r.words =
    record { within = omega arith; inside = omega arith; small = column.in_word; fit = i.fit; nonzero = found.1 } in
    let e = c.take_turn.ensures in
    record {
      long = e.rows.size ∙ i.long;
      fit = cleared_fit _ _ _ _ _ _ _ i.fit (omega arith) e.rows;
      table = e.table;
      reduced = turn_reduced _ _ _ _ _ _ c.loop-r.words _ c.requires.1 inner p e.rows c.args.words.now i.reduced;
      carried = λ a r x. turn_carried _ _ _ _ _ _ c.loop-r.words _ c.requires.1 inner p e.rows a r (i.carried a r x);
    }

pub returns-clause-tied : goal.returns-clause-tied
returns-clause-tied c =
    let i = c.loop-r.invariant in
    let e : c.loop-r.r ≡ c.args.t = omega arith in
    record {
      within = le_refl c.args.t;
      before = rw e at (reduced_untied _ _ _ _ _ i.reduced (omega arith));
      is_tied = λ g. absurd (omega arith);
      fit = i.fit;
      zero_row = λ g. absurd (omega arith);
      carried = i.carried;
    }
