-- `pair_units::begin::begin` meets its contract: of a set that there is, the beginning is its scheme's.
use mathlib.Core.Path.{sym, ap, ◌∙◌}
use Rattle.pair_frames.proofs.Bases.{named_scheme}
use Rattle.numbers.specs.Refusals.{number_of}
use Rattle.pair_model.specs.Scheme.{Scheme}
use Rattle.pair_model.specs.Base.{scheme_of, InEachSet}
use Rattle.pair_model.specs.Frame.{parameters}
use Rattle.pair_model.specs.Unit.{Beginning, begin}
use Rattle.pair_model.specs.Run.{protocol}
use Rattle.pair_model.specs.Theorem.{Begins, Privacy}
use Rattle.pair_model.proofs.Internal.Begins.{begin_in, begin-none}
use Rattle.pair_model.proofs.Theorem.Main.{begins, set_demand3}
use Rattle.pair_units.specs.Units.{unit_of}
use Rattle.pair_units.proofs.begin.begin.Goals as goal

-- the clauses that speak of all runs
theorems : InEachSet (λ S. Begins (protocol S)) × InEachSet (λ S. Privacy (protocol S))
theorems = ((λ set is. begins (scheme_of set)), (λ set is. (set_demand3 set).privacy))

pub returns-in-Ok : goal.returns-in-Ok
returns-in-Ok c =
    let a = c.args in
    let t = parameters a.side a.session a.line in
    let named = c.in-Ok.ensures.named in
    let e = ap (λ (S : Scheme). begin S t a.key.now a.label.now) (named_scheme a.set named)
    ∙ sym (begin_in a.set named.0 t a.key.now a.label.now) in
    let b = c.begin_unit.ensures in
    record {
      result = b.result ∙ ap (λ (b : Beginning). b.result) e;
      next = b.next ∙ ap (λ (b : Beginning). unit_of b.next) e;
      begins = theorems.0;
      privacy = theorems.1;
    }

pub returns-in-Err : goal.returns-in-Err
returns-in-Err c =
    let a = c.args in
    let none = c.in-Err.ensures.none in
    let e = sym (begin-none a.set none.0 (parameters a.side a.session a.line) a.key.now a.label.now) in
    record {
      result = ap number_of none.1 ∙ ap (λ (b : Beginning). b.result) e;
      next = c.idle.ensures ∙ ap (λ (b : Beginning). unit_of b.next) e;
      begins = theorems.0;
      privacy = theorems.1;
    }
