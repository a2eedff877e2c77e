-- `pair_units::unit::step_unit` meets its contract: what it may be refused for decides.
use mathlib.Core.Path.{refl, sym, ap, ◌∙◌}
use borrow.Author.Tests.{ne_eqb}
use lib.ListN.{length}
use Rattle.numbers.specs.Number.{at_front}
use Rattle.numbers.specs.Refusals.{number_of}
use Rattle.numbers.proofs.Refusals.{refused}
use Rattle.pair_frames.specs.Schemes.{scheme_in}
use Rattle.pair_model.specs.Unit.{Stepped}
use Rattle.pair_model.specs.Scheme.{files}
use Rattle.pair_model.proofs.Theorem.StepLaws.{step-accepted, step_result, step-refused}
use Rattle.pair_units.specs.Units.{state_at, unit_of}
use Rattle.pair_units.proofs.unit.step_unit.Goals as goal

pub returns-in-Err : goal.returns-in-Err
returns-in-Err c =
    let a = c.args in
    let S = scheme_in a.sizes in
    let u = state_at a.sizes a.u in
    let f = a.f.now in
    let file = files a.file.now in
    let m = length a.out.now in
    let why = c.in-Err.why in
    let number = c.in-Err.ensures in
    let e = sym (step-refused S u f file m (refused why (number ∙ sym (step_result S u f file m)))) in
    record {
      result = number ∙ ap (λ (s : Stepped). s.result) e;
      count = ap (λ (s : Stepped). length s.written) e;
      next = rw (ne_eqb (number_of why) 0 (refused why refl));
      output = ap (λ (s : Stepped). at_front s.written a.out.now) e;
    }

pub advance-written-requires : goal.advance-written-requires
advance-written-requires c = sym c.in_default.ensures

pub returns : goal.returns
returns c =
    let a = c.args in
    let S = scheme_in a.sizes in
    let u = state_at a.sizes a.u in
    let f = a.f.now in
    let file = files a.file.now in
    let m = length a.out.now in
    let z = sym c.in_default.ensures in
    let e = sym (step-accepted S u f file m z) in
    let t = c.advance-written.ensures in
    record {
      result = sym (step_result S u f file m ∙ z);
      count = t.count ∙ ap (λ (s : Stepped). length s.written) e;
      next = c.padded.ensures ∙ ap unit_of (t.next ∙ ap (λ (s : Stepped). s.next) e);
      output = t.output ∙ ap (λ (s : Stepped). at_front s.written a.out.now) e;
    }
