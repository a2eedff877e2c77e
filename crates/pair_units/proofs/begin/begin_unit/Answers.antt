-- `pair_units::begin::begin_unit` meets its contract: what is accepted has halves of the stated length, copied whole.
use mathlib.Core.Path.{refl, sym, ap, ◌∙◌}
use native.Mathlib.Omega.{arith}
use Rattle.numbers.proofs.Refusals.{refused}
use Rattle.pair_frames.specs.Schemes.{scheme_in}
use Rattle.pair_model.specs.Frame.{parameters}
use Rattle.pair_model.proofs.Internal.Begins.{begin_fits, begin-accepted, begin-refused, begin_result}
use Rattle.pair_units.specs.Units.{unit_of}
use Rattle.pair_units.proofs.begin.begin_unit.Goals as goal

pub returns-in-Err : goal.returns-in-Err
returns-in-Err c =
    let a = c.args in
    let S = scheme_in a.sizes in
    let t = parameters a.side a.session a.line in
    let number = c.in-Err.ensures S t.shared refl in
    record {
      result = number ∙ sym (begin_result S t a.key.now a.label.now);
      next = c.idle.ensures ∙ sym (ap unit_of (begin-refused S t a.key.now a.label.now (refused c.in-Err.why number)));
    }

pub overflow_cast-parameters : goal.overflow_cast-parameters
overflow_cast-parameters c =
    let a = c.args in
    let t = parameters a.side a.session a.line in
    let f = begin_fits (scheme_in a.sizes) t a.key.now a.label.now (sym (c.in_default.ensures (scheme_in a.sizes) t.shared refl)) in
    omega (arith, f.side_small)

pub with_halves-requires : goal.with_halves-requires
with_halves-requires c =
    let a = c.args in
    let t = parameters a.side a.session a.line in
    let f = begin_fits (scheme_in a.sizes) t a.key.now a.label.now (sym (c.in_default.ensures (scheme_in a.sizes) t.shared refl)) in
    (f.key-length, f.label-length)

pub returns : goal.returns
returns c =
    let a = c.args in
    let S = scheme_in a.sizes in
    let t = parameters a.side a.session a.line in
    let z = sym (c.in_default.ensures S t.shared refl) in
    record {
      result = sym (begin_result S t a.key.now a.label.now ∙ z);
      next = c.with_halves.ensures ∙ ap unit_of (sym (begin-accepted S t a.key.now a.label.now z));
    }
