-- `pair_steps::step::step_slice` meets its contract: the number decides, and then the slice moves on.
use mathlib.Core.Logic.{◌≢◌}
use Rattle.std.proofs.Common.{Result}
use Rattle.std.specs.Result.{IfOk, IsErr}
use Rattle.std.proofs.lemmas.Result.{IfOk-from_err}
use Rattle.numbers.specs.Refusals.{answer_number}
use Rattle.numbers.specs.declared.refusal.Refusal.{Refusal}
use Rattle.numbers.proofs.Refusals.{refused, passed_on}
use mathlib.Core.Path.{◌≡◌, sym, ap, ◌∙◌}
use mathlib.Core.List.{List}
use mathlib.Core.Bool.{cond}
use Prim.Native.Nat.{ℕ}
use borrow.Author.Tests.{ne_eqb}
use lib.Dec.{eqb}
use lib.ListN.{length}
use Rattle.numbers.specs.Number.{at_front}
use Rattle.pair_frames.specs.Schemes.{scheme_in}
use Rattle.pair_model.specs.Scheme.{Files, files, Scheme}
use Rattle.pair_model.specs.Frame.{carried_parameters, Parameters, kind_of, body_of}
use Rattle.pair_model.specs.Unit.{Stepped, step_number, advance, step}
use Rattle.pair_model.specs.StateSlice.{encode_state, decode_as}
use Rattle.pair_model.proofs.Theorem.StepLaws.{number_for, step-accepted, step_result, step-refused}
use Rattle.pair_steps.proofs.step.step_slice.Goals as goal

module _ (S : Scheme) (s f : List ℕ) (lent : Files) (n : ℕ) where
  -- the number by the slice's bytes is that of its state
  of_state : (t : Parameters) → t ≡ carried_parameters s → step_number S t (kind_of s) f lent n ≡ number_for S (decode_as S s) f lent n
  unfolding decode_as
  of_state t e = ap (λ (x : Parameters). step_number S x (kind_of s) f lent n) e

  abbrev taken : Stepped
  taken = step S (decode_as S s) f lent n

  -- a step that is refused leaves the slice, and writes nothing
  left : (o : List ℕ) (r : Result ℕ Refusal) → answer_number r ≡ number_for S (decode_as S s) f lent n → answer_number r ≢ 0 → IsErr r
      → record {
        result : answer_number r ≡ taken.result;
        state : s ≡ cond (eqb (answer_number r) 0) (encode_state taken.next) s;
        output : o ≡ at_front taken.written o;
        count : IfOk r (λ n. n ≡ length taken.written);
      }
  left o r e z h =
      let number = step_result S (decode_as S s) f lent n in
      let is = step-refused S (decode_as S s) f lent n (λ q. z (e ∙ sym number ∙ q)) in
      record {
        result = e ∙ sym number;
        state = rw (ne_eqb (answer_number r) 0 z);
        output = ap (λ (x : Stepped). at_front x.written o) (sym is);
        count = IfOk-from_err r (λ n. n ≡ length taken.written) h;
      }

  -- one that is accepted
  moved : (o state out : List ℕ) (count : ℕ) → number_for S (decode_as S s) f lent n ≡ 0 → let a = advance S (decode_as S s) (body_of f) lent in
      (count ≡ length a.written) × ((state ≡ encode_state a.next) × (out ≡ at_front a.written o))
      → record { result : 0 ≡ taken.result; state : state ≡ encode_state taken.next; output : out ≡ at_front taken.written o; count : count ≡ length taken.written }
  moved o state out count z h =
      let number = step_result S (decode_as S s) f lent n in
      let is = step-accepted S (decode_as S s) f lent n z in
      record {
        result = sym (number ∙ z);
        state = h.1.0 ∙ ap (λ (x : Stepped). encode_state x.next) (sym is);
        output = h.1.1 ∙ ap (λ (x : Stepped). at_front x.written o) (sym is);
        count = h.0 ∙ ap (λ (x : Stepped). length x.written) (sym is);
      }

pub returns-in_err-check_step : goal.returns-in_err-check_step
returns-in_err-check_step c =
    let a = c.args in
    let S = scheme_in a.sizes in
    let s = a.state.now in
    let lent = files a.file.now in
    let n = length a.out.now in
    let r = c.from_residual in
    let why = passed_on _ _ r.ensures in
    left S s a.f.now lent n a.out.now r.result (why ∙ c.in_err-check_step.ensures ∙ of_state S s a.f.now lent n _ c.parameters_of.ensures) (refused _ (sym why)) r.ensures.0

pub advance_slice-requires : goal.advance_slice-requires
advance_slice-requires c =
    let a = c.args in
    let s = a.state.now in (
      c.requires,
      ap (λ (x : Parameters). step_number (scheme_in a.sizes) x (kind_of s) a.f.now (files a.file.now) (length a.out.now)) (sym c.parameters_of.ensures)
          ∙ sym c.in_ok-check_step.ensures,
    )

pub returns : goal.returns
returns c =
    let a = c.args in
    let S = scheme_in a.sizes in
    let s = a.state.now in
    let lent = files a.file.now in
    let n = length a.out.now in
    let e = c.in_ok-check_step.ensures ∙ of_state S s a.f.now lent n _ c.parameters_of.ensures in
    moved S s a.f.now lent n a.out.now _ _ _ (sym e) (let e = c.advance_slice.ensures in (e.count, (e.state, e.output)))
