-- `pair_states::beginnings::begin_slice` meets its contract: what is refused is idle.
use mathlib.Core.Path.{◌≡◌, refl, sym, ap, ◌∙◌}
use mathlib.Core.Logic.{◌≢◌}
use Rattle.std.proofs.Common.{Result, Ok, Err, true, false}
use Rattle.std.specs.Result.{is_err, OnOk}
use Rattle.numbers.specs.Refusals.{answer_number}
use Rattle.numbers.specs.declared.refusal.Refusal.{Refusal}
use Rattle.numbers.proofs.Refusals.{refused}
use Rattle.pair_model.specs.Frame.{parameters}
use Rattle.pair_model.specs.StateSlice.{encode_state}
use Rattle.pair_model.proofs.Internal.Begins.{unit-begun, unit-refused}
use Rattle.pair_states.proofs.beginnings.begin_slice.Goals as goal

-- an error's number is not 0
number_of-error : {A : Type 0} (r : Result A Refusal) → is_err r ≡ true → answer_number r ≢ 0
number_of-error (Ok x) e = cc
number_of-error (Err why) e = refused why refl

-- and of a call that is done it is
number_of-done : {A : Type 0} {P : Type 0} (r : Result A Refusal) → is_err r ≡ false → OnOk r P → (answer_number r ≡ 0) × P
number_of-done (Ok x) e p = (refl, p)
number_of-done (Err why) e p = cc

pub returns-then-is_err-clause-state : goal.returns-then-is_err-clause-state
returns-then-is_err-clause-state c =
    let a = c.args in
    let r = c.begin_named-began in
    let number = number_of-error r.result (sym c.is_err.ensures.value ∙ c.if-is_err.true) in
    c.make_idle.ensures
    ∙ ap encode_state (sym (unit-refused a.set (parameters a.side a.session a.line) a.key.now a.label.now (λ e. number (r.ensures.result ∙ e))))

pub returns-else-is_err-clause-state : goal.returns-else-is_err-clause-state
returns-else-is_err-clause-state c =
    let a = c.args in
    let r = c.begin_named-began in
    let done = number_of-done r.result (sym c.is_err.ensures.value ∙ c.if-is_err.false) r.ensures.begun in
    done.1 ∙ ap encode_state (sym (unit-begun a.set (parameters a.side a.session a.line) a.key.now a.label.now (sym r.ensures.result ∙ done.0)))
