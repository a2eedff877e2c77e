-- `pair_states::beginnings::begin_named` meets its contract: the set decides first, then what the beginning may be refused for.
use mathlib.Core.Path.{◌≡◌, refl, sym, ap, ◌∙◌}
use mathlib.Core.Bool.{true}
use mathlib.Core.List.{List}
use Prim.Native.Nat.{ℕ}
use native.Mathlib.Omega.{arith}
use Rattle.numbers.specs.Refusals.{number_of}
use Rattle.numbers.specs.Sets.{is_set}
use Rattle.pair_frames.specs.Numbers.{Numbers, scheme_by, set_sizes}
use Rattle.pair_frames.specs.Schemes.{scheme_in}
use Rattle.numbers.proofs.Refusals.{passed_on}
use Rattle.pair_frames.proofs.Bases.{named_scheme}
use Rattle.pair_model.specs.Scheme.{Scheme}
use Rattle.pair_model.specs.Frame.{Parameters, parameters}
use Rattle.pair_model.specs.Unit.{Beginning, begun, begin, begin_number, unit_begin}
use Rattle.pair_model.specs.StateSlice.{encode_state}
use Rattle.pair_model.proofs.Internal.Begins.{begin_fits, begin_in, begin-none, begin_result}
use Rattle.pair_states.proofs.beginnings.begin_named.Goals as goal

-- of a set that there is, the number is its scheme's
number_in_scheme : (set : ℕ) (z : Numbers) → (is_set set ≡ true) × (z ≡ set_sizes set) → (t : Parameters) (key label : List ℕ)
    → begin_number (scheme_by z) t key label ≡ (unit_begin set t key label).result
number_in_scheme set z named t key label =
    sym (begin_result (scheme_by z) t key label)
    ∙ ap (λ (S : Scheme). (begin S t key label).result) (named_scheme set named)
    ∙ ap (λ (b : Beginning). b.result) (sym (begin_in set named.0 t key label))

pub returns-in_err-sizes-clause-result : goal.returns-in_err-sizes-clause-result
returns-in_err-sizes-clause-result c =
    let a = c.args in
    let none = c.in_err-sizes.ensures.none in
    passed_on _ _ c.from_residual.ensures ∙ (ap number_of none.1 ∙ ap (λ (b : Beginning). b.result) (sym (begin-none a.set none.0 (parameters a.side a.session a.line) a.key.now a.label.now)))

pub returns-in_err-check_begin-clause-result : goal.returns-in_err-check_begin-clause-result
returns-in_err-check_begin-clause-result c =
    let a = c.args in
    let t = parameters a.side a.session a.line in
    let z = c.in_ok-sizes.sizes in
    passed_on _ _ c.from_residual-in_err-check_begin.ensures
    ∙ (c.in_err-check_begin.ensures (scheme_in z) t.shared refl
    ∙ number_in_scheme a.set _ c.in_ok-sizes.ensures.named t a.key.now a.label.now)

pub overflow_cast-parameters : goal.overflow_cast-parameters
overflow_cast-parameters c =
    let a = c.args in
    let t = parameters a.side a.session a.line in
    let f = begin_fits (scheme_in c.in_ok-sizes.sizes) t a.key.now a.label.now (sym (c.in_ok-check_begin.ensures (scheme_in c.in_ok-sizes.sizes) t.shared refl)) in
    omega (arith, f.side_small)

pub begin_in_place-requires : goal.begin_in_place-requires
begin_in_place-requires c =
    let a = c.args in
    let t = parameters a.side a.session a.line in
    let f = begin_fits (scheme_in c.in_ok-sizes.sizes) t a.key.now a.label.now (sym (c.in_ok-check_begin.ensures (scheme_in c.in_ok-sizes.sizes) t.shared refl)) in
    (c.requires, f.key-length, f.label-length)

pub returns : goal.returns
returns c =
    let a = c.args in
    let t = parameters a.side a.session a.line in
    let named = c.in_ok-sizes.ensures.named in
    record {
      result = c.in_ok-check_begin.ensures (scheme_in c.in_ok-sizes.sizes) t.shared refl ∙ number_in_scheme a.set _ named t a.key.now a.label.now;
      begun = c.begin_in_place.ensures ∙ ap (λ (S : Scheme). encode_state (begun S t a.key.now a.label.now)) (named_scheme a.set named);
      refused = tt;
    }
