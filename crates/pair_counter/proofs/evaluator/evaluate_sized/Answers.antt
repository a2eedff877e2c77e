-- `pair_counter::evaluator::evaluate_sized` meets its contract: the lengths decide first, and then the file.
use mathlib.Core.Path.{refl, sym, ap, ◌∙◌}
use mathlib.Core.List.{List}
use Prim.Native.Nat.{ℕ, ◌*◌}
use native.Mathlib.Omega.{arith}
use lib.Seq.{length-take-le}
use Rattle.numbers.specs.Number.{at_front, output}
use Rattle.numbers.proofs.Numbers.{is_equal}
use Rattle.numbers.proofs.Outputs.{output-done}
use Rattle.pair_frames.specs.Schemes.{scheme_in}
use Rattle.numbers.proofs.Refusals.{passed_on}
use Rattle.pair_frames.proofs.Refusals.{output_kept}
use Rattle.pair_model.specs.Scheme.{files}
use Rattle.pair_model.specs.Evaluator.{code_of, code}
use Rattle.pair_model.proofs.Theorem.StepLaws.{fit_length}
use Rattle.pair_model.proofs.Internal.Evaluations.{key-length, label-length, output_short, rows_decide}
use Rattle.pair_counter.proofs.evaluator.evaluate_sized.Goals as goal
use Rattle.pair_counter.proofs.evaluator.evaluate_sized.Goals.{then-key-sizes-via-then-key-sizes, then-key-sizes-via-else-key-sizes+then-label-sizes, then-key-sizes-via-else-key-sizes+else-label-sizes+then-out-code_bytes}

pub returns-then-key-sizes : goal.returns-then-key-sizes
unfolding output
returns-then-key-sizes c =
    let S = scheme_in c.args.sizes in
    elim c.then-key-sizes.branch [
      | then-key-sizes-via-then-key-sizes w ↦ record { result = key-length S _ _ _ _ w.if-key-sizes.true; output = refl }
      | then-key-sizes-via-else-key-sizes+then-label-sizes w ↦
          record { result = label-length S _ _ _ _ w.if-key-sizes.false w.if-label-sizes.true; output = refl }
      | then-key-sizes-via-else-key-sizes+else-label-sizes+then-out-code_bytes w ↦
          record {
            result = output_short S _ _ _ _ w.if-key-sizes.false w.if-label-sizes.false (omega (arith, w.code_bytes.ensures, w.if-out-code_bytes.true));
            output = refl;
          }
    ]

pub returns-in_err-check_file : goal.returns-in_err-check_file
returns-in_err-check_file c =
    let S = scheme_in c.args.sizes in
    record {
      result = passed_on _ _ c.from_residual.ensures ∙ c.in_err-check_file.ensures
          ∙ rows_decide S _ _ _ _ c.if-key-sizes.false refl tt c.if-label-sizes.false (omega (arith, c.code_bytes.ensures, c.if-out-code_bytes.false));
      output = output_kept _ _ c.from_residual.ensures _ _;
    }

pub write_code-requires : goal.write_code-requires
write_code-requires c =
    let a = c.args in
    let v = c.inner_vector-inner in
    let S = scheme_in a.sizes in (
      is_equal _ _ (fit_length S.rows_reading (files a.file.now) (sym c.in_ok-check_file.ensures)),
      length-take-le (2 * a.sizes.inner_bytes) v.result (omega (arith, v.type_inv.1.0.1, a.sizes.fits.inner)),
      (omega (arith, c.code_bytes.ensures, c.if-out-code_bytes.false)),
    )

pub returns : goal.returns
unfolding code
returns c =
    let a = c.args in
    let S = scheme_in a.sizes in
    let lent = files a.file.now in
    let z = c.in_ok-check_file.ensures in
    record {
      result = z ∙ rows_decide S _ _ _ _ c.if-key-sizes.false refl tt c.if-label-sizes.false (omega (arith, c.code_bytes.ensures, c.if-out-code_bytes.false));
      output = c.write_code.ensures ∙ ap (λ (v : List ℕ). at_front (code_of S lent v) a.out.now) c.inner_vector-inner.ensures
          ∙ output-done 0 (code S a.key.now a.label.now lent) a.out.now refl;
    }
