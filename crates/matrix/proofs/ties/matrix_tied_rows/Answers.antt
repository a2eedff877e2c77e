-- `matrix::ties::matrix_tied_rows` meets its contract: a set that there is has its layout, and the evidence is the model's.
use mathlib.Core.Path.{◌≡◌, refl, subst, ◌∙◌}
use Prim.Native.Nat.{ℕ, ◌*◌}
use lib.ListN.{length, take}
use Rattle.std.specs.Prelude.{IfOk}
use Rattle.std.proofs.lemmas.Result.{err_from_is_err_and}
use Rattle.numbers.specs.Number.{output}
use Rattle.numbers.specs.Refusals.{answer_number}
use Rattle.elimination_model.specs.Tie.{entry_count}
use Rattle.matrix_model.specs.Block.{Layout}
use Rattle.matrix_model.specs.Ties.{tie_of_file, OnlyTieOfFile, tie_conditions_of, tie_number}
use Rattle.matrix_model.proofs.TiedRowsEvidence.{tied_rows_evidence}
use Rattle.matrix.proofs.Calls.{set_eliminable, set_carrying, number_of-set, number_of-none}
use Rattle.matrix.proofs.ties.matrix_tied_rows.Goals as goal

pub returns-in_err-named_layout : goal.returns-in_err-named_layout
unfolding tie_number output
returns-in_err-named_layout c =
    let a = c.args in
    let p = err_from_is_err_and c.from_residual.result c.from_residual.ensures.1 in
    let none = c.in_err-named_layout.ensures in
    rw (p.1, p.2, none.0)
    record {
      result = number_of-none a.set none.1 (λ (x : Layout). tie_conditions_of x a.file.now (length a.out.now));
      count = tt;
      output = refl;
      only_tie = tt;
      evidence = tied_rows_evidence;
    }

pub file_tied_rows-requires : goal.file_tied_rows-requires
file_tied_rows-requires c =
    let found = c.in_ok-named_layout.ensures in
    (set_eliminable c.args.set found.0 found.1, set_carrying c.args.set found.0 found.1)

pub returns : goal.returns
unfolding tie_number
returns c =
    let a = c.args in
    let found = c.in_ok-named_layout.ensures in
    let h = c.file_tied_rows.ensures in
    let answer = c.file_tied_rows.result in
    record {
      result = number_of-set a.set found.0 found.1 (λ (x : Layout). tie_conditions_of x a.file.now (length a.out.now)) h.result;
      count = subst (λ (x : Layout). IfOk answer (λ (count : ℕ). count ≡ entry_count (tie_of_file x a.file.now))) found.1 h.count;
      output = h.output ∙ (λ j. output (answer_number answer) (tie_of_file (found.1 j) a.file.now) a.out.now);
      only_tie = subst (λ (x : Layout). IfOk answer (λ (count : ℕ). OnlyTieOfFile x a.file.now (take (2 * count) c.file_tied_rows.new.out))) found.1 h.only_tie;
      evidence = tied_rows_evidence;
    }
