-- `service_pair::printed::printed` meets its contract: the line of the number and, where that is 0, the line of the code behind it.
use mathlib.Core.Path.{ap, ◌∙◌}
use mathlib.Core.List.{List, ◌++◌}
use Prim.Native.Nat.{ℕ}
use native.Mathlib.Omega.{arith}
use lib.ListN.{length}
use Rattle.service_pair.specs.Printed.{result_line, code_line}
use Rattle.service_pair.proofs.Lines.{line_short, refused, done}
use Rattle.service_pair.proofs.printed.printed.Goals as goal

pub push_code_line-requires : goal.push_code_line-requires
push_code_line-requires c =
    let r = c.pair_run-number in
    omega (arith, ap length (c.push_result_line.ensures ∙ ap (λ (t : List ℕ). t ++ result_line r.result) c.new-text.ensures), line_short {number = r.result} r.type_inv)

pub returns-then-number-eq0 : goal.returns-then-number-eq0
returns-then-number-eq0 c =
    let r = c.pair_run-number in
    c.push_code_line.ensures
    ∙ ap (λ (t : List ℕ). t ++ code_line r.new.out) (c.push_result_line.ensures ∙ ap (λ (t : List ℕ). t ++ result_line r.result) c.new-text.ensures)
    ∙ done _ r.ensures.result c.if-number-eq0.true r.ensures.output

pub returns-else-number-eq0 : goal.returns-else-number-eq0
returns-else-number-eq0 c =
    let r = c.pair_run-number in
    c.push_result_line.ensures ∙ ap (λ (t : List ℕ). t ++ result_line r.result) c.new-text.ensures ∙ refused _ r.ensures.result c.if-number-eq0.false
