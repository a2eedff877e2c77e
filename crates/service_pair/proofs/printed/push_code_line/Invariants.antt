-- The invariant of the loop of `service_pair::printed::push_code_line`: the first i digits are appended.
use Rattle.std.proofs.Common.{◌≡◌, ◌++◌}
use Rattle.linear_model.specs.Tables.{tabulate}
use Rattle.service_pair.specs.Printed.{digit}
use Rattle.service_pair.proofs.printed.push_code_line.Given as goal

abbrev pub invariant-loop-i : goal.invariant-loop-i
invariant-loop-i l = l.text.items ≡ l.initial.text.items ++ tabulate l.i (digit l.code)
