-- `service_pair::printed::push_result_line` meets its contract: the word, the digits and a line feed.
use native.Mathlib.Omega.{arith}
use Rattle.std.proofs.lemmas.Grind.{common_steps}
use Rattle.service_pair.proofs.Lines.{line_is}
use Rattle.service_pair.proofs.printed.push_result_line.Goals as goal

pub returns : goal.returns
returns c = line_is _ _ c.ranges.number.fits (grind (arith, common_steps))
