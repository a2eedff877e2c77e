-- `pair_frames::frame::check_line` meets its contract: its one test decides.
use mathlib.Core.Path.{sym, ◌∙◌}
use borrow.Author.Tests.{eq-eqb, ne_eqb}
use Rattle.numbers.specs.Number.{first}
use Rattle.pair_frames.proofs.frame.check_line.Goals as goal

pub returns-then-line_of-line : goal.returns-then-line_of-line
unfolding first
returns-then-line_of-line c = rw (eq-eqb _ _ (sym c.line_of.ensures ∙ c.if-line_of-line.true))

pub returns-else-line_of-line : goal.returns-else-line_of-line
unfolding first
returns-else-line_of-line c = rw (ne_eqb _ _ (λ e. c.if-line_of-line.false (c.line_of.ensures ∙ e)))
