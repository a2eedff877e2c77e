-- `matrix_files::file::check_blocks` meets its contract: the check of all blocks is looked at before the layout of any.
use Rattle.numbers.specs.Number.{first}
use Rattle.matrix_files.proofs.file.check_blocks.Goals as goal

pub returns-then-bad_check : goal.returns-then-bad_check
unfolding first
returns-then-bad_check c = rw (← c.bad_check.ensures, c.if-bad_check.true)

pub returns-then-bad_layout : goal.returns-then-bad_layout
unfolding first
returns-then-bad_layout c = rw (← c.bad_check.ensures, c.if-bad_check.false, ← c.bad_layout.ensures, c.if-bad_layout.true)

pub returns : goal.returns
unfolding first
returns c = rw (← c.bad_check.ensures, c.if-bad_check.false, ← c.bad_layout.ensures, c.if-bad_layout.false)
