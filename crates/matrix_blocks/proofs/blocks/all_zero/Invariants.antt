-- `matrix_blocks::blocks::all_zero` meets its contract. The invariant of its loop: `any` is 0 where the bytes so far are.
use mathlib.Core.Path.{◌≡◌}
use lib.Dec.{eqb}
use Rattle.linear_model.specs.Tables.{every}
use Rattle.matrix_model.specs.Block.{zero_byte}
use Rattle.matrix_blocks.proofs.blocks.all_zero.Given as goal

abbrev pub invariant-loop-x : goal.invariant-loop-x
invariant-loop-x l = eqb l.any 0 ≡ every l.x-index (zero_byte l.s)
