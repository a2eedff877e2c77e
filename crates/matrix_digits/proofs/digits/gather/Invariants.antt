-- `matrix_digits::digits::gather` meets its contract. The invariant of its loop: what is gathered so far.
use Prim.Native.Nat.{◌-◌, ◌≤◌}
use Rattle.matrix_model.specs.Internal.Digits.{code_digit, Gathering}
use Rattle.matrix_blocks.specs.Layouts.{layout_in}
use Rattle.matrix_digits.proofs.digits.gather.Given as goal

abbrev pub invariant-loop-all : goal.invariant-loop-all
invariant-loop-all l =
    Gathering (layout_in l.file.layout) (code_digit (layout_in l.file.layout) l.file.bytes.now l.v) l.start l.all.done l.all.block l.all.place l.all.low l.all.high × (l.start ≤ l.all.done)

abbrev pub decreases-loop-all : goal.decreases-loop-all
decreases-loop-all l = l.end - l.all.done
