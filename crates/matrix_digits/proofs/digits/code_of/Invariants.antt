-- `matrix_digits::digits::code_of` meets its contract. The invariant of its loop: the first p bytes of each plane are those of the product, and
-- what is gathered comes after them.
use Prim.Native.Nat.{◌*◌, ◌≤◌, min}
use Rattle.linear_model.proofs.Filling.{Planes}
use Rattle.matrix_model.specs.Internal.Digits.{code_digit, Gathering}
use Rattle.matrix_blocks.specs.Layouts.{layout_in}
use Rattle.matrix_digits.proofs.digits.code_of.Given as goal

abbrev pub invariant-loop-p : goal.invariant-loop-p
invariant-loop-p l =
    Planes l.n (code_digit (layout_in l.fn.layout) l.file l.v) l.p l.initial.out l.out
    × Gathering (layout_in l.fn.layout) (code_digit (layout_in l.fn.layout) l.file l.v) (8 * l.p) l.g.done l.g.block l.g.place l.g.low l.g.high
    × (min (8 * l.p) l.count ≤ l.g.done)
