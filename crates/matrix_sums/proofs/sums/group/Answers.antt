-- `matrix_sums::sums::group` meets its contract.
use mathlib.Core.Path.{◌≡◌, sym}
use native.Mathlib.Omega.{arith}
use lib.ListN.{take}
use lib.Seq.{length-take-le, take_all}
use Rattle.matrix_sums.proofs.sums.group.Goals as goal

pub slice_bounds-in_columns-end : goal.slice_bounds-in_columns-end
slice_bounds-in_columns-end c = sym (length-take-le 256 c.args.part.now (omega arith))

pub in_columns-requires : goal.in_columns-requires
in_columns-requires c = length-take-le 256 c.args.part.now (omega arith)

pub returns : goal.returns
returns c =
    let part = c.args.part.now in
    let whole : take 256 part ≡ part = take_all 256 part (omega arith) in
    rw whole at c.in_columns.ensures
