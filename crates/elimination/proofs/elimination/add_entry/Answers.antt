-- `elimination::elimination::add_entry` meets its contract: rows of one word have their own way, and else the entry is that of the digit.
use mathlib.Core.Path.{◌≡◌}
use Prim.Native.Nat.{◌<◌}
use native.Mathlib.Omega.{arith}
use Rattle.elimination_model.proofs.Internal.Writing.{rows_apart}
use Rattle.elimination_model.proofs.Internal.Tables.{entry_fit}
use Rattle.elimination.proofs.elimination.add_entry.Goals as goal
use Rattle.elimination.proofs.elimination.add_entry.Goals.{After-digit_in-d}

-- the digit is one of the table's
small : (c : After-digit_in-d) → c.digit_in-d.result < 3
small c =
    rw c.digit_in-d.ensures (c.requires.0.fit c.args.column.word c.requires.2 c.args.column.bit)

pub add_entry_by_mask-requires : goal.add_entry_by_mask-requires
add_entry_by_mask-requires c =
    let one = c.if-w-eq1.true in
    (rw one at c.requires.0, rw one at c.requires.1, c.args.column.in_word)

pub returns-then-w-eq1 : goal.returns-then-w-eq1
returns-then-w-eq1 c =
    let one = c.if-w-eq1.true in
    let first : c.args.column.word ≡ 0 = omega (arith, one) in
    rw (one, first) c.add_entry_by_mask.ensures

pub overflow_mul-w-2 : goal.overflow_mul-w-2
overflow_mul-w-2 c =
    omega (arith, c.requires.1.long, rows_apart c.args.w c.digit_in-d.result 3 (small (goal.at.overflow_mul-w-2 c).After-digit_in-d))

pub add_row-requires : goal.add_row-requires
add_row-requires c =
    (entry_fit _ _ c.requires.1 c.digit_in-d.result (small (goal.at.add_row-requires c).After-digit_in-d), c.requires.0)

pub returns : goal.returns
returns c = rw c.digit_in-d.ensures at c.add_row.ensures
