-- `elimination::elimination::fill_table` meets its contract: the row and its negative go to the entries that the digit p says.
use Prim.Native.Nat.{◌-◌}
use native.Mathlib.Omega.{arith}
use Rattle.elimination_model.proofs.Internal.Writing.{rows_apart}
use Rattle.elimination_model.proofs.Internal.Tables.{multiples_filled}
use Rattle.elimination.proofs.elimination.fill_table.Goals as goal

pub overflow_mul-w-2 : goal.overflow_mul-w-2
overflow_mul-w-2 c =
    omega (arith, c.requires.3.long, rows_apart c.args.w (3 - c.args.p) 3 (omega arith))

pub put_row-requires : goal.put_row-requires
put_row-requires c = (
  omega (arith, c.requires.0.long),
  omega (arith, c.requires.0.long),
  omega (arith, c.requires.3.long, rows_apart c.args.w (3 - c.args.p) 3 (omega arith)),
)

pub overflow_mul-w-4 : goal.overflow_mul-w-4
overflow_mul-w-4 c =
    omega (arith, c.requires.3.long, rows_apart c.args.w c.args.p 3 c.requires.2)

pub put_row-requires-2 : goal.put_row-requires-2
put_row-requires-2 c = (
  omega (arith, c.requires.0.long),
  omega (arith, c.requires.0.long),
  omega (arith, c.requires.3.long, c.put_row.ensures.size, rows_apart c.args.w c.args.p 3 c.requires.2),
)

pub returns : goal.returns
returns c =
    multiples_filled c.args.w c.args.words.now c.args.a c.requires.0 c.args.p c.requires.1 c.requires.2 _ _ _ c.requires.3
    c.put_row.ensures c.put_row-2.ensures
