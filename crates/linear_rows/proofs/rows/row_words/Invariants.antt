-- `linear_rows::rows::row_words` meets its contract. The invariant of its loop: `acc` is modulo 3 the sum of the columns of the first i words.
use mathlib.Core.Path.{◌≡◌}
use Prim.Native.Nat.{◌*◌, ◌%◌, ◌^◌, ◌≤◌}
use Rattle.linear_model.specs.Tables.{sum}
use Rattle.linear_model.specs.Products.{trit_term}
use Rattle.linear_rows.proofs.rows.row_words.Given as goal

abbrev pub invariant-loop-i : goal.invariant-loop-i
invariant-loop-i l = (l.acc ≤ l.i * 2 ^ 35) × (l.acc % 3 ≡ sum (8 * (8 * l.i)) (trit_term l.m l.row l.v) % 3)
