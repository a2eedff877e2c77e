-- `matrix_sums::sums::add_word` meets its contract.
use mathlib.Core.Path.{refl}
use Prim.Native.Nat.{◌/◌, ◌^◌}
use native.Mathlib.Omega.{arith}
use lib.Bits.{and_le_r}
use Rattle.matrix_sums.proofs.sums.add_word.Goals as goal

pub overflow_add-result : goal.overflow_add-result
overflow_add-result c = omega (arith, and_le_r c.args.x 0x00ff00ff00ff00ff, and_le_r (c.args.x / 2 ^ 8) 0x00ff00ff00ff00ff)

pub overflow_add-result-2 : goal.overflow_add-result-2
overflow_add-result-2 c =
    let x = c.args.x in
    omega (arith, c.requires.0, and_le_r x 0x00ff00ff00ff00ff, and_le_r (x / 2 ^ 8) 0x00ff00ff00ff00ff)

pub overflow_add-result-3 : goal.overflow_add-result-3
overflow_add-result-3 c = omega (arith, c.requires.1, and_le_r (c.args.x / 2 ^ 8) 0x00ff00ff00ff00ff)

pub returns : goal.returns
returns c = record { pairs_is = refl; odd_is = refl; ahead_is = refl }
