-- `linear_words::words::word_at` meets its contract. Past the end every bit is 0; elsewhere one of two functions gives the word.
use mathlib.Core.Path.{sym}
use Prim.Native.Nat.{◌+◌, ◌*◌}
use native.Mathlib.Omega.{arith}
use Rattle.linear_model.specs.Tables.{from}
use Rattle.linear_model.specs.Bits.{bit}
use Rattle.linear_model.proofs.NumberBits.{from_bits-none}
use Rattle.linear_model.proofs.Strings.{bit_past}
use Rattle.linear_words.proofs.words.word_at.Goals as goal

pub returns-then-s-i : goal.returns-then-s-i
returns-then-s-i c =
    let a = c.args in
    sym (from_bits-none 64 (from (8 * a.i) (bit a.s.now)) (λ k _. bit_past a.s.now (8 * a.i + k) (omega arith)))
