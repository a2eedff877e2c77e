use mathlib.Core.Path.{ap, ◌∙◌}
use Prim.Native.Nat.{ℕ, ◌+◌, ◌*◌}
use native.Mathlib.Omega.{arith}
use Rattle.linear_model.specs.Tables.{from}
use Rattle.linear_model.specs.Bits.{from_bits, bit}
use Rattle.linear_model.proofs.Strings.{bit_lt}
use Rattle.linear_model.proofs.WordBits.{or_part, byte_part}
use Rattle.linear_words.proofs.words.last_word.Goals as goal

pub loop-k-init : goal.loop-k-init
loop-k-init c = unfold from_bits in omega arith

pub loop-k-preserved : goal.loop-k-preserved
loop-k-preserved c =
    let a = c.args in
    let f = from (8 * a.i) (bit a.s.now) in
    let k = c.loop-k.k in
    or_part 64 (8 * k) 8 _ _ f (omega arith) (λ j. bit_lt a.s.now (8 * a.i + j)) c.loop-k.invariant
    (byte_part a.s.now a.i k _ (c.from.ensures ∙ c.byte_at.ensures) (omega (arith, c.byte_at.type_inv, c.from.ensures)))
    ∙ ap (λ (n : ℕ). from_bits n f) (omega arith)
