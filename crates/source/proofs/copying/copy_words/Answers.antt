use mathlib.Core.Path.{◌≡◌, refl, sym, ap, ◌∙◌}
use mathlib.Core.List.{List}
use Prim.Native.Nat.{ℕ, ◌+◌, ◌*◌, ◌<◌}
use native.Mathlib.Omega.{arith}
use Rattle.linear_model.specs.Tables.{from}
use Rattle.linear_model.specs.Bits.{bit, from_bits}
use Rattle.linear_model.proofs.NumberBits.{from_bits_ext}
use Rattle.linear_model.proofs.Strings.{bit_lt}
use Rattle.linear_model.proofs.Internal.Stores.{filling_turn, filling_pack}
use Rattle.source_model.proofs.Copied.{copied-pack}
use Rattle.source.proofs.copying.copy_words.Goals as goal
use Rattle.source.proofs.copying.copy_words.Invariants.{bits}

bits_lt : (source : List ℕ) (byte at j : ℕ) → bits source byte at j < 2
bits_lt source byte at j = bit_lt source (2 * (4 * byte + at) + j)

-- a word of them
word_of : (source : List ℕ) (byte at p x : ℕ) → x ≡ from_bits 64 (from (8 * (byte + p) + 2 * at) (bit source)) → x ≡ from_bits 64 (from (8 * p) (bits source byte at))
word_of source byte at p x e =
    e ∙ from_bits_ext 64 (from (8 * (byte + p) + 2 * at) (bit source)) (from (8 * p) (bits source byte at)) (λ j _. ap (bit source) (omega arith))

pub loop-turn-preserved : goal.loop-turn-preserved
loop-turn-preserved c =
    let r = c.args.reader in
    let i = 16 * c.loop-turn.turn in
    let e : 16 * (c.loop-turn.turn + 1) ≡ i + 16 = omega arith in
    rw e
    (filling_turn c.requires.1 (omega arith) (omega arith) (omega arith)
    (bits_lt r.source.now r.byte r.pair) refl c.loop-turn.invariant
    (word_of r.source.now r.byte r.pair c.min-p.result _ c.shifted_word-first.ensures)
    (word_of r.source.now r.byte r.pair c.min-q.result _ c.shifted_word-second.ensures) c.put_word.ensures c.put_word-in-loop-turn.ensures)

pub returns : goal.returns
returns c = filling_pack (λ j. bits_lt _ _ _ j) c.loop-turn.invariant (omega arith) ∙ sym (copied-pack _ _ _)
