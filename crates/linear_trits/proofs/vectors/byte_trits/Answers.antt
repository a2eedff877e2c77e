-- `linear_trits::vectors::byte_trits` meets its contract. The bytes hold the bits of eight places.
use mathlib.Core.Path.{sym, ap, ◌∙◌}
use Prim.Native.Nat.{ℕ}
use Rattle.linear_model.specs.Bits.{bit_at}
use Rattle.linear_model.proofs.Strings.{bit-at}
use Rattle.linear_model.proofs.Internal.Planes.{trit_byte}
use Rattle.linear_trits.proofs.vectors.byte_trits.Goals as goal

pub returns : goal.returns
returns c =
    let a = c.args in
    let x = c.from.ensures ∙ c.byte_at.ensures in
    record {
      bits = λ k l. bit-at a.s.now a.i k l ∙ ap (λ (z : ℕ). bit_at z k) (sym x);
      trits = trit_byte a.high a.s.now a.i _ _ x (c.from-2.ensures ∙ c.byte_at-2.ensures);
    }
