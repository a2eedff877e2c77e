-- `pair_sampler::packing::plane_byte` meets its contract. Bit h of byte k of a word is bit 8k + h of it.
use mathlib.Core.Path.{◌≡◌, ap, ◌∙◌}
use Prim.Native.Nat.{◌+◌, ◌*◌, ◌/◌, ◌%◌}
use native.Mathlib.Omega.{arith}
use lib.ListN.{get_or}
use Rattle.linear_model.specs.Tables.{from}
use Rattle.linear_model.specs.Bits.{bit}
use Rattle.linear_model.proofs.NumberBits.{from_bits_ext}
use Rattle.linear_model.proofs.Strings.{bit-at}
use Rattle.linear_model.proofs.WordBits.{word_bit_at}
use Rattle.pair_sampler.specs.Planes.{plane_bit}
use Rattle.pair_sampler.proofs.Gathering.{small-bit}
use Rattle.pair_sampler.proofs.packing.plane_byte.Goals as goal

pub gathered-requires : goal.gathered-requires
gathered-requires c =
    let t = c.args.trits.now in
    let i = c.args.i in (
      omega arith,
      λ j l m.
          let e : 8 * (8 * i) + j ≡ 8 * (8 * i + j / 8) + j % 8 = omega arith in
          word_bit_at t (8 * (8 * i)) _ c.word.ensures j l ∙ ap (bit t) e ∙ bit-at t (8 * i + j / 8) (j % 8) (omega arith)
          ∙ small-bit (get_or t (8 * i + j / 8) 0) (j % 8) (c.requires.2 (8 * i + j / 8)) m,
    )

pub returns : goal.returns
returns c =
    let a = c.args in
    let t = a.trits.now in
    let h = a.h in
    let i = a.i in
    c.gathered.ensures
    ∙ from_bits_ext 8 _ (from (8 * i) (plane_bit t h))
    (λ k l. word_bit_at t (8 * (8 * i)) _ c.word.ensures (8 * k + h) (omega arith)
    ∙ ap (bit t) (omega arith) ∙ bit-at t (8 * i + k) h (omega arith))
