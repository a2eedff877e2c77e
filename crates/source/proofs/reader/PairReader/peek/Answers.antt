-- `source::reader::PairReader::peek` meets its contract: of two bytes, moved down by two bits for each pair before the place.
use mathlib.Core.Path.{◌≡◌, ap, ap₂, ◌∙◌}
use Prim.Native.Nat.{ℕ, ◌+◌, ◌*◌, ◌/◌, ◌%◌, ◌^◌}
use native.Mathlib.Omega.{arith}
use lib.ListN.{get_or}
use Rattle.source_model.proofs.Pairs.{four_of, pairs-front}
use Rattle.source.proofs.reader.PairReader.peek.Goals as goal

pub returns : goal.returns
returns c =
    let r = c.args.self.now in
    let m = 1 * 2 ^ (2 * c.args.count) % 2 ^ 64 in
    let low : c.from.result ≡ get_or r.source.now r.byte 0 = c.from.ensures ∙ c.byte_at.ensures in
    let high : c.from-2.result ≡ get_or r.source.now (r.byte + 1) 0 = c.from-2.ensures ∙ c.byte_after.ensures in
    ap₂ (λ (x y : ℕ). (x + 256 * y) / 2 ^ (2 * r.pair) % 256 % m) low high
    ∙ ap (λ (x : ℕ). x % m) (four_of r.source.now r.byte (omega arith) r.pair (omega arith))
    ∙ pairs-front r.source.now (4 * r.byte + r.pair) c.args.count (omega arith)
