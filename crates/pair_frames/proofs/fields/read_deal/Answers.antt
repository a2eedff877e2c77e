-- `pair_frames::fields::read_deal` meets its contract: each part is a field of the deal, in the front of its room, which was zeros.
use mathlib.Core.Path.{◌≡◌}
use mathlib.Core.List.{List}
use Prim.Native.Nat.{ℕ, ◌+◌, ◌*◌}
use native.Mathlib.Omega.{arith}
use lib.Dec.{lit<}
use Rattle.pair_model.specs.Tape.{deal_layout}
use Rattle.pair_model.specs.StateSlice.{string_room, trits_room}
use Rattle.pair_frames.specs.Schemes.{scheme_in}
use Rattle.pair_frames.proofs.Parts.{field-copied}
use Rattle.pair_frames.proofs.fields.read_deal.Goals as goal

-- the places of the fields
second : (at n : ℕ) → at + n ≡ at + (n + 0)
second at n = omega arith

third : (at n : ℕ) → at + 2 * n ≡ at + (n + (n + 0))
third at n = omega arith

fourth : (at n m : ℕ) → at + 2 * n + m ≡ at + (n + (n + (m + 0)))
fourth at n m = omega arith

pub returns : goal.returns
returns c =
    let a = c.args in
    let s = a.s.now in
    let at = a.at in
    let n = a.sizes.key_bytes in
    let m = a.sizes.inner_bytes in
    let fields : List ℕ = deal_layout (scheme_in a.sizes) in
    let key = c.put_part.ensures in
    let label = c.put_part-2.ensures in
    let z = c.put_part-3.ensures in
    let r = c.put_part-4.ensures in
    record {
      key_mask = field-copied fields 0 at at s (lit< tt) (omega arith) string_room _ key.output;
      label_mask = field-copied fields 1 at (at + n) s (lit< tt) (second at n) string_room _ label.output;
      z = field-copied fields 2 at (at + 2 * n) s (lit< tt) (third at n) string_room _ z.output;
      r = field-copied fields 3 at (at + 2 * n + m) s (lit< tt) (fourth at n m) trits_room _ r.output;
    }
