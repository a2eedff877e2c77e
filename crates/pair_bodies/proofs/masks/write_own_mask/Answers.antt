-- `pair_bodies::masks::write_own_mask` meets its contract: K̂ and x̂ are the sums of both open bodies.
use mathlib.Core.Path.{◌∙◌}
use Prim.Native.Nat.{◌+◌}
use native.Mathlib.Omega.{arith}
use lib.Dec.{lit<}
use lib.Seq.{length-take-le}
use Rattle.linear_model.specs.Bits.{zeros, add_bits}
use Rattle.pair_frames.specs.Schemes.{scheme_in}
use Rattle.pair_frames.proofs.Fronts.{lent_front}
use Rattle.pair_frames.proofs.Parts.{field_part}
use Rattle.pair_model.specs.Scheme.{no_files}
use Rattle.pair_model.specs.Frame.{open_layout, header_bytes}
use Rattle.pair_model.specs.Unit.{mask_of}
use Rattle.pair_model.specs.StateSlice.{string_room}
use Rattle.pair_bodies.proofs.masks.write_own_mask.Goals as goal

pub returns : goal.returns
returns c =
    let a = c.args in
    let S = scheme_in a.sizes in
    let n = a.sizes.key_bytes in
    let f = a.f.now in
    let front = length-take-le n (zeros string_room) a.sizes.fits.key in
    let one = c.add_opened in
    let two = c.add_opened-2 in
    let left = field_part (open_layout S) 0 header_bytes header_bytes (header_bytes + n) f (lit< tt) (omega arith) (omega arith) in
    let right = field_part (open_layout S) 1 header_bytes (header_bytes + n) (header_bytes + n + n) f (lit< tt) (omega arith) (omega arith) in
    let K̂ = lent_front n (zeros string_room) one.new.out a.sizes.fits.key one.auto.out ∙ one.ensures
    ∙ (λ i. add_bits (front i) (add_bits (front i) a.own.key.now a.own.key_mask.now) (left i)) in
    let x̂ = lent_front n (zeros string_room) two.new.out a.sizes.fits.key two.auto.out ∙ two.ensures
    ∙ (λ i. add_bits (front i) (add_bits (front i) a.own.label.now a.own.label_mask.now) (right i)) in
    c.mask_of.ensures ∙ (λ i. mask_of S no_files a.side (K̂ i) (x̂ i) a.own.key_mask.now a.own.label_mask.now a.own.z.now)
