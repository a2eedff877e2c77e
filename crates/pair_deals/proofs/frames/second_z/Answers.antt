-- `pair_deals::frames::second_z` meets its contract: the sums fill the fronts of their arrays.
use mathlib.Core.Path.{◌≡◌, ◌∙◌}
use mathlib.Core.List.{List}
use Prim.Native.Nat.{ℕ}
use native.Mathlib.Omega.{arith}
use lib.ListN.{length, take, drop}
use lib.Seq.{take_at, length-take-le}
use Rattle.pair_model.specs.StateSlice.{string_room}
use Rattle.linear_model.specs.Bits.{zeros, add_bits}
use Rattle.linear_model.specs.Products.{circulant_product}
use Rattle.pair_deals.proofs.Parts.{z_is}
use Rattle.pair_deals.proofs.frames.second_z.Goals as goal

pub returns : goal.returns
returns c =
    let tape = c.args.tape.now in
    let n = tape.sizes.key_bytes in
    let e : length (take n (zeros string_room)) ≡ n = length-take-le n (zeros string_room) (omega (arith, tape.sizes.fits.key)) in
    let K = c.add_bits in
    let X = c.add_bits-2 in
    let P = c.circulant_product in
    let Z = c.add_bits_to in
    let W = c.add_bits_to-2 in
    let p : length P.new.out ≡ tape.sizes.inner_bytes = P.auto.out ∙ c.requires in
    let q : length Z.new.out ≡ tape.sizes.inner_bytes = Z.auto.out ∙ p in
    let k : List ℕ = K.new.out in
    let x : List ℕ = X.new.out in
    z_is tape.sizes tape.bytes.now _ _ _ _ _
    (K.ensures ∙ (λ i. add_bits (e i) (c.first_key_mask.ensures.part i) (c.second_key_mask.ensures.part i)))
    (X.ensures ∙ (λ i. add_bits (e i) (c.first_label_mask.ensures.part i) (c.second_label_mask.ensures.part i)))
    (P.ensures ∙ (λ i. circulant_product (c.requires i) (take_at k (drop n (zeros string_room)) n (K.auto.out ∙ e) i) (take_at x (drop n (zeros string_room)) n (X.auto.out ∙ e) i)))
    (Z.ensures ∙ (λ i. add_bits (p i) P.new.out (c.first_z.ensures.part i)))
    (W.ensures ∙ (λ i. add_bits (q i) Z.new.out (c.inner_mask.ensures.part i)))
