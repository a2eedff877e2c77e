-- `pair_bodies::masks::mask_of` meets its contract: two products make the mask, since the product is linear.
use mathlib.Core.Path.{ap, ◌∙◌}
use mathlib.Core.List.{List}
use mathlib.Core.Bool.{cond}
use Prim.Native.Nat.{ℕ}
use lib.Dec.{eqb}
use lib.Seq.{length-take-le}
use Rattle.linear_model.specs.Bits.{zeros, add_bits}
use Rattle.linear_model.specs.Products.{circulant_product}
use Rattle.pair_frames.specs.Schemes.{numbers_in, scheme_in}
use Rattle.pair_frames.proofs.Bases.{scheme_linear}
use Rattle.pair_model.specs.Scheme.{no_files}
use Rattle.pair_model.specs.StateSlice.{string_room}
use Rattle.pair_model.proofs.Theorem.MaskLaws.{mask_of-two}
use Rattle.pair_frames.proofs.Fronts.{lent_front}
use Rattle.pair_bodies.proofs.masks.mask_of.Goals as goal

pub returns : goal.returns
returns c =
    let a = c.args in
    let z = a.sizes in
    let n = z.key_bytes in
    let m = z.inner_bytes in
    let K̃ = a.own.key_mask.now in
    let x̃ = a.own.label_mask.now in
    let x̂ = a.label_hat.now in
    let made = c.label_factor in
    let two = c.circulant_product-2 in
    let factor = lent_front n (zeros string_room) made.new.out z.fits.key made.auto.out ∙ made.ensures
    ∙ ap {B = List ℕ} (λ (k : ℕ). cond (eqb a.side 0) (add_bits k x̃ x̂) x̃) (length-take-le n (zeros string_room) z.fits.key) in
    let work = lent_front m (zeros string_room) two.new.out z.fits.inner two.auto.out ∙ two.ensures
    ∙ ap (λ (k : ℕ). circulant_product k K̃ x̂) (length-take-le m (zeros string_room) z.fits.inner) in
    let long = c.requires.1 in
    let first-long = c.circulant_product.auto.out ∙ long in
    let sum-long = c.add_bits_to.auto.out ∙ first-long in
    let first = c.circulant_product.ensures ∙ (λ i. circulant_product (long i) a.key_hat.now (factor i)) in
    let sum = c.add_bits_to.ensures ∙ (λ i. add_bits (first-long i) (first i) (work i)) in
    c.add_bits_to-2.ensures ∙ (λ i. add_bits (sum-long i) (sum i) a.own.z.now)
    ∙ mask_of-two (scheme_in z) (scheme_linear (numbers_in z) z.fits) no_files a.side a.key_hat.now x̂ K̃ x̃ a.own.z.now
