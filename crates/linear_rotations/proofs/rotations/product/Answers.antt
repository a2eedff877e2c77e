-- `linear_rotations::rotations::product` meets its contract. The words of the key, and those of the label twice over, are the factors; the words of the product are stored.
use mathlib.Core.Path.{◌≡◌, ◌∙◌}
use Prim.Native.Nat.{◌*◌}
use native.Mathlib.Omega.{arith}
use lib.ListN.{length}
use Rattle.linear_model.specs.Bits.{bit}
use Rattle.linear_model.specs.Internal.Rotations.{around, horner}
use Rattle.linear_model.proofs.Internal.Rotations.{factors, product_packed}
use Rattle.linear_rotations.proofs.rotations.product.Goals as goal

pub returns : goal.returns
returns c =
    let a = c.args in
    let key = a.key.now in
    let label = a.label.now in
    let e : length a.out.now ≡ 8 * a.w = c.requires.2 in
    rw e (c.store.ensures (horner a.w (bit key) (around (8 * a.w) label) 0 64) (λ i. omega arith)
    (c.multiply_any.ensures (bit key) (around (8 * a.w) label) (factors a.w 4 key label c.read.ensures c.read_label.ensures))
    ∙ product_packed a.w key label)
