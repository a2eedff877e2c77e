-- `linear_circulant::circulant::circulant_product` meets its contract. One word goes by quarters, up to eight by rotations; other lengths go row by row.
use mathlib.Core.Path.{◌≡◌, ◌∙◌}
use native.Mathlib.Omega.{arith}
use borrow.Author.Tests.{eqb-true, ltb-true, leb-true}
use lib.ListN.{length}
use Rattle.linear_model.proofs.Internal.Quarters.{word_product_stored}
use Rattle.linear_circulant.proofs.circulant.circulant_product.Goals as goal

pub returns-then-n-eq8 : goal.returns-then-n-eq8
returns-then-n-eq8 c =
    let a = c.args in
    let e : length a.out.now ≡ 8 = omega arith in
    rw e (c.put_word.ensures ∙ word_product_stored a.key.now a.label.now a.out.now e c.word_at.ensures c.word_at-then-n-eq8.ensures c.product.ensures)

pub product-requires-then-n-le64 : goal.product-requires-then-n-le64
product-requires-then-n-le64 c = omega (arith, eqb-true, ltb-true, leb-true)
