-- `linear_digits::digits::byte_product` meets its contract. The bytes hold the trits of eight columns.
use mathlib.Core.Path.{◌∙◌}
use Rattle.linear_model.proofs.Internal.Planes.{trit_byte, product_terms}
use Rattle.linear_digits.proofs.digits.byte_product.Goals as goal

pub returns : goal.returns
returns c =
    let a = c.args in
    c.digits_product.ensures
    ∙ product_terms a.m a.row.now a.v.now a.i _ _ _ _ 8
    (trit_byte a.m a.row.now a.i _ _ c.byte_at.ensures c.byte_at-2.ensures)
    (trit_byte a.m a.v.now a.i _ _ c.byte_at-3.ensures c.byte_at-4.ensures)
