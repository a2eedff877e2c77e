-- `linear_digits::digits::product` meets its contract. The table is the definition's, at each of its nine entries.
use mathlib.Core.Path.{refl}
use Rattle.linear_model.specs.Digits.{digit_product}
use Rattle.linear_digits.proofs.digits.product.Goals as goal

pub returns : goal.returns
unfolding digit_product
returns c = refl
