use mathlib.Core.Path.{◌≡◌, ap₂, ◌∙◌}
use Prim.Native.Nat.{ℕ, ◌+◌, ◌%◌, ◌<◌}
use native.Mathlib.Omega.{arith}
use Rattle.linear_model.specs.Tables.{sum}
use Rattle.linear_model.specs.Digits.{digit_product}
use Rattle.linear_model.specs.Internal.Planes.{trit_of, trit_product}
use Rattle.linear_model.proofs.Sums.{sum_more}
use Rattle.linear_model.proofs.Digits.{remainder_product}
use Rattle.linear_digits.proofs.digits.digits_product.Goals as goal

-- the entry for digit k
module _ (x u y w k : ℕ) {a b r : ℕ} (ea : a ≡ trit_of x u k % 3) (eb : b ≡ trit_of y w k % 3) (er : r ≡ digit_product a b) where
  entry : r ≡ trit_product x u y w k
  entry = er ∙ ap₂ digit_product ea eb

  small : r < 3
  small = omega (arith, entry, remainder_product (trit_of x u k) (trit_of y w k))

  more : {acc : ℕ} → acc ≡ sum k (trit_product x u y w) → acc + r ≡ sum (k + 1) (trit_product x u y w)
  more e = rw (e, entry, sum_more)

pub loop-k-init : goal.loop-k-init
loop-k-init c = unfold sum in omega arith

pub overflow_add-acc : goal.overflow_add-acc
overflow_add-acc c = omega (arith, small _ _ _ _ _ c.digit.ensures c.digit-in-loop-k.ensures c.product-acc.ensures)

pub loop-k-preserved : goal.loop-k-preserved
loop-k-preserved c =
    let a = c.args in (
      omega (arith, small _ _ _ _ _ c.digit.ensures c.digit-in-loop-k.ensures c.product-acc.ensures),
      more a.x a.u a.y a.w c.loop-k.k c.digit.ensures c.digit-in-loop-k.ensures c.product-acc.ensures c.loop-k.invariant.1,
    )
