-- `linear_rows::rows::row_word` meets its contract. The words hold the trits of 64 columns.
use mathlib.Core.Path.{ap, ◌∙◌}
use Prim.Native.Nat.{ℕ, ◌%◌}
use Rattle.linear_model.proofs.Sums.{sum_ext}
use Rattle.linear_model.proofs.Internal.Planes.{trit_word, product_terms}
use Rattle.linear_rows.proofs.rows.row_word.Goals as goal

pub returns : goal.returns
returns c =
    let a = c.args in
    let row = a.row.now in (
      c.weight.ensures.0
          ∙ ap (λ (s : ℕ). s % 3) (sum_ext 64 _ _ (λ k _. c.multiply.ensures k))
          ∙ product_terms a.m row a.v.now a.i _ _ _ _ 64
          (trit_word a.m row a.i _ _ c.word.ensures c.word-2.ensures)
          (trit_word a.m a.v.now a.i _ _ c.word-3.ensures c.word-4.ensures),
      c.weight.ensures.1,
    )
