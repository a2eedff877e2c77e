-- `matrix_sums::sums::group_sums` meets its contract. The lanes, weighted and folded, are the two sums but for multiples of 255.
use native.Mathlib.Omega.{arith}
use Rattle.matrix_model.proofs.Internal.Groups.{group_small, halves_folded, sums_of}
use Rattle.matrix_sums.proofs.sums.group_sums.Goals as goal

pub overflow_add-result-5 : goal.overflow_add-result-5
overflow_add-result-5 c =
    omega (
      arith,
      group_small _ _ _ _ _ _ _ c.folded-first.ensures.1 c.weighted.ensures.small c.folded-3.ensures.1
          c.folded.ensures.1 c.weighted-2.ensures.small c.folded-4.ensures.1 c.folded-2.ensures.1,
    )

pub returns : goal.returns
returns c =
    sums_of (halves_folded c.folded-first.ensures) c.weighted.ensures (halves_folded c.folded-3.ensures) (halves_folded c.folded.ensures)
    (halves_folded c.folded-5.ensures) c.weighted-2.ensures (halves_folded c.folded-4.ensures) (halves_folded c.folded-2.ensures)
