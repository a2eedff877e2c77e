-- `matrix_sums::sums::sums` meets its contract. The sums of two groups are those of 512 bytes, of which the last two are taken off again.
use mathlib.Core.Path.{ap₂, ◌∙◌}
use mathlib.Core.List.{[], ◌∷◌}
use Prim.Native.Nat.{ℕ}
use Rattle.matrix_model.specs.Block.{check}
use Rattle.matrix_model.proofs.Internal.Sums.{check_sums}
use Rattle.matrix_sums.proofs.sums.sums.Goals as goal

pub returns : goal.returns
unfolding check
returns c =
    let end = c.stored-end.ensures in
    let h =
    check_sums (c.group_sums-a.ensures.sums _ c.group.ensures.sums) (c.group_sums-b.ensures.sums _ c.group-2.ensures.sums)
    (c.from-p.ensures ∙ end.0) (c.from-q.ensures ∙ end.1)
    in
    ap₂ (λ (x y : ℕ). x ∷ y ∷ []) h.first_is h.second_is
