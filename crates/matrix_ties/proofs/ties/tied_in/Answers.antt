-- `matrix_ties::ties::tied_in` meets its contract: the words have the rows, and the elimination decides.
use mathlib.Core.Path.{◌≡◌, ap, sym, ◌∙◌}
use Prim.Native.Nat.{ℕ, ◌<◌}
use native.Mathlib.Nat.{le_refl}
use borrow.Author.Tests.{lt-ltb, le-ltb}
use lib.Dec.{ltb}
use Rattle.std.specs.Prelude.{Option, Some, None, IfSome, is_some}
use Rattle.std.specs.Option.{unwrap_or}
use Rattle.elimination_model.specs.Independence.{trit_at}
use Rattle.elimination_model.proofs.Internal.Loading.{loaded_fit, loaded_tied, first-tied_decides}
use Rattle.matrix_model.specs.Block.{Layout}
use Rattle.matrix_blocks.specs.Standing.{layout_held}
use Rattle.matrix_ties.proofs.ties.tied_in.Goals as goal
use Rattle.matrix_ties.proofs.ties.tied_in.Goals.{After-layout-row_count}

-- a row is found just where it is below the count of rows
some_below : (r : Option ℕ) (t : ℕ) → IfSome r (λ row. row < t) → is_some r ≡ ltb (unwrap_or r t) t
some_below (Some row) t h = sym (lt-ltb row t h)
some_below None t h = sym (le-ltb t t (le_refl t))

count : (c : After-layout-row_count) → c.layout-row_count.result.row_count ≡ (layout_held c.args.rows).row_count
count c = ap (λ (layout : Layout). layout.row_count) c.layout-row_count.ensures

pub first_tied-requires : goal.first_tied-requires
first_tied-requires c =
    let p = c.requires in
    rw (count (goal.at.first_tied-requires c).After-layout-row_count) (p.2, le_refl _, loaded_fit _ _ _ (trit_at _ _) _ _ c.load.ensures p.1)

pub returns : goal.returns
returns c =
    let e = count (goal.at.returns c).After-layout-row_count in
    c.is_some.ensures
    ∙ (some_below _ _ (rw e at c.first_tied.ensures.row)
    ∙ first-tied_decides _ _ _ _ _ _ (rw e at c.first_tied.ensures.tied)
    ∙ loaded_tied _ _ _ _ _ _ c.load.ensures (le_refl _))
