-- `matrix_ties::ties::independent` meets its contract: what is not tied in some columns is not tied.
use mathlib.Core.Path.{◌≡◌, sym, ap, ◌∙◌}
use mathlib.Core.Bool.{not}
use Prim.Native.Nat.{ℕ, ◌/◌, ◌≤◌}
use native.Mathlib.Omega.{arith}
use borrow.Author.Tests.{le-ltb}
use Rattle.matrix_model.specs.Block.{Layout}
use Rattle.matrix_model.specs.Internal.Rows.{plane_words, tied_in_columns, LoadingRoom, Eliminable}
use Rattle.matrix_model.proofs.Internal.TiedRows.{all_columns, first_columns_lem, column_room}
use Rattle.matrix_blocks.specs.Standing.{layout_held, rows_held}
use Rattle.matrix_ties.proofs.ties.independent.Goals as goal
use Rattle.matrix_ties.proofs.ties.independent.Goals.{After-layout-layout}

-- there is room for v words of each plane
room : (layout : Layout) → Eliminable layout → (v : ℕ) → v ≤ plane_words layout → LoadingRoom layout v v 2592
room layout h v l = (omega arith, column_room layout h v l, omega (arith, h.few_words))

width : (c : After-layout-layout) → c.layout-layout.result.row_bytes / 16 ≡ plane_words (layout_held c.args.rows)
width c = ap plane_words c.layout-layout.ensures

pub tied_in_columns-requires : goal.tied_in_columns-requires
tied_in_columns-requires c =
    room (layout_held c.args.rows) c.requires c.min-v.result (omega (arith, c.min-v.ensures, width (goal.at.tied_in_columns-requires c).After-layout-layout))

pub returns-then-not-tied_in_columns : goal.returns-then-not-tied_in_columns
returns-then-not-tied_in_columns c =
    ap not (sym (first_columns_lem (layout_held c.args.rows) (rows_held c.args.rows) c.requires c.min-v.result (omega (arith, c.min-v.ensures, width (goal.at.returns-then-not-tied_in_columns c).After-layout-layout)) (sym c.tied_in_columns.ensures ∙ c.if-not-tied_in_columns.true)))

pub tied_in_columns-requires-then-v-w : goal.tied_in_columns-requires-then-v-w
tied_in_columns-requires-then-v-w c =
    room (layout_held c.args.rows) c.requires _ (omega (arith, width (goal.at.tied_in_columns-requires-then-v-w c).After-layout-layout))

pub returns-then-v-w : goal.returns-then-v-w
returns-then-v-w c =
    let layout = layout_held c.args.rows in
    let rows = rows_held c.args.rows in
    ap not (c.tied_in_columns-then-v-w.ensures ∙ ap (λ (v : ℕ). tied_in_columns layout v rows) (width (goal.at.returns-then-v-w c).After-layout-layout)
    ∙ all_columns layout rows c.requires)

pub returns-else-v-w : goal.returns-else-v-w
returns-else-v-w c =
    let layout = layout_held c.args.rows in
    let rows = rows_held c.args.rows in
    let e : c.min-v.result ≡ plane_words layout = omega (arith, c.min-v.ensures, c.if-v-w.false, width (goal.at.returns-else-v-w c).After-layout-layout) in
    le-ltb c.min-v.result _ c.if-v-w.false
    ∙ ap not (sym c.if-not-tied_in_columns.false ∙ c.tied_in_columns.ensures ∙ ap (λ (v : ℕ). tied_in_columns layout v rows) e ∙ all_columns layout rows c.requires)
