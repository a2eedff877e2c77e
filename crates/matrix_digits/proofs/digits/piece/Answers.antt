-- `matrix_digits::digits::piece` meets its contract: the planes of up to eight rows are a byte each.
use mathlib.Core.Path.{◌≡◌, refl, ap, ◌∙◌}
use mathlib.Core.List.{append-nil}
use Prim.Native.Nat.{ℕ, ◌+◌, ◌-◌, ◌*◌, ◌/◌, ◌≤◌}
use native.Mathlib.Omega.{arith}
use lib.ListN.{length, take, drop}
use Rattle.linear_model.specs.Products.{matrix_product}
use Rattle.matrix_model.proofs.Layouts.{next_rows}
use Rattle.matrix_model.proofs.Internal.Digits.{piece_within, among_piece, piece_span}
use Rattle.matrix_blocks.specs.Layouts.{layout_in}
use Rattle.matrix_digits.proofs.digits.piece.Goals as goal
use Rattle.matrix_digits.proofs.digits.piece.Goals.{Start}

within : (c : Start)
    → 512 * c.args.b + 4 + (layout_in c.args.file.layout).row_bytes * c.args.r + (layout_in c.args.file.layout).row_bytes * c.args.n ≤ length c.args.file.bytes.now
within c =
    piece_within (layout_in c.args.file.layout) c.args.file.layout.fits c.args.file.bytes.now c.args.v.now c.args.b c.args.r c.args.n c.args.file.long c.requires.1 c.requires.2

pub overflow_mul-at : goal.overflow_mul-at
overflow_mul-at c = omega (arith, within (goal.at.overflow_mul-at c).Start)

pub overflow_add-at : goal.overflow_add-at
overflow_add-at c = omega (arith, within (goal.at.overflow_add-at c).Start)

pub overflow_mul-at-2 : goal.overflow_mul-at-2
overflow_mul-at-2 c = omega (arith, within (goal.at.overflow_mul-at-2 c).Start)

pub overflow_add-at-2 : goal.overflow_add-at-2
overflow_add-at-2 c = omega (arith, within (goal.at.overflow_add-at-2 c).Start)

pub overflow_mul-end : goal.overflow_mul-end
overflow_mul-end c = omega (arith, within (goal.at.overflow_mul-end c).Start)

pub overflow_add-end : goal.overflow_add-end
overflow_add-end c = omega (arith, within (goal.at.overflow_add-end c).Start)

pub slice_bounds-matrix_product-end : goal.slice_bounds-matrix_product-end
slice_bounds-matrix_product-end c = omega (arith, within (goal.at.slice_bounds-matrix_product-end c).Start)

pub returns : goal.returns
returns c =
    let a = c.args in
    let layout = layout_in a.file.layout in
    let at = 512 * a.b + 4 + layout.row_bytes * a.r in
    let part = take (layout.row_bytes * a.n) (drop at a.file.bytes.now) in
    let k : at + layout.row_bytes * a.n - at ≡ layout.row_bytes * a.n = omega arith in
    let e : length a.v.now / 2 ≡ layout.row_bytes / 2 = ap (λ (n : ℕ). n / 2) c.requires.0 in
    rw (c.from.ensures, c.from-2.ensures)
    (piece_span layout c.args.file.layout.fits a.file.bytes.now a.v.now
    (among_piece layout c.args.file.layout.fits a.file.bytes.now a.v.now a.b a.r a.n c.args.file.long c.requires.1 c.requires.2 part refl)
    (omega (arith, c.requires.2, next_rows layout c.args.file.layout.fits a.b c.requires.1)) c.requires.3 _
    (rw k at c.matrix_product.ensures ∙ append-nil _ ∙ ap (λ (k : ℕ). matrix_product 1 k a.n part a.v.now) e))
