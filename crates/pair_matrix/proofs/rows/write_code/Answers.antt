-- `pair_matrix::rows::write_code` meets its contract: the product of the sizes' layout, whose rows have two planes.
use mathlib.Core.Path.{◌≡◌, ap, sym, ◌∙◌}
use mathlib.Core.List.{◌++◌}
use Prim.Native.Nat.{◌*◌, ◌/◌}
use native.Mathlib.Omega.{arith}
use lib.ListN.{drop}
use Rattle.linear_model.specs.Products.{matrix_product}
use Rattle.matrix_model.specs.Block.{Layout}
use Rattle.matrix_model.specs.File.{row_plane_of, code_plane_of, rows_of}
use Rattle.pair_frames.specs.Schemes.{file_layout, scheme_in}
use Rattle.pair_model.specs.Scheme.{files}
use Rattle.pair_model.specs.Evaluator.{code_of}
use Rattle.pair_model.proofs.Theorem.ShareLaws.{bytes_code}
use Rattle.pair_matrix.proofs.rows.write_code.Goals as goal

pub returns : goal.returns
unfolding code_of
returns c =
    let a = c.args in
    let m = a.sizes.inner_bytes in
    let file = a.file.now in
    let v = a.v.now in
    let o = a.out.now in
    let l = file_layout a.sizes in
    let p = code_plane_of l in
    let S = scheme_in a.sizes in
    let half : 2 * m / 2 ≡ m = omega arith in
    c.code_of.ensures
    ∙ ap (λ (k : Layout). matrix_product (code_plane_of k) (row_plane_of k) k.row_count (rows_of k file) v ++ drop (2 * code_plane_of k) o)
    c.file_layout.ensures
    ∙ (λ i. matrix_product p (half i) a.sizes.digits (rows_of l file) v ++ drop (sym (bytes_code S (files file) v).size i) o)
