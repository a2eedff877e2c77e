-- `matrix_ties::lists::list_in` meets its contract: the words have the rows, and each carries itself alone.
use mathlib.Core.Path.{ap, ◌∙◌}
use mathlib.Core.List.{List}
use Prim.Native.Nat.{ℕ, ◌+◌, ◌*◌, ◌≤◌}
use native.Mathlib.Omega.{arith}
use Rattle.numbers.specs.Number.{at_front}
use Rattle.elimination_model.specs.Independence.{trit_at}
use Rattle.elimination_model.specs.Tie.{entry_count}
use Rattle.elimination_model.proofs.Internal.Loading.{loaded_carrying}
use Rattle.matrix_model.specs.File.{row_plane_of, rows_of}
use Rattle.matrix_model.specs.Internal.Rows.{plane_words, carrying_words}
use Rattle.matrix_model.proofs.Internal.TiedRows.{rows_tie}
use Rattle.matrix_blocks.specs.Layouts.{layout_in}
use Rattle.matrix_ties.proofs.lists.list_in.Goals as goal

pub carrying_words-w-requires : goal.carrying_words-w-requires
carrying_words-w-requires c = c.requires.1

pub load-requires : goal.load-requires
load-requires c =
    let p = c.requires in
    let e = c.carrying_words-w.ensures in
    (omega arith, rw e p.2, rw e p.1.few_words)

pub put_tie-requires : goal.put_tie-requires
put_tie-requires c =
    let layout = layout_in c.args.file.layout in
    let e = c.carrying_words-w.ensures in
    let room : 64 * plane_words layout + layout.row_count ≤ 64 * carrying_words layout = omega arith in (
      loaded_carrying _ _ _ (trit_at (row_plane_of layout) (rows_of layout c.args.file.bytes.now)) _ _ c.load.ensures (rw e c.requires.2) (rw e room),
      rw e c.requires.1.few_words,
      c.requires.1.row_numbers,
      c.requires.3,
    )

pub returns : goal.returns
returns c =
    let layout = layout_in c.args.file.layout in
    let f = c.put_tie.ensures in
    let more : plane_words layout ≤ carrying_words layout = omega arith in
    let e = rows_tie layout (rows_of layout c.args.file.bytes.now) c.requires.0 _ _ _ (rw c.carrying_words-w.ensures more) c.load.ensures in
    (f.count ∙ ap entry_count e, f.output ∙ ap (λ (list : List ℕ). at_front list c.args.out.now) e)
