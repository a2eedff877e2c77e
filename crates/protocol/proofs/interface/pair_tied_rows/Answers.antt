-- `protocol::interface::pair_tied_rows` meets its contract: the count is reported, and is that of the list.
use mathlib.Core.Path.{◌∙◌}
use Prim.Native.Nat.{◌*◌}
use lib.ListN.{take}
use Rattle.matrix_model.specs.File.{layout_of}
use Rattle.matrix_model.specs.Ties.{OnlyTieOfFile}
use Rattle.protocol.proofs.Reports.{is_reported, holds_done}
use Rattle.protocol.proofs.interface.pair_tied_rows.Goals as goal

pub returns-clause-count : goal.returns-clause-count
returns-clause-count c =
    let r = c.matrix_tied_rows-tied in
    c.unwrap_or.ensures ∙ is_reported r.result _ r.ensures.count c.answer_number.ensures

pub returns-clause-only_tie : goal.returns-clause-only_tie
returns-clause-only_tie c =
    let a = c.args in
    let r = c.matrix_tied_rows-tied in
    holds_done (λ n. OnlyTieOfFile (layout_of a.set) a.file.now (take (2 * n) r.new.out)) r.result r.ensures.only_tie c.answer_number.ensures c.unwrap_or.ensures
