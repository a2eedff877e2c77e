-- `elimination_rows::rows::put_row` meets its contract: the planes are copied one after the other.
use Rattle.elimination_model.proofs.Internal.Writing.{planes_copied}
use Rattle.elimination_rows.proofs.rows.put_row.Goals as goal

pub returns : goal.returns
returns c =
    let a = c.args in
    planes_copied a.w a.e a.low a.high a.words.now _ _ _ c.copy_words.ensures c.copy_words-2.ensures
