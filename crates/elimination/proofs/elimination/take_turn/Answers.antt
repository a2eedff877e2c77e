-- `elimination::elimination::take_turn` meets its contract: the table has the multiples of row r.
use Rattle.elimination_model.proofs.Internal.Tables.{multiples_table}
use Rattle.elimination.proofs.elimination.take_turn.Goals as goal

pub returns-clause-table : goal.returns-clause-table
returns-clause-table c = multiples_table _ _ _ _ _ c.fill_table.ensures
