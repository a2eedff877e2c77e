use mathlib.Core.Path.{◌≡◌, refl}
use native.Mathlib.Omega.{arith}
use Rattle.elimination_model.proofs.Internal.Writing.{rows_more}
use Rattle.elimination_model.proofs.Internal.Tables.{multiples_entries}
use Rattle.elimination_model.proofs.Internal.Turns.{next_fit, row_cleared}
use Rattle.elimination.proofs.elimination.clear_rows.Goals as goal

pub add_entry-requires : goal.add_entry-requires
add_entry-requires c = (
  next_fit _ _ _ _ _ _ _ c.requires c.loop-i.i _ (omega arith) c.loop-i.invariant,
  multiples_entries _ _ _ _ _ c.requires.multiples,
  c.requires.pivot.inside,
)

pub loop-i-preserved : goal.loop-i-preserved
loop-i-preserved c =
    rows_more _ _ _ _ _ _ _ _ c.loop-i.invariant (omega arith) refl
    (row_cleared _ _ _ _ _ _ _ c.requires c.loop-i.i _ _ (omega arith) c.loop-i.invariant c.add_entry.ensures)

pub returns : goal.returns
returns c =
    let e : c.loop-i.i ≡ c.args.t = omega (arith, c.requires.pivot.within) in
    rw e at c.loop-i.invariant
