-- What `matrix_model.specs.Internal.Lanes` says of lanes and sums, of those that the structs of the code hold.
use Rattle.std.specs.Prelude.{ℕ, List}
use Rattle.matrix_model.specs.Internal.Lanes.{group_bytes, WordAdded, GroupLanes, GroupTotals}
use Rattle.matrix_sums.specs.declared.groups.Lanes.{Lanes}
use Rattle.matrix_sums.specs.declared.groups.Columns.{Columns}
use Rattle.matrix_sums.specs.declared.groups.Totals.{Totals}

-- the lanes with a word more
abbrev pub AddedTo : Lanes → ℕ → Lanes → Type 0
AddedTo c x r = WordAdded x c.pairs c.odd c.ahead r.pairs r.odd r.ahead

-- the lanes of a group
abbrev pub LanesOf : List ℕ → Columns → Type 0
LanesOf s c =
    GroupLanes s group_bytes c.pairs.left c.odd.left c.ahead.left c.pairs.right c.odd.right c.ahead.right

-- the two sums of a group, by its lanes
abbrev pub TotalsOf : Columns → Totals → Type 0
TotalsOf c r =
    GroupTotals c.pairs.left c.odd.left c.ahead.left c.pairs.right c.odd.right c.ahead.right r.first r.second
