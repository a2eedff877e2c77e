-- Rows after a cut that may be past the end.
use mathlib.Core.Path.{◌≡◌}
use mathlib.Core.List.{List}
use Prim.Native.Nat.{ℕ, ◌+◌, ◌-◌, ◌*◌, min}
use lib.ListN.{length, drop}
use Rattle.std.proofs.lemmas.List.{drop_min}
use Rattle.linear_model.specs.Tables.{below}
use Rattle.linear_model.specs.Products.{row_digit}
use Rattle.linear_model.proofs.Internal.Matrix.{row_is}

-- row q + k of t rows: the same of those from byte i on, where row q is, or where that and i are past the end
pub row_after : (m t : ℕ) (rows v : List ℕ) (q i k : ℕ) {left : ℕ} {s : List ℕ} → s ≡ drop i rows → min i (length rows) ≡ min (2 * m * q) (length rows)
    → left ≡ t - q → below left (row_digit m s v) k ≡ below t (row_digit m rows v) (q + k)
row_after m t rows v q i k {left} es ei el =
    rw (es, ← drop_min i rows) (row_is m t rows v q (min i (length rows)) left k ei el)
