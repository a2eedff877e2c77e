-- Laws of packed rows: a zero row is tied, and rows are tied exactly if a list of digits ties them.
use mathlib.Core.Path.{◌≡◌, sym, ap, ◌∙◌}
use mathlib.Core.List.{List}
use mathlib.Core.Bool.{true}
use Prim.Native.Nat.{ℕ, ◌*◌, ◌-◌, ◌%◌, ◌<◌}
use native.Mathlib.Nat.{zero-add}
use native.Mathlib.Omega.{arith}
use lib.Dec.{eqb→eq}
use Rattle.linear_model.specs.Trits.{trit, zero_trit, zero_trits}
use Rattle.linear_model.specs.Products.{rows_from}
use Rattle.linear_model.proofs.Tables.{every-at}
use Rattle.elimination_model.specs.Independence.{digit_of, TieList, trit_at, tied_rows}
use Rattle.elimination_model.proofs.Independence.{tied_list, tie_tied, zero_row_tie}

-- a row whose trits are all 0 ties all rows that it is among
pub zero_row_tied : (m t : ℕ) (rows : List ℕ) (i : ℕ) → i < t → zero_trits m 0 (rows_from m rows i) ≡ true → tied_rows m t rows ≡ true
unfolding zero_trits
zero_row_tied m t rows i l e =
    tie_tied (8 * m) t (trit_at m rows)
    (zero_row_tie (8 * m) t (trit_at m rows) i l
    (λ j k. ap (λ (x : ℕ). x % 3)
    (ap (trit m (rows_from m rows i)) (sym (zero-add j))
    ∙ eqb→eq _ 0 (every-at (8 * m - 0) (zero_trit m 0 (rows_from m rows i)) (rw e tt) j (omega arith)))))

-- rows are tied exactly if a list of digits ties them
pub tied_choice : (m t : ℕ) (rows : List ℕ) → tied_rows m t rows ≡ true → TieList (8 * m) t (trit_at m rows)
tied_choice m t rows = tied_list (8 * m) t (trit_at m rows)

pub choice_tied : (m t : ℕ) (rows : List ℕ) → TieList (8 * m) t (trit_at m rows) → tied_rows m t rows ≡ true
choice_tied m t rows x = tie_tied (8 * m) t (trit_at m rows) (digit_of x.0, x.2)
