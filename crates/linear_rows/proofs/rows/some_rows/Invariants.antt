-- `linear_rows::rows::some_rows` meets its contract. The invariant of its loop: q rows are left, `place` is where row q starts, `hi` has the high bits of the rows from q on, and `all` their low bits and twice `hi`.
use mathlib.Core.Path.{◌≡◌}
use mathlib.Core.List.{List}
use Prim.Native.Nat.{ℕ, ◌-◌, ◌*◌, ◌≤◌}
use lib.ListN.{length}
use Rattle.linear_model.specs.Tables.{from, below}
use Rattle.linear_model.specs.Bits.{from_bits}
use Rattle.linear_model.specs.Trits.{low, high}
use Rattle.linear_model.specs.Products.{row_digit}
use Rattle.linear_rows.proofs.rows.some_rows.Given as goal

-- the digits that the rows give
abbrev pub digits : List ℕ → List ℕ → ℕ → ℕ → ℕ → ℕ
digits rows v m t = below t (row_digit m rows v)

pub record Held (rows v : List ℕ) (m t all hi q : ℕ) : Type 0 where
  pub inside : q ≤ t
  pub twice : 2 * hi ≤ all
  pub low_is : all - 2 * hi ≡ from_bits (t - q) (from q (low (digits rows v m t)))
  pub high_is : hi ≡ from_bits (t - q) (from q (high (digits rows v m t)))

abbrev pub invariant-loop : goal.invariant-loop
invariant-loop l =
    let q = l.t - l.counter in
    (l.place ≡ 2 * l.m * q) × (l.place ≤ length l.rows) × Held l.rows l.v l.m l.t l.all l.hi q
