-- A turn of the elimination, a function of the rows, and rows that carry the combination of the rows as loaded that they have become.
use Rattle.std.specs.Prelude.{ℕ, ◌+◌, ◌-◌, ◌*◌, ◌%◌, ◌<◌, ◌≡◌, ◌≢◌, cond, ltb}
use Rattle.linear_model.specs.Tables.{one_at}
use Rattle.elimination_model.specs.Independence.{combined}

-- how often row r is added to a later row i, so that row i becomes 0 in column q
abbrev pub factor : ℕ → ℕ → (ℕ → ℕ → ℕ) → ℕ → ℕ
factor r q b i = cond (ltb r i) (2 * (b i q * b r q)) 0

-- the rows, with row r added so to every later row
abbrev pub cleared : ℕ → ℕ → (ℕ → ℕ → ℕ) → ℕ → ℕ → ℕ
cleared r q b i j = (b i j + factor r q b i * b r j) % 3

-- row i of b is the sum of the rows a multiplied by the digits e i; row i itself is in it, and no later row
pub record Carried (n t : ℕ) (a b e : ℕ → ℕ → ℕ) : Type 0 where
  pub front : (i j : ℕ) → i < t → j < n → b i j % 3 ≡ combined t a (e i) j
  pub lower : (i k : ℕ) → i < t → i < k → k < t → e i k % 3 ≡ 0
  pub own : (i : ℕ) → i < t → e i i % 3 ≢ 0

-- the rows a of n columns, and behind these the diagonal, in which each carries the combination that it is: itself alone
abbrev pub with_diagonal : ℕ → (ℕ → ℕ → ℕ) → ℕ → ℕ → ℕ
with_diagonal n a i j = cond (ltb j n) (a i j) (one_at i (j - n))
