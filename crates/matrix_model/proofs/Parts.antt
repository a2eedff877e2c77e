-- Laws of a part of a list.
use mathlib.Core.Path.{◌≡◌, sym, ◌∙◌}
use mathlib.Core.List.{List}
use Prim.Native.Nat.{ℕ, ◌+◌, ◌<◌, ◌≤◌}
use native.Mathlib.Omega.{arith}
use lib.ListN.{length, get_or, take, drop, length-drop}
use lib.Seq.{get_or-take, get_or-drop, length-take-le}
use Rattle.linear_model.specs.Tables.{tabulate}
use Rattle.linear_model.proofs.Tables.{tabulate_ext, tabulate_get_d}

-- n elements from index at on
pub length_part : (n at : ℕ) (s : List ℕ) → at + n ≤ length s → length (take n (drop at s)) ≡ n
length_part n at s h = length-take-le n (drop at s) (rw length-drop (omega arith))

pub get_d_part : (n at : ℕ) (s : List ℕ) (i : ℕ) → i < n → get_or (take n (drop at s)) i 0 ≡ get_or s (at + i) 0
get_d_part n at s i h = get_or-take n (drop at s) i 0 h ∙ get_or-drop at s i 0

-- a list is a table of what it has at each place
pub table_of : (s : List ℕ) (k : ℕ) (f : ℕ → ℕ) → length s ≡ k → ((i : ℕ) → i < k → get_or s i 0 ≡ f i) → s ≡ tabulate k f
table_of s k f e h = sym (tabulate_get_d s) ∙ rw e (tabulate_ext k (λ i. get_or s i 0) f h)

-- parts that agree are equal
pub same_part : (n i j : ℕ) (s t : List ℕ) → i + n ≤ length s → j + n ≤ length t → ((k : ℕ) → k < n → get_or s (i + k) 0 ≡ get_or t (j + k) 0)
    → take n (drop i s) ≡ take n (drop j t)
same_part n i j s t h l e =
    table_of (take n (drop i s)) n (λ k. get_or t (j + k) 0) (length_part n i s h) (λ k q. get_d_part n i s k q ∙ e k q)
    ∙ sym (table_of (take n (drop j t)) n (λ k. get_or t (j + k) 0) (length_part n j t l) (λ k q. get_d_part n j t k q))
