-- Rows that carry their combinations: a turn does the same to both, and the combination of the first zero row is the tie of the shortest tied beginning.
use mathlib.Core.Path.{◌≡◌, refl, sym, ap, ◌∙◌}
use mathlib.Core.Bool.{false}
use Prim.Native.Nat.{ℕ, suc, ◌+◌, ◌-◌, ◌*◌, ◌%◌, ◌<◌, ◌≤◌}
use native.Mathlib.Nat.{le_refl}
use native.Mathlib.Decide.{dec_lt}
use native.Mathlib.Omega.{arith}
use Rattle.linear_model.specs.Tables.{sum, tabulate, one_at}
use Rattle.linear_model.proofs.Tables.{one_there, one_elsewhere}
use Rattle.linear_model.proofs.Sums.{sum_split, sum-zero, sum_congr, add_congr, mul_congr}
use Rattle.elimination_model.specs.Independence.{multiple, combined, tied, AddsToZero}
use Rattle.elimination_model.specs.Tie.{leading_digit, entries_from, tie_bytes}
use Rattle.elimination_model.specs.Internal.Elimination.{Carried}
use Rattle.elimination_model.proofs.Residues.{times_zero, zero-times}
use Rattle.elimination_model.proofs.Multiples.{combined_congr, combined_plus, combined-times}
use Rattle.elimination_model.proofs.Independence.{combined-one}
use Rattle.elimination_model.proofs.Elimination.{Cleared}
use Rattle.elimination_model.proofs.TieBytes.{combination_tie}

-- before the first turn each row is itself
pub carried_start : (n t : ℕ) (a b e : ℕ → ℕ → ℕ) → ((i j : ℕ) → i < t → j < n → b i j % 3 ≡ a i j % 3)
    → ((i k : ℕ) → i < t → k < t → e i k ≡ one_at i k) → Carried n t a b e
carried_start n t a b e p q =
    record {
      front = λ i j l k.
          p i j l k ∙ ap (λ (x : ℕ). x % 3) (sym (combined-one t i a j l))
          ∙ combined_congr t (one_at i) (e i) a a j (λ m u. ap (λ (x : ℕ). x % 3) (sym (q i m l u))) (λ m _. refl);
      lower = λ i k l m h. ap (λ (x : ℕ). x % 3) (q i k l h ∙ one_elsewhere i k (omega arith));
      own = λ i l z. omega (arith, q i i l l ∙ one_there i);
    }

-- a turn does the same to the combinations as to the rows
pub carried_more : (n t r q : ℕ) (c : ℕ → ℕ) (a b b' e e' : ℕ → ℕ → ℕ) → r < t → Carried n t a b e → Cleared n t r q c b b'
    → ((i k : ℕ) → i < t → k < t → e' i k % 3 ≡ (e i k + c i * e r k) % 3) → Carried n t a b' e'
carried_more n t r q c a b b' e e' h x y p =
    record {
      front = front;
      lower = λ i k l m u. p i k l u ∙ omega (arith, x.lower i k l m u, later i k u (omega arith));
      own = λ i l z. x.own i l (omega (arith, p i i l l, later i i l (le_refl i), z));
    }
  where
    -- nothing is added at row i or after it
    later : (i k : ℕ) → k < t → i ≤ k → c i * e r k % 3 ≡ 0
    later i k l m = go (dec_lt r i)
      where
        go : Dec (r < i) → c i * e r k % 3 ≡ 0
        go (yes u) = times_zero (c i) (e r k) (x.lower r k h (omega arith) l)
        go (no u) = zero-times (c i) (e r k) (y.kept i (omega arith))

    front : (i j : ℕ) → i < t → j < n → b' i j % 3 ≡ combined t a (e' i) j
    front i j l k =
        y.is i j l k
        ∙ add_congr 3 (b i j) (c i * b r j) (sum t (multiple a (e i) j)) (c i * sum t (multiple a (e r) j)) (x.front i j l k)
        (mul_congr 3 (c i) (b r j) (sum t (multiple a (e r) j)) (x.front r j h k))
        ∙ ap (λ (v : ℕ). v % 3)
        (sym (combined_plus t (e i) (λ m. c i * e r m) a j ∙ ap (λ (v : ℕ). sum t (multiple a (e i) j) + v) (combined-times t (c i) (e r) a j)))
        ∙ combined_congr t (λ m. e i m + c i * e r m) (e' i) a a j (λ m u. sym (p i m l u)) (λ m _. refl)

-- the combination of a zero row makes the rows up to it add to zero
carried_adds : (n t r : ℕ) (a b e : ℕ → ℕ → ℕ) → r < t → Carried n t a b e → ((j : ℕ) → j < n → b r j % 3 ≡ 0) → AddsToZero n (suc r) a (e r)
carried_adds n t r a b e h x z j l =
    omega (arith, ap (λ (v : ℕ). sum v (multiple a (e r) j)) whole ∙ sum_split (suc r) (t - suc r) (multiple a (e r) j), nothing, x.front r j h l, z j l)
  where
    whole : t ≡ suc r + (t - suc r)
    whole = omega arith

    rest : ℕ → ℕ
    rest i = multiple a (e r) j (suc r + i)

    nothing : sum (t - suc r) rest % 3 ≡ 0
    nothing =
        sum_congr 3 (t - suc r) rest (λ i. 0)
        (λ i u. zero-times (e r (suc r + i)) (a (suc r + i) j) (x.lower r (suc r + i) h (omega arith) (omega arith)))
        ∙ ap (λ (v : ℕ). v % 3) (sum-zero (t - suc r) (λ i. 0) (λ i _. refl))

-- the combination of the first zero row, multiplied by its first digit other than 0, is the tie
pub carried_tie : (n t r : ℕ) (a b e : ℕ → ℕ → ℕ) → r < t → Carried n t a b e → ((j : ℕ) → j < n → b r j % 3 ≡ 0) → tied n r a ≡ false
    → entries_from 0 (tabulate (suc r) (λ k. leading_digit (suc r) (e r) * e r k % 3)) ≡ tie_bytes n t a
carried_tie n t r a b e h x z f = combination_tie n t r a (e r) h f (carried_adds n t r a b e h x z) (x.own r h)
