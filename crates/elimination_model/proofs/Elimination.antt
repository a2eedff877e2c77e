-- Why elimination decides: each turn is a row operation, and a row that has become zero is tied to those before it.
use mathlib.Core.Path.{◌≡◌, refl, sym, ap, ap₂, ◌∙◌}
use mathlib.Core.Bool.{Bool, true, false, cond}
use mathlib.Core.Logic.{◌≢◌, ◌⊎◌, inl, inr}
use Prim.Native.Nat.{ℕ, suc, ◌+◌, ◌*◌, ◌%◌, ◌<◌, ◌≤◌}
use native.Mathlib.Nat.{mod-mod, le_trans, le_refl, eq-or-lt_of_le, le_of_suc-le-suc, mul_assoc, mul-one}
use native.Mathlib.Decide.{dec_lt}
use native.Mathlib.Omega.{arith}
use borrow.Author.Tests.{eq-eqb, ne_eqb, lt-ltb, le-ltb}
use lib.Dec.{eqb}
use Rattle.linear_model.specs.Tables.{one_at}
use Rattle.linear_model.proofs.Tables.{one_there, one_elsewhere}
use Rattle.linear_model.proofs.Sums.{add_congr}
use Rattle.elimination_model.specs.Independence.{tied}
use Rattle.elimination_model.specs.Internal.Elimination.{factor, cleared}
use Rattle.elimination_model.proofs.Residues.{times_congr, times_zero, zero-times, square_one}
use Rattle.elimination_model.proofs.Independence.{zero_row_tie, tie_tied, independent_untied, tied_congr}
use Rattle.elimination_model.proofs.RowOperations.{Pivots, pivots_independent, added-tied}

-- ---- the turns of an elimination

-- after r turns the rows a have become the rows b: r rows have pivots, and every beginning is tied if it was
pub record Reduced (n t : ℕ) (a b : ℕ → ℕ → ℕ) (r : ℕ) : Type 0 where
  pub pivot : ℕ → ℕ
  pub pivots : Pivots n t r b pivot
  pub same : (u : ℕ) → u ≤ t → tied n u a ≡ tied n u b

-- turn r, with pivot column q: row r is added to later rows only, c i times to row i, and they become 0 in column q
pub record Cleared (n t r q : ℕ) (c : ℕ → ℕ) (b b' : ℕ → ℕ → ℕ) : Type 0 where
  pub kept : (i : ℕ) → i ≤ r → c i % 3 ≡ 0
  pub is : (i j : ℕ) → i < t → j < n → b' i j % 3 ≡ (b i j + c i * b r j) % 3
  pub gone : (i : ℕ) → r < i → i < t → b' i q % 3 ≡ 0

-- before the first turn
pub reduced_none : (n t : ℕ) (a : ℕ → ℕ → ℕ) → Reduced n t a a 0
reduced_none n t a =
    record {
      pivot = λ k. 0;
      pivots = record { within = λ k l. absurd (omega arith); nonzero = λ k l. absurd (omega arith); clear = λ k i l. absurd (omega arith) };
      same = λ u l. refl;
    }

-- a row to which nothing is added
kept_row : (n t r q : ℕ) (c : ℕ → ℕ) (b b' : ℕ → ℕ → ℕ) → Cleared n t r q c b b' → (i j : ℕ) → i < t → j < n → i ≤ r → b' i j % 3 ≡ b i j % 3
kept_row n t r q c b b' x i j l k m = x.is i j l k ∙ omega (arith, zero-times (c i) (b r j) (x.kept i m))

-- every beginning is tied after a turn if it was before
cleared-tied : (n t r q : ℕ) (c : ℕ → ℕ) (b b' : ℕ → ℕ → ℕ) → Cleared n t r q c b b' → (u : ℕ) → u ≤ t → tied n u b ≡ tied n u b'
cleared-tied n t r q c b b' x u h = go (dec_lt r u)
  where
    go : Dec (r < u) → tied n u b ≡ tied n u b'
    go (yes l) = added-tied n u r c b b' l (record { own = x.kept r (le_refl r); is = λ i j m k. x.is i j (le_trans m h) k })
    go (no l) = tied_congr n u b b' (λ i j m k. sym (kept_row n t r q c b b' x i j (le_trans m h) k (omega arith)))

-- one turn more
pub reduced_more : (n t r q : ℕ) (c : ℕ → ℕ) (a b b' : ℕ → ℕ → ℕ) → Reduced n t a b r → r < t → q < n → b r q % 3 ≢ 0
    → Cleared n t r q c b b' → Reduced n t a b' (suc r)
reduced_more n t r q c a b b' x h w v y =
    record {
      pivot = at;
      pivots = record { within = within; nonzero = nonzero; clear = clear };
      same = λ u l. x.same u l ∙ cleared-tied n t r q c b b' y u l;
    }
  where
    p : Pivots n t r b x.pivot
    p = x.pivots

    at : ℕ → ℕ
    at k = cond (eqb k r) q (x.pivot k)

    new : (k : ℕ) → k ≡ r → at k ≡ q
    new k e = rw (eq-eqb k r e)

    old : (k : ℕ) → k < r → at k ≡ x.pivot k
    old k l = rw (ne_eqb k r (omega arith))

    split : (k : ℕ) → k < suc r → (k ≡ r) ⊎ (k < r)
    split k l = eq-or-lt_of_le (le_of_suc-le-suc l)

    within : (k : ℕ) → k < suc r → at k < n
    within k l = go (split k l)
      where
        go : (k ≡ r) ⊎ (k < r) → at k < n
        go (inl e) = omega (arith, new k e)
        go (inr m) = omega (arith, old k m, p.within k m)

    nonzero : (k : ℕ) → k < suc r → b' k (at k) % 3 ≢ 0
    nonzero k l = go (split k l)
      where
        go : (k ≡ r) ⊎ (k < r) → b' k (at k) % 3 ≢ 0
        go (inl e) =
            λ z. v (sym (kept_row n t r q c b b' y r q h w (le_refl r)) ∙ ap₂ (λ (i j : ℕ). b' i j % 3) (sym e) (sym (new k e)) ∙ z)
        go (inr m) =
            λ z. p.nonzero k m
            (sym (kept_row n t r q c b b' y k (x.pivot k) (omega arith) (p.within k m) (omega arith))
            ∙ ap (λ (j : ℕ). b' k j % 3) (sym (old k m)) ∙ z)

    clear : (k i : ℕ) → k < suc r → k < i → i < t → b' i (at k) % 3 ≡ 0
    clear k i l m u = go (split k l)
      where
        go : (k ≡ r) ⊎ (k < r) → b' i (at k) % 3 ≡ 0
        go (inl e) = ap (λ (j : ℕ). b' i j % 3) (new k e) ∙ y.gone i (omega arith) u
        go (inr o) =
            ap (λ (j : ℕ). b' i j % 3) (old k o) ∙ y.is i (x.pivot k) u (p.within k o)
            ∙ omega (arith, p.clear k i o m u, times_zero (c i) (b r (x.pivot k)) (p.clear k r o o h))

-- the rows that had their turn are not tied
pub reduced_untied : (n t r : ℕ) (a b : ℕ → ℕ → ℕ) → Reduced n t a b r → r ≤ t → tied n r a ≡ false
reduced_untied n t r a b x h = x.same r h ∙ independent_untied n r b (pivots_independent n t r b x.pivot h x.pivots)

-- a zero row is tied to the rows before it
pub reduced_zero : (n t r : ℕ) (a b : ℕ → ℕ → ℕ) → Reduced n t a b r → r < t → ((j : ℕ) → j < n → b r j % 3 ≡ 0) → tied n (suc r) a ≡ true
reduced_zero n t r a b x h z = x.same (suc r) h ∙ tie_tied n (suc r) b (zero_row_tie n (suc r) b r (le_refl (suc r)) z)

-- ---- a turn as a function of the rows

-- it clears
pub cleared_clears : (n t r q : ℕ) (b : ℕ → ℕ → ℕ) → b r q % 3 ≢ 0 → Cleared n t r q (factor r q b) b (cleared r q b)
cleared_clears n t r q b v =
    record {
      kept = λ i l. ap (λ (x : Bool). cond x (2 * (b i q * b r q)) 0 % 3) (le-ltb r i l);
      is = λ i j _ _. mod-mod (b i j + factor r q b i * b r j) 3;
      gone = gone;
    }
  where
    third : (x : ℕ) → (x + 2 * x) % 3 ≡ 0
    third x = omega arith

    gone : (i : ℕ) → r < i → i < t → cleared r q b i q % 3 ≡ 0
    gone i l _ =
        mod-mod (b i q + factor r q b i * b r q) 3
        ∙ ap (λ (x : Bool). (b i q + cond x (2 * (b i q * b r q)) 0 * b r q) % 3) (lt-ltb r i l)
        ∙ add_congr 3 (b i q) (2 * (b i q * b r q) * b r q) (b i q) (2 * b i q) refl (square (b i q) (b r q) v)
        ∙ third (b i q)
      where
        square : (x y : ℕ) → y % 3 ≢ 0 → 2 * (x * y) * y % 3 ≡ 2 * x % 3
        square x y h =
            ap (λ (z : ℕ). z % 3) (ap (λ (z : ℕ). z * y) (sym (mul_assoc 2 x y)) ∙ mul_assoc (2 * x) y y)
            ∙ times_congr (2 * x) (y * y) (2 * x) 1 refl (square_one y h) ∙ ap (λ (z : ℕ). z % 3) (mul-one (2 * x))

-- ---- the diagonal

-- the diagonal rows are not tied
pub diagonal_untied : (n t : ℕ) → t ≤ n → tied n t one_at ≡ false
diagonal_untied n t h =
    independent_untied n t one_at
    (pivots_independent n t t one_at (λ k. k) (le_refl t)
    (record {
      within = λ k l. le_trans l h;
      nonzero = λ k l. (λ z. omega (arith, one_there k));
      clear = λ k i l m u. ap (λ (x : ℕ). x % 3) (one_elsewhere i k (omega arith));
    }))
