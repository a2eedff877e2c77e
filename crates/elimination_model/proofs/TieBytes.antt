-- The tie of the shortest tied beginning as a list of bytes (W-205): it is a tie, none of its rows may be left out, and there is no other.
use mathlib.Core.Path.{◌≡◌, refl, sym, ap, subst, ◌∙◌}
use mathlib.Core.List.{List, [], ◌∷◌}
use mathlib.Core.Bool.{Bool, true, false, cond}
use mathlib.Core.Logic.{◌≢◌}
use Prim.Native.Nat.{ℕ, suc, ◌+◌, ◌-◌, ◌*◌, ◌%◌, ◌<◌, ◌≤◌}
use native.Mathlib.Nat.{le_refl, zero-add}
use native.Mathlib.Omega.{arith}
use borrow.Author.Tests.{ltb-true, ltb-false}
use lib.Dec.{ltb}
use lib.ListN.{length, get_or}
use Rattle.linear_model.specs.Tables.{tabulate}
use Rattle.elimination_model.specs.Independence.{digit_of, tied, AddsToZero, Independent}
use Rattle.elimination_model.specs.Tie.{shortest, leading_digit, tie_digits, entries_from, tie_bytes, entry_count, digit_for, TieEntries, other_rows, OnlyTie}
use Rattle.elimination_model.proofs.Multiples.{combined_congr}
use Rattle.elimination_model.proofs.Independence.{tie_of_lem, tie_tied, independent_untied, untied_independent, tied_more, tied_congr}
use Rattle.elimination_model.proofs.Uniqueness.{all_zero, minimal}
use Rattle.elimination_model.proofs.TieDigits.{TieChoice, shortest-next, shortest_is, choice_of, choice_multiple, tie_digits_lem, tie_digits-only, untied_digits}
use Rattle.elimination_model.proofs.TieEntries.{entries_even, entries_rising, entries-digit, entries-first, rising_small, rising_leading, digits_entries, row_within, rows_once, row_digit_lem}

-- ---- the list is a tie, and the only one

-- it names rising rows, the first digit is 1, and the rows add to zero
tie_entries : (n t : ℕ) (a : ℕ → ℕ → ℕ) → tied n t a ≡ true → TieEntries n (shortest n t a) a (tie_bytes n t a)
unfolding tie_bytes
tie_entries n t a e =
    let x = tie_digits_lem n t a e in
    let d : List ℕ = tie_digits n t a in
    let k : ℕ = shortest n t a in
    let size : 0 + length d ≡ k = zero-add (length d) ∙ x.choice.size in
    record {
      rising = entries_rising k 0 d x.choice.small size;
      first_one = entries-first 0 d x.leads.place x.choice.small x.leads.one x.leads.before;
      adds = λ j l.
          combined_congr k (digit_for (entries_from 0 d)) (digit_of d) a a j
          (λ i _. ap (λ (v : ℕ). v % 3) (ap (digit_for (entries_from 0 d)) (sym (zero-add i)) ∙ entries-digit k 0 d x.choice.small size i))
          (λ i _. refl)
          ∙ x.adds j l;
    }

-- every such list is it
tie_entries_only : (n t : ℕ) (a : ℕ → ℕ → ℕ) → tied n t a ≡ true
    → (list : List ℕ) → TieEntries n (shortest n t a) a list → list ≡ tie_bytes n t a
unfolding tie_bytes
tie_entries_only n t a e list y =
    let k : ℕ = shortest n t a in
    sym (digits_entries k k 0 list y.rising (zero-add k) (digit_for list) (λ m. ap (digit_for list) (sym (zero-add m))))
    ∙ ap (entries_from 0)
    (tie_digits-only n t a e (tabulate k (digit_for list))
    (choice_of n k a (digit_for list) (rising_small y.rising) (rising_leading y.rising y.first_one) y.adds))

-- the i-th of the numbers other than e, by cases
other_cases : (e i : ℕ) (P : ℕ → Type 0) → (i < e → P i) → (e ≤ i → P (suc i)) → P (cond (ltb i e) i (suc i))
other_cases e i P f g = go (ltb i e) refl
  where
    go : (b : Bool) → ltb i e ≡ b → P (cond b i (suc i))
    go true p = f (ltb-true i e p)
    go false p = g (ltb-false i e p)

-- without the row of one entry the others are not tied
tie_needed : (n k : ℕ) (a : ℕ → ℕ → ℕ) (list : List ℕ) → Independent n k a → TieEntries n (suc k) a list
    → (e : ℕ) → e < entry_count list → tied n (entry_count list - 1) (other_rows a list e) ≡ false
tie_needed n k a list free x e l =
    independent_untied n (entry_count list - 1) (other_rows a list e)
    (minimal n k a free (digit_for list) x.adds (row e) (row_within x.rising e l).1 (row_digit_lem x.rising e l)
    (entry_count list - 1) (λ i. row (other i))
    (λ i u. (row_within x.rising (other i) (inside i u)).1)
    (λ i u q. not_e i (rows_once x.rising (other i) e (inside i u) l q))
    (λ i m u v q. once i m (rows_once x.rising (other i) (other m) (inside i u) (inside m v) q)))
  where
    row : ℕ → ℕ
    row i = get_or list (2 * i) 0

    other : ℕ → ℕ
    other i = cond (ltb i e) i (suc i)

    inside : (i : ℕ) → i < entry_count list - 1 → other i < entry_count list
    inside i u = other_cases e i (λ s. s < entry_count list) (λ _. omega arith) (λ _. omega arith)

    not_e : (i : ℕ) → other i ≢ e
    not_e i = other_cases e i (λ s. s ≢ e) (λ u q. omega arith) (λ u q. omega arith)

    once : (i m : ℕ) → other i ≡ other m → i ≡ m
    once i m =
        other_cases e i (λ s. s ≡ other m → i ≡ m)
        (λ u. other_cases e m (λ s. i ≡ s → i ≡ m) (λ v q. q) (λ v q. omega arith))
        (λ u. other_cases e m (λ s. suc i ≡ s → i ≡ m) (λ v q. omega arith) (λ v q. omega arith))

-- its last row is the last of the beginning
tie_last : (n k : ℕ) (a : ℕ → ℕ → ℕ) (list : List ℕ) → Independent n k a → TieEntries n (suc k) a list → digit_for list k ≢ 0
tie_last n k a list free x z =
    let y = rising_leading x.rising x.first_one in
    omega (arith, y.one, all_zero n k a free (digit_for list) x.adds (ap (λ (d : ℕ). d % 3) z) y.place y.within)

-- the theorem of W-205
pub tie_only : (n t : ℕ) (a : ℕ → ℕ → ℕ) → tied n t a ≡ true → OnlyTie n t a (tie_bytes n t a)
tie_only n t a e =
    let p = shortest-next n t a e in
    let x = tie_entries n t a e in
    let y = subst (λ (s : ℕ). TieEntries n s a (tie_bytes n t a)) p.1 x in
    let free = untied_independent n p.0 a p.3 in
    let end : shortest n t a - 1 ≡ p.0 = omega (arith, p.1) in
    record {
      is = record { entries = x; needed = tie_needed n p.0 a (tie_bytes n t a) free y };
      last = rw end (tie_last n p.0 a (tie_bytes n t a) free y);
      only = tie_entries_only n t a e;
    }

-- rows that are not tied have none
pub untied_empty : (n t : ℕ) (a : ℕ → ℕ → ℕ) → tied n t a ≡ false → tie_bytes n t a ≡ []
unfolding tie_bytes entries_from
untied_empty n t a e = ap (entries_from 0) (untied_digits n t a e)

-- ---- equal rows

-- rows that agree modulo 3 have the same tie
pub tie_bytes_congr : (n t : ℕ) (a b : ℕ → ℕ → ℕ) → ((i j : ℕ) → i < t → j < n → a i j % 3 ≡ b i j % 3) → tie_bytes n t a ≡ tie_bytes n t b
tie_bytes_congr n t a b h = go (tied n t a) refl
  where
    same : (k : ℕ) → k ≤ t → tied n k b ≡ tied n k a
    same k l = sym (tied_congr n k a b (λ i j u. h i j (omega arith)))

    go : (c : Bool) → tied n t a ≡ c → tie_bytes n t a ≡ tie_bytes n t b
    go false e = untied_empty n t a e ∙ sym (untied_empty n t b (same t (omega arith) ∙ e))
    go true e =
        let p = shortest-next n t a e in
        let x = tie_entries n t a e in
        let k : shortest n t a ≡ shortest n t b =
        p.1 ∙ sym (shortest_is n t p.0 b p.2 (same p.0 (omega (arith, p.2)) ∙ p.3) (same (suc p.0) p.2 ∙ p.4)) in
        tie_entries_only n t b (same t (omega arith) ∙ e) (tie_bytes n t a)
        (subst (λ (s : ℕ). TieEntries n s b (tie_bytes n t a)) k
        (record {
          rising = x.rising;
          first_one = x.first_one;
          adds = λ j l.
              combined_congr (shortest n t a) (digit_for (tie_bytes n t a)) (digit_for (tie_bytes n t a)) b a j (λ i _. refl)
              (λ i u. sym (h i j (omega (arith, p.1, p.2)) l))
              ∙ x.adds j l;
        }))

-- ---- its length

-- an entry at least, where the rows are tied
pub tie_bytes_some : (n t : ℕ) (a : ℕ → ℕ → ℕ) → tied n t a ≡ true → 0 < entry_count (tie_bytes n t a)
tie_bytes_some n t a e = go (tie_bytes n t a) (tie_entries n t a e).first_one
  where
    go : (list : List ℕ) → get_or list 1 0 ≡ 1 → 0 < entry_count list
    go [] p = absurd (omega arith)
    go (x ∷ []) p = absurd (omega arith)
    go (x ∷ y ∷ list) p = omega arith

-- two bytes to an entry
pub tie_bytes_even : (n t : ℕ) (a : ℕ → ℕ → ℕ) → 2 * entry_count (tie_bytes n t a) ≡ length (tie_bytes n t a)
unfolding tie_bytes
tie_bytes_even n t a = entries_even 0 (tie_digits n t a)

-- ---- a combination

-- digits that make rows 0 to r add to zero, not 0 at row r, where the rows before it are not tied: multiplied by the first other than 0 they are the tie
pub combination_tie : (n t r : ℕ) (a : ℕ → ℕ → ℕ) (d : ℕ → ℕ) → r < t → tied n r a ≡ false → AddsToZero n (suc r) a d → d r % 3 ≢ 0
    → entries_from 0 (tabulate (suc r) (λ k. leading_digit (suc r) d * d k % 3)) ≡ tie_bytes n t a
unfolding tie_bytes
combination_tie n t r a d l f adds h =
    ap (entries_from 0)
    (tie_digits-only n t a (tied_more n (suc r) t a l tie) digits
    (subst (λ (k : ℕ). TieChoice n k a digits) (sym (shortest_is n t r a l f tie)) (choice_multiple n (suc r) a d adds r (le_refl (suc r)) h)))
  where
    digits : List ℕ
    digits = tabulate (suc r) (λ k. leading_digit (suc r) d * d k % 3)

    tie : tied n (suc r) a ≡ true
    tie = tie_tied n (suc r) a (tie_of_lem n (suc r) a d adds r (le_refl (suc r)) h)
