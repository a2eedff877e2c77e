-- The choice of digits that ties the shortest tied beginning of some rows: there is one, and just one.
use mathlib.Core.Path.{◌≡◌, refl, sym, ap, subst, ◌∙◌}
use mathlib.Core.List.{List, []}
use mathlib.Core.Bool.{Bool, true, false, true≢false}
use mathlib.Core.Logic.{◌≢◌, ◌⊎◌, inl, inr}
use Prim.Native.Nat.{ℕ, zero, suc, ◌*◌, ◌%◌, ◌<◌, ◌≤◌}
use native.Mathlib.Nat.{mod-lt, mod-mod, mod-eq_of_lt, eq-or-lt_of_le, zero-lt-suc}
use native.Mathlib.Omega.{arith}
use borrow.Author.Tests.{eq-eqb}
use lib.Dec.{T, eqb, eqb→eq, lit<}
use lib.ListN.{get_or-eq_default}
use lib.Seq.{ext_get_or}
use Rattle.linear_model.specs.Tables.{tabulate}
use Rattle.linear_model.proofs.Tables.{and_left, and_right, and_both, length-tabulate, get_d_tabulate, small-tabulate}
use Rattle.elimination_model.specs.Independence.{some_choice, digit_of, zero_sum, tied, AddsToZero, Independent}
use Rattle.elimination_model.specs.Tie.{least_passing, first_choice, shortest, nonzero_at, leading_digit, ties_from_one, tie_digits}
use Rattle.elimination_model.proofs.Multiples.{combined_congr}
use Rattle.elimination_model.proofs.Choices.{Choice, first_passes, first-none, found_some}
use Rattle.elimination_model.proofs.Independence.{zero_sum_adds, adds_zero_sum, tie_of_lem, tied_list, tie_tied, untied_independent, independent_untied, tied_more}
use Rattle.elimination_model.proofs.Least.{least_within, least_passes, least_before, least_at_most, leading_is, nonzero-not}
use Rattle.elimination_model.proofs.Uniqueness.{Leading, leading_multiple, adds_times, unique}

-- ---- the shortest tied beginning

-- rows that are tied, and with one row less are not
pub shortest_is : (n t r : ℕ) (a : ℕ → ℕ → ℕ) → r < t → tied n r a ≡ false → tied n (suc r) a ≡ true → shortest n t a ≡ suc r
shortest_is n t r a h f g = go (eq-or-lt_of_le (least_at_most t (λ k. tied n k a) (suc r) g))
  where
    go : (shortest n t a ≡ suc r) ⊎ (shortest n t a < suc r) → shortest n t a ≡ suc r
    go (inl e) = e
    go (inr l) =
        absurd (true≢false
        (sym (tied_more n (shortest n t a) r a (omega arith) (least_passes t (λ k. tied n k a) (omega arith))) ∙ f))

-- where t rows are tied, it is the first k + 1 rows: they are tied, and the first k are not
pub shortest-next : (n t : ℕ) (a : ℕ → ℕ → ℕ) → tied n t a ≡ true
    → (k : ℕ) × (shortest n t a ≡ suc k) × (k < t) × (tied n k a ≡ false) × (tied n (suc k) a ≡ true)
shortest-next n t a e = go (shortest n t a) refl
  where
    test : ℕ → Bool
    test k = tied n k a

    most : shortest n t a ≤ t
    most = least_within t test

    there : (shortest n t a ≡ t) ⊎ (shortest n t a < t) → tied n (shortest n t a) a ≡ true
    there (inl p) = ap test p ∙ e
    there (inr l) = least_passes t test l

    go : (s : ℕ) → shortest n t a ≡ s → (k : ℕ) × (shortest n t a ≡ suc k) × (k < t) × (tied n k a ≡ false) × (tied n (suc k) a ≡ true)
    go zero p =
        absurd (true≢false
        (sym (there (eq-or-lt_of_le most)) ∙ ap test p ∙ independent_untied n 0 a (λ d z i l. absurd (omega arith))))
    go (suc k) p =
        (k, p, omega (arith, most), least_before t test k (omega arith), ap test (sym p) ∙ there (eq-or-lt_of_le most))

-- ---- the first digit other than 0

-- where it is 1 by the test, and digit k is 0
leading_of : (k : ℕ) (d : ℕ → ℕ) → d k ≡ 0 → T (eqb (leading_digit k d) 1) → Leading k d
leading_of k d end h =
    record {
      place = first;
      within = inside (eq-or-lt_of_le (least_within k (nonzero_at d)));
      one = ap (λ (x : ℕ). x % 3) one;
      before = λ i l. nonzero-not d i (least_before k (nonzero_at d) i l);
    }
  where
    first : ℕ
    first = least_passing k (nonzero_at d)

    one : d first ≡ 1
    one = eqb→eq (d first) 1 h

    inside : (first ≡ k) ⊎ (first < k) → first < k
    inside (inl e) = absurd (omega (arith, sym one ∙ ap d e ∙ end))
    inside (inr l) = l

-- and the other way round
leading_test : (k : ℕ) (d : ℕ → ℕ) → ((i : ℕ) → d i < 3) → Leading k d → T (eqb (leading_digit k d) 1)
leading_test k d small x = rw (eq-eqb (leading_digit k d) 1 (ap d first ∙ sym (mod-eq_of_lt (small x.place)) ∙ x.one)) tt
  where
    first : least_passing k (nonzero_at d) ≡ x.place
    first = leading_is k d x.place x.within (λ z. omega (arith, x.one)) x.before

-- ---- choices

-- k digits, the first other than 0 being 1, that make the first k rows add to zero
pub record TieChoice (n k : ℕ) (a : ℕ → ℕ → ℕ) (d : List ℕ) : Type 0 where
  pub choice : Choice k d
  pub leads : Leading k (digit_of d)
  pub adds : AddsToZero n k a (digit_of d)

-- digits of that kind, as a list
pub choice_of : (n k : ℕ) (a : ℕ → ℕ → ℕ) (d : ℕ → ℕ) → ((i : ℕ) → d i < 3) → Leading k d → AddsToZero n k a d
    → TieChoice n k a (tabulate k d)
choice_of n k a d small x z =
    record {
      choice = record { size = length-tabulate k d; small = small-tabulate 3 k d (lit< tt) small };
      leads = record {
        place = x.place;
        within = x.within;
        one = same x.place x.within ∙ x.one;
        before = λ i l. same i (omega (arith, x.within)) ∙ x.before i l;
      };
      adds = λ j l. combined_congr k (digit_of (tabulate k d)) d a a j same (λ i _. refl) ∙ z j l;
    }
  where
    same : (i : ℕ) → i < k → digit_of (tabulate k d) i % 3 ≡ d i % 3
    same i l = ap (λ (v : ℕ). v % 3) (get_d_tabulate k d i l)

-- digits that make rows add to zero and are not all 0, multiplied by the first other than 0
pub choice_multiple : (n k : ℕ) (a : ℕ → ℕ → ℕ) (d : ℕ → ℕ) → AddsToZero n k a d → (i : ℕ) → i < k → d i % 3 ≢ 0
    → TieChoice n k a (tabulate k (λ m. leading_digit k d * d m % 3))
choice_multiple n k a d z i l h =
    choice_of n k a (λ m. first * d m % 3) (λ m. mod-lt (first * d m) (zero-lt-suc 2))
    (record { place = x.place; within = x.within; one = same x.place ∙ x.one; before = λ m u. same m ∙ x.before m u })
    (λ j u. combined_congr k (λ m. first * d m % 3) (λ m. first * d m) a a j (λ m _. same m) (λ m _. refl) ∙ adds_times n k a first d z j u)
  where
    first : ℕ
    first = leading_digit k d

    x : Leading k (λ m. first * d m)
    x = leading_multiple k d i l h

    same : (m : ℕ) → first * d m % 3 % 3 ≡ first * d m % 3
    same m = mod-mod (first * d m) 3

-- a choice that passes the test is of that kind
passing_choice : (n k : ℕ) (a : ℕ → ℕ → ℕ) (d : List ℕ) → Choice k d → T (ties_from_one n k a d) → TieChoice n k a d
passing_choice n k a d c h =
    record {
      choice = c;
      leads = leading_of k (digit_of d) (get_or-eq_default d 0 (omega (arith, c.size))) (and_left leads adds h);
      adds = zero_sum_adds n k a (digit_of d) (and_right leads adds h);
    }
  where
    leads : Bool
    leads = eqb (leading_digit k (digit_of d)) 1

    adds : Bool
    adds = zero_sum n k a (digit_of d)

-- where there is a choice of that kind, the first that passes is one
first-ties : (n k : ℕ) (a : ℕ → ℕ → ℕ) (d : List ℕ) → TieChoice n k a d → TieChoice n k a (first_choice k (ties_from_one n k a))
first-ties n k a d x =
    let p = first_passes k (ties_from_one n k a) (found_some k (ties_from_one n k a) d x.choice passes) in
    passing_choice n k a (first_choice k (ties_from_one n k a)) p.0 p.1
  where
    passes : T (ties_from_one n k a d)
    passes =
        and_both (eqb (leading_digit k (digit_of d)) 1) (zero_sum n k a (digit_of d))
        (leading_test k (digit_of d) x.choice.small x.leads) (adds_zero_sum n k a (digit_of d) x.adds)

-- ---- the choice that ties the shortest tied beginning

-- it is a choice of that kind
pub tie_digits_lem : (n t : ℕ) (a : ℕ → ℕ → ℕ) → tied n t a ≡ true → TieChoice n (shortest n t a) a (tie_digits n t a)
unfolding tie_digits
tie_digits_lem n t a e =
    let p = shortest-next n t a e in
    let k : ℕ = shortest n t a in
    let x = tied_list n k a (ap (λ (s : ℕ). tied n s a) p.1 ∙ p.4) in
    let d : ℕ → ℕ = digit_of x.0 in
    first-ties n k a (tabulate k (λ m. leading_digit k d * d m % 3))
    (choice_multiple n k a d x.2.adds x.2.place x.2.within (λ z. x.2.nonzero (sym (mod-eq_of_lt (x.2.small x.2.place)) ∙ z)))

-- and every choice of that kind is it
pub tie_digits-only : (n t : ℕ) (a : ℕ → ℕ → ℕ) → tied n t a ≡ true → (d : List ℕ) → TieChoice n (shortest n t a) a d → d ≡ tie_digits n t a
tie_digits-only n t a e d y =
    let p = shortest-next n t a e in
    let x = tie_digits_lem n t a e in
    same p.0 (untied_independent n p.0 a p.3)
    (subst (λ (s : ℕ). TieChoice n s a d) p.1 y) (subst (λ (s : ℕ). TieChoice n s a (tie_digits n t a)) p.1 x)
  where
    same : (k : ℕ) → Independent n k a → TieChoice n (suc k) a d → TieChoice n (suc k) a (tie_digits n t a) → d ≡ tie_digits n t a
    same k free y x =
        ext_get_or 0 d (tie_digits n t a) (y.choice.size ∙ sym x.choice.size)
        (λ i l.
        sym (mod-eq_of_lt (y.choice.small i))
        ∙ unique n k a free (digit_of d) (digit_of (tie_digits n t a)) y.adds x.adds y.leads x.leads i (omega (arith, y.choice.size))
        ∙ mod-eq_of_lt (x.choice.small i))

-- where the rows are not tied it is empty
pub untied_digits : (n t : ℕ) (a : ℕ → ℕ → ℕ) → tied n t a ≡ false → tie_digits n t a ≡ []
unfolding tie_digits
untied_digits n t a e = first-none k test (go (some_choice k test) refl)
  where
    k : ℕ
    k = shortest n t a

    test : List ℕ → Bool
    test = ties_from_one n k a

    go : (b : Bool) → some_choice k test ≡ b → b ≡ false
    go false p = refl
    go true p =
        let q = first_passes k test (rw p tt) in
        let x = passing_choice n k a (first_choice k test) q.0 q.1 in
        sym (tied_more n k t a (least_within t (λ s. tied n s a))
        (tie_tied n k a (tie_of_lem n k a (digit_of (first_choice k test)) x.adds x.leads.place x.leads.within (λ z. omega (arith, x.leads.one)))))
        ∙ e
