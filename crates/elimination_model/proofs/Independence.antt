-- Rows are tied exactly if there is a choice that ties them, and else they are independent; zero rows, more rows, fewer columns.
use mathlib.Core.Path.{◌≡◌, refl, sym, ap, ◌∙◌}
use mathlib.Core.List.{List}
use mathlib.Core.Bool.{Bool, true, false, not, ◌&&◌, true≢false, false≢true}
use mathlib.Core.Logic.{◌≢◌, ◌⊎◌, inl, inr}
use Prim.Native.Nat.{ℕ, zero, suc, ◌+◌, ◌-◌, ◌*◌, ◌%◌, ◌<◌, ◌≤◌}
use native.Mathlib.Nat.{mod-lt, mod-mod, le_trans, le_refl, le_step, zero-lt-suc, zero-mul, one-mul}
use native.Mathlib.Decide.{ℕ_discrete}
use native.Mathlib.Omega.{arith}
use borrow.Author.Tests.{eq-eqb, lt-ltb}
use lib.Dec.{T, T_not, not_T, eqb, eqb→eq, lit<}
use Rattle.linear_model.specs.Tables.{sum, every, tabulate, below, one_at}
use Rattle.linear_model.proofs.Tables.{bool_ext, and_left, and_right, and_both, every-at, every_of, length-tabulate, get_d_tabulate, small-tabulate, below_past, one_there, one_elsewhere}
use Rattle.linear_model.proofs.Sums.{sum_ext, sum_zeros, sum_one}
use Rattle.elimination_model.specs.Independence.{some_choice, digit_of, zero_at, not_all_zero, multiple, combined, zero_sum, ties, tied, AddsToZero, Tie, TieList, Independent}
use Rattle.elimination_model.specs.Tie.{first_choice}
use Rattle.elimination_model.proofs.Multiples.{combined_congr}
use Rattle.elimination_model.proofs.Choices.{first_passes, found_some}

-- ---- tests and facts

-- a test that passes is true
is_true : (b : Bool) → T b → b ≡ true
is_true b t = bool_ext b true (λ _. tt) (λ _. t)

-- where two tests do not both hold, one fails
not_cases : (a b : Bool) → T (not (a && b)) → T (not a) ⊎ T (not b)
not_cases true b t = inr t
not_cases false b t = inl tt

-- a test that does not hold everywhere fails at some place
pub fails_somewhere : (n : ℕ) (p : ℕ → Bool) → T (not (every n p)) → (i : ℕ) × (i < n) × T (not (p i))
unfolding every
fails_somewhere zero p h = absurd h
fails_somewhere (suc n) p h = go (fails_somewhere n p) (not_cases (every n p) (p n) h)
  where
    go : (T (not (every n p)) → (i : ℕ) × (i < n) × T (not (p i))) → T (not (every n p)) ⊎ T (not (p n)) → (i : ℕ) × (i < suc n) × T (not (p i))
    go f (inl t) = let r = f t in (r.0, le_step r.1, r.2)
    go f (inr t) = (n, le_refl (suc n), t)

-- rows that add to zero by the test do so in each column
pub zero_sum_adds : (n t : ℕ) (a : ℕ → ℕ → ℕ) (d : ℕ → ℕ) → T (zero_sum n t a d) → AddsToZero n t a d
zero_sum_adds n t a d h j l = eqb→eq (combined t a d j) 0 (every-at n (zero_at (combined t a d)) h j l)

-- and the other way round
pub adds_zero_sum : (n t : ℕ) (a : ℕ → ℕ → ℕ) (d : ℕ → ℕ) → AddsToZero n t a d → T (zero_sum n t a d)
adds_zero_sum n t a d z = every_of n (zero_at (combined t a d)) (λ j l. rw (eq-eqb (combined t a d j) 0 (z j l)) tt)

-- ---- tied exactly if there is a choice

-- a choice that ties, of any numbers that are not all 0 modulo 3
pub tie_of_lem : (n t : ℕ) (a : ℕ → ℕ → ℕ) (d : ℕ → ℕ) → AddsToZero n t a d → (i : ℕ) → i < t → d i % 3 ≢ 0 → Tie n t a
tie_of_lem n t a d z i l h = (
  λ k. d k % 3,
  record {
    small = λ k. mod-lt (d k) (zero-lt-suc 2);
    place = i;
    within = l;
    nonzero = h;
    adds = λ j k. combined_congr t (λ k. d k % 3) d a a j (λ k _. mod-mod (d k) 3) (λ k _. refl) ∙ z j k;
  },
)

-- rows that are tied are tied by a list of digits
pub tied_list : (n t : ℕ) (a : ℕ → ℕ → ℕ) → tied n t a ≡ true → TieList n t a
unfolding tied
tied_list n t a e =
    let choice : List ℕ = first_choice t (ties n t a) in
    let p = first_passes t (ties n t a) (rw e tt) in
    let d : ℕ → ℕ = digit_of choice in
    let w = fails_somewhere t (zero_at d) (and_left (not_all_zero t d) (zero_sum n t a d) p.1) in (
      choice,
      p.0.size,
      record {
        small = p.0.small;
        place = w.0;
        within = w.1;
        nonzero = λ q. T_not (eqb (d w.0) 0) w.2 (rw (eq-eqb (d w.0) 0 q) tt);
        adds = zero_sum_adds n t a d (and_right (not_all_zero t d) (zero_sum n t a d) p.1);
      },
    )

tied_tie : (n t : ℕ) (a : ℕ → ℕ → ℕ) → tied n t a ≡ true → Tie n t a
tied_tie n t a e = let p = tied_list n t a e in (digit_of p.0, p.2)

-- what ties is found
pub tie_tied : (n t : ℕ) (a : ℕ → ℕ → ℕ) → Tie n t a → tied n t a ≡ true
unfolding tied
tie_tied n t a x =
    is_true (some_choice t (ties n t a))
    (found_some t (ties n t a) list (record { size = length-tabulate t x.0; small = small-tabulate 3 t x.0 (lit< tt) x.1.small })
    (and_both (not_all_zero t (digit_of list)) (zero_sum n t a (digit_of list)) some adding))
  where
    list : List ℕ
    list = tabulate t x.0

    same : (i : ℕ) → i < t → digit_of list i ≡ x.0 i
    same = get_d_tabulate t x.0

    some : T (not_all_zero t (digit_of list))
    some =
        not_T (every t (zero_at (digit_of list)))
        (λ h. x.1.nonzero (sym (same x.1.place x.1.within) ∙ eqb→eq (digit_of list x.1.place) 0 (every-at t (zero_at (digit_of list)) h x.1.place x.1.within)))

    adding : T (zero_sum n t a (digit_of list))
    adding =
        adds_zero_sum n t a (digit_of list)
        (λ j l. combined_congr t (digit_of list) x.0 a a j (λ i k. ap (λ (v : ℕ). v % 3) (same i k)) (λ i _. refl) ∙ x.1.adds j l)

-- ---- tied or independent

-- rows that a choice ties are not independent
tie_dependent : (n t : ℕ) (a : ℕ → ℕ → ℕ) → Tie n t a → Independent n t a → ⊥
tie_dependent n t a x f =
    x.1.nonzero (omega (arith, f x.0 x.1.adds x.1.place x.1.within, x.1.small x.1.place))

-- independent rows are not tied
pub independent_untied : (n t : ℕ) (a : ℕ → ℕ → ℕ) → Independent n t a → tied n t a ≡ false
independent_untied n t a f = go (tied n t a) refl
  where
    go : (b : Bool) → tied n t a ≡ b → b ≡ false
    go false e = refl
    go true e = absurd (tie_dependent n t a (tied_tie n t a e) f)

-- rows that are not tied are independent
pub untied_independent : (n t : ℕ) (a : ℕ → ℕ → ℕ) → tied n t a ≡ false → Independent n t a
untied_independent n t a e d z i l = go (ℕ_discrete (d i % 3) 0)
  where
    go : Dec (d i % 3 ≡ 0) → d i % 3 ≡ 0
    go (yes p) = p
    go (no h) = absurd (false≢true (sym e ∙ tie_tied n t a (tie_of_lem n t a d z i l h)))

-- rows are tied where others are, if these are independent where they are
tied_through : (n t m u : ℕ) (a b : ℕ → ℕ → ℕ) → (Independent m u b → Independent n t a) → tied n t a ≡ true → tied m u b ≡ true
tied_through n t m u a b f e = go (tied m u b) refl
  where
    go : (c : Bool) → tied m u b ≡ c → c ≡ true
    go true q = refl
    go false q = absurd (true≢false (sym e ∙ independent_untied n t a (f (untied_independent m u b q))))

-- rows that are independent together are tied together
pub tied_same : (n t m u : ℕ) (a b : ℕ → ℕ → ℕ) → (Independent n t a → Independent m u b) → (Independent m u b → Independent n t a)
    → tied n t a ≡ tied m u b
tied_same n t m u a b f g = go (tied n t a) (tied m u b) refl refl
  where
    go : (x y : Bool) → tied n t a ≡ x → tied m u b ≡ y → x ≡ y
    go true true p q = refl
    go false false p q = refl
    go true false p q = sym (tied_through n t m u a b g p) ∙ q
    go false true p q = sym p ∙ tied_through m u n t b a f q

-- ---- zero rows, more rows, fewer columns, equal rows

-- a sum of one row
pub combined-one : (t r : ℕ) (a : ℕ → ℕ → ℕ) (j : ℕ) → r < t → sum t (multiple a (one_at r) j) ≡ a r j
combined-one t r a j l =
    sum_one t (multiple a (one_at r) j) r l (λ i k h. ap (λ (x : ℕ). x * a i j) (one_elsewhere r i h) ∙ zero-mul (a i j))
    ∙ ap (λ (x : ℕ). x * a r j) (one_there r) ∙ one-mul (a r j)

-- a zero row ties
pub zero_row_tie : (n t : ℕ) (a : ℕ → ℕ → ℕ) (r : ℕ) → r < t → ((j : ℕ) → j < n → a r j % 3 ≡ 0) → Tie n t a
zero_row_tie n t a r l z =
    tie_of_lem n t a (one_at r) (λ j k. ap (λ (x : ℕ). x % 3) (combined-one t r a j l) ∙ z j k) r l (λ h. omega (arith, one_there r))

-- rows that are independent are so in every beginning of them
independent_fewer : (n t u : ℕ) (a : ℕ → ℕ → ℕ) → t ≤ u → Independent n u a → Independent n t a
independent_fewer n t u a h f d z i l =
    ap (λ (x : ℕ). x % 3) (sym (inside i l)) ∙ f (below t d) (λ j k. ap (λ (x : ℕ). x % 3) (same j) ∙ z j k) i (le_trans l h)
  where
    inside : (i : ℕ) → i < t → below t d i ≡ d i
    inside i l = rw (lt-ltb i t l)

    same : (j : ℕ) → sum u (multiple a (below t d) j) ≡ sum t (multiple a d j)
    same j =
        let e : u ≡ t + (u - t) = omega arith in
        ap (λ (x : ℕ). sum x (multiple a (below t d) j)) e
        ∙ sum_zeros t (u - t) (multiple a (below t d) j) (λ i. ap (λ (x : ℕ). x * a (t + i) j) (below_past t d i) ∙ zero-mul (a (t + i) j))
        ∙ sum_ext t (multiple a (below t d) j) (multiple a d j) (λ i l. ap (λ (x : ℕ). x * a i j) (inside i l))

-- tied rows stay tied with more rows
pub tied_more : (n t u : ℕ) (a : ℕ → ℕ → ℕ) → t ≤ u → tied n t a ≡ true → tied n u a ≡ true
tied_more n t u a h = tied_through n t n u a a (independent_fewer n t u a h)

-- rows that are independent in the first columns are so in all
independent_wider : (n m t : ℕ) (a : ℕ → ℕ → ℕ) → n ≤ m → Independent n t a → Independent m t a
independent_wider n m t a h f d z = f d (λ j l. z j (le_trans l h))

-- tied rows are tied in the first columns
pub tied_narrower : (n m t : ℕ) (a : ℕ → ℕ → ℕ) → n ≤ m → tied m t a ≡ true → tied n t a ≡ true
tied_narrower n m t a h = tied_through m t n t a a (independent_wider n m t a h)

-- rows that are not tied in the first columns are not tied in all
pub untied_wider : (n m t : ℕ) (a : ℕ → ℕ → ℕ) → n ≤ m → tied n t a ≡ false → tied m t a ≡ false
untied_wider n m t a h e = independent_untied m t a (independent_wider n m t a h (untied_independent n t a e))

-- rows that agree modulo 3 are independent together
independent_congr : (n t : ℕ) (a b : ℕ → ℕ → ℕ) → ((i j : ℕ) → i < t → j < n → a i j % 3 ≡ b i j % 3) → Independent n t a → Independent n t b
independent_congr n t a b e f d z = f d (λ j k. combined_congr t d d a b j (λ i _. refl) (λ i l. e i j l k) ∙ z j k)

-- rows that agree modulo 3 are tied together
pub tied_congr : (n t : ℕ) (a b : ℕ → ℕ → ℕ) → ((i j : ℕ) → i < t → j < n → a i j % 3 ≡ b i j % 3) → tied n t a ≡ tied n t b
tied_congr n t a b e = tied_same n t n t a b (independent_congr n t a b e) (independent_congr n t b a (λ i j l k. sym (e i j l k)))
