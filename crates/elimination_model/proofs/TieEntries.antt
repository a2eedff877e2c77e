-- Laws of lists of entries: what is written digit by digit, and lists whose rows rise.
use mathlib.Core.Path.{◌≡◌, refl, sym, ap, ap₂, subst, ◌∙◌}
use mathlib.Core.List.{List, [], ◌∷◌, ◌++◌}
use mathlib.Core.Bool.{Bool, true, false, cond}
use mathlib.Core.Logic.{◌≢◌, ◌⊎◌, inl, inr}
use Prim.Native.Nat.{ℕ, zero, suc, ◌+◌, ◌*◌, ◌%◌, ◌<◌, ◌≤◌}
use native.Mathlib.Nat.{le_refl, add-zero, eq-or-lt_of_le, zero-lt-suc}
use native.Mathlib.Numerals.{add-one}
use native.Mathlib.Decide.{dec_lt}
use native.Mathlib.Omega.{arith}
use borrow.Author.Tests.{eq-eqb, ne_eqb}
use lib.Dec.{eqb, lit<}
use lib.ListN.{length, get_or}
use Rattle.linear_model.specs.Tables.{tabulate}
use Rattle.linear_model.proofs.Tables.{length-tabulate}
use Rattle.elimination_model.specs.Independence.{digit_of}
use Rattle.elimination_model.specs.Tie.{entries_from, entry_count, RisingRows, none, entry, digit_for}
use Rattle.elimination_model.proofs.Uniqueness.{Leading}

-- ---- written digit by digit

-- a digit 0 has no entry
pub entries-zero : (k x : ℕ) → x ≡ 0 → entries_from k (x ∷ []) ≡ []
unfolding entries_from
entries-zero k x e = ap (λ (v : ℕ). entries_from k (v ∷ [])) e

-- a digit other than 0 has one, before those of the digits after it
entries-front : (i x : ℕ) (d : List ℕ) → 0 < x → entries_from i (x ∷ d) ≡ i ∷ x ∷ entries_from (suc i) d
unfolding entries_from
entries-front i zero d h = absurd (omega arith)
entries-front i (suc x) d h = refl

-- and if it is the last one, no other
pub entries-nonzero : (k x : ℕ) → 0 < x → entries_from k (x ∷ []) ≡ k ∷ x ∷ []
unfolding entries_from
entries-nonzero k x h = entries-front k x [] h

-- the entries of one digit more
pub entries_more : (k : ℕ) (f : ℕ → ℕ) → entries_from 0 (tabulate (k + 1) f) ≡ entries_from 0 (tabulate k f) ++ entries_from k (f k ∷ [])
unfolding entries_from tabulate
entries_more k f =
    ap (λ (m : ℕ). entries_from 0 (tabulate m f)) (add-one k) ∙ from k 0 f
    ∙ ap (λ (m : ℕ). entries_from 0 (tabulate k f) ++ entries_from m (f k ∷ [])) (omega arith)
  where
    from : (s i : ℕ) (f : ℕ → ℕ) → entries_from i (tabulate (suc s) f) ≡ entries_from i (tabulate s f) ++ entries_from (i + s) (f s ∷ [])
    from zero i f = ap (λ (m : ℕ). entries_from m (f 0 ∷ [])) (sym (add-zero i))
    from (suc s) i f = go (f 0) (from s (suc i) (λ m. f (suc m)) ∙ ap (λ (m : ℕ). rest ++ entries_from m (f (suc s) ∷ [])) (omega arith))
      where
        all : List ℕ
        all = tabulate (suc s) (λ m. f (suc m))

        rest : List ℕ
        rest = entries_from (suc i) (tabulate s (λ m. f (suc m)))

        go : (x : ℕ) → entries_from (suc i) all ≡ rest ++ entries_from (i + suc s) (f (suc s) ∷ [])
            → entries_from i (x ∷ all) ≡ entries_from i (x ∷ tabulate s (λ m. f (suc m))) ++ entries_from (i + suc s) (f (suc s) ∷ [])
        go zero e = e
        go (suc x) e = ap (λ (list : List ℕ). i ∷ suc x ∷ list) e

-- the bytes are twice as many as the entries
pub entries_even : (i : ℕ) (d : List ℕ) → 2 * entry_count (entries_from i d) ≡ length (entries_from i d)
unfolding entries_from
entries_even i [] = refl
entries_even i (zero ∷ d) = entries_even (suc i) d
entries_even i (suc x ∷ d) = omega (arith, entries_even (suc i) d)

-- and at most twice as many as the digits
entries-length : (i : ℕ) (d : List ℕ) → length (entries_from i d) ≤ 2 * length d
unfolding entries_from
entries-length i [] = le_refl 0
entries-length i (zero ∷ d) = omega (arith, entries-length (suc i) d)
entries-length i (suc x ∷ d) = omega (arith, entries-length (suc i) d)

-- as of a table of digits
pub entries-tabulate_length : (k : ℕ) (f : ℕ → ℕ) → length (entries_from 0 (tabulate k f)) ≤ 2 * k
entries-tabulate_length k f = omega (arith, entries-length 0 (tabulate k f), length-tabulate k f)

-- ---- the digits of a list

-- what the first entry says of its own row
digit-own : (i x : ℕ) (list : List ℕ) (m : ℕ) → i ≡ m → digit_for (i ∷ x ∷ list) m ≡ x
unfolding digit_for
digit-own i x list m e = rw (eq-eqb i m e)

-- and of others
digit-other : (i x : ℕ) (list : List ℕ) (m : ℕ) → i ≢ m → digit_for (i ∷ x ∷ list) m ≡ digit_for list m
unfolding digit_for
digit-other i x list m e = rw (ne_eqb i m e)

-- a list names no row before its first
before_zero : {k f : ℕ} {list : List ℕ} → RisingRows k f list → (m : ℕ) → m < f → digit_for list m ≡ 0
unfolding digit_for
before_zero none m l = refl
before_zero (entry {i = i} g h p q r) m l = rw (ne_eqb i m (omega arith)) (before_zero r m (omega arith))

-- its digits are 0, 1 or 2
pub rising_small : {k f : ℕ} {list : List ℕ} → RisingRows k f list → (m : ℕ) → digit_for list m < 3
unfolding digit_for
rising_small none m = lit< tt
rising_small (entry {i = i} {x = x} {list = list} g l p q r) m = go (eqb i m) (rising_small r m)
  where
    go : (b : Bool) → digit_for list m < 3 → cond b x (digit_for list m) < 3
    go true h = q
    go false h = h

-- the first other than 0 is that of its first entry
pub rising_leading : {k f : ℕ} {list : List ℕ} → RisingRows k f list → get_or list 1 0 ≡ 1 → Leading k (digit_for list)
rising_leading none e = absurd (omega arith)
rising_leading (entry {i = i} {x = x} {list = list} g l p q r) e =
    record {
      place = i;
      within = l;
      one = ap (λ (v : ℕ). v % 3) (digit-own i x list i refl ∙ e);
      before = λ m u. ap (λ (v : ℕ). v % 3) (before_zero (entry (le_refl i) l p q r) m u);
    }

-- a list that begins at f + 1 or later begins at f or later
sooner : {k f : ℕ} {list : List ℕ} → RisingRows k (suc f) list → RisingRows k f list
sooner none = none
sooner {f = f} (entry {i = i} g l p q r) = let h : f ≤ i = omega arith in entry h l p q r

-- ---- digits to entries and back

-- the entries of some digits have rising rows
pub entries_rising : (k f : ℕ) (d : List ℕ) → ((i : ℕ) → digit_of d i < 3) → f + length d ≡ k → RisingRows k f (entries_from f d)
unfolding entries_from
entries_rising k f [] h e = none
entries_rising k f (zero ∷ d) h e = sooner (entries_rising k (suc f) d (λ i. h (suc i)) (omega arith))
entries_rising k f (suc x ∷ d) h e =
    let l : f < k = omega arith in
    entry (le_refl f) l (zero-lt-suc x) (h 0) (entries_rising k (suc f) d (λ i. h (suc i)) (omega arith))

-- and give these digits
pub entries-digit : (k f : ℕ) (d : List ℕ) → ((i : ℕ) → digit_of d i < 3) → f + length d ≡ k → (m : ℕ) → digit_for (entries_from f d) (f + m) ≡ digit_of d m
unfolding entries_from digit_for
entries-digit k f [] h e m = refl
entries-digit k f (zero ∷ d) h e zero = before_zero (entries_rising k (suc f) d (λ i. h (suc i)) (omega arith)) (f + 0) (omega arith)
entries-digit k f (zero ∷ d) h e (suc m) =
    ap (digit_for (entries_from (suc f) d)) (omega arith) ∙ entries-digit k (suc f) d (λ i. h (suc i)) (omega arith) m
entries-digit k f (suc x ∷ d) h e zero = digit-own f (suc x) (entries_from (suc f) d) (f + 0) (omega arith)
entries-digit k f (suc x ∷ d) h e (suc m) =
    digit-other f (suc x) (entries_from (suc f) d) (f + suc m) (omega arith)
    ∙ ap (digit_for (entries_from (suc f) d)) (omega arith) ∙ entries-digit k (suc f) d (λ i. h (suc i)) (omega arith) m

-- the first of them is the first digit other than 0
pub entries-first : (f : ℕ) (d : List ℕ) (place : ℕ) → ((i : ℕ) → digit_of d i < 3) → digit_of d place % 3 ≡ 1
    → ((i : ℕ) → i < place → digit_of d i % 3 ≡ 0) → get_or (entries_from f d) 1 0 ≡ 1
unfolding entries_from
entries-first f [] place h e b = absurd (omega arith)
entries-first f (zero ∷ d) zero h e b = absurd (omega arith)
entries-first f (zero ∷ d) (suc place) h e b = entries-first (suc f) d place (λ i. h (suc i)) e (λ i l. b (suc i) (omega arith))
entries-first f (suc x ∷ d) zero h e b = omega (arith, h 0)
entries-first f (suc x ∷ d) (suc place) h e b = absurd (omega (arith, b 0 (omega arith), h 0))

-- a list is the entries of the digits that it gives
pub digits_entries : (s k f : ℕ) (list : List ℕ) → RisingRows k f list → f + s ≡ k
    → (d : ℕ → ℕ) → ((m : ℕ) → d m ≡ digit_for list (f + m)) → entries_from f (tabulate s d) ≡ list
unfolding entries_from tabulate digit_for
digits_entries zero k f _ none e d h = refl
digits_entries zero k f _ (entry g l p q r) e d h = absurd (omega arith)
digits_entries (suc s) k f _ none e d h =
    rw (h 0) (digits_entries s k (suc f) [] none (omega arith) (λ m. d (suc m)) (λ m. h (suc m)))
digits_entries (suc s) k f _ (entry {i = i} {x = x} {list = list} g l p q r) e d h =
    go (digits_entries s k (suc f)) (eq-or-lt_of_le g)
  where
    rest : List ℕ
    rest = tabulate s (λ m. d (suc m))

    go : ((list : List ℕ) → RisingRows k (suc f) list → suc f + s ≡ k → (d : ℕ → ℕ) → ((m : ℕ) → d m ≡ digit_for list (suc f + m))
        → entries_from (suc f) (tabulate s d) ≡ list)
        → (f ≡ i) ⊎ (f < i) → entries_from f (d 0 ∷ rest) ≡ i ∷ x ∷ list
    go ih (inl u) =
        let z : d 0 ≡ x = h 0 ∙ digit-own i x list (f + 0) (omega arith) in
        let after : entries_from (suc f) rest ≡ list =
        ih list (subst (λ (v : ℕ). RisingRows k (suc v) list) (sym u) r) (omega arith) (λ m. d (suc m))
        (λ m. h (suc m) ∙ digit-other i x list (f + suc m) (omega arith) ∙ ap (digit_for list) (omega arith)) in
        ap (λ (v : ℕ). entries_from f (v ∷ rest)) z ∙ entries-front f x rest p
        ∙ ap₂ {C = List ℕ} (λ (v : ℕ) (w : List ℕ). v ∷ x ∷ w) u after
    go ih (inr u) =
        let z : d 0 ≡ 0 = h 0 ∙ digit-other i x list (f + 0) (omega arith) ∙ before_zero r (f + 0) (omega arith) in
        ap (λ (v : ℕ). entries_from f (v ∷ rest)) z
        ∙ ih (i ∷ x ∷ list) (entry u l p q r) (omega arith) (λ m. d (suc m)) (λ m. h (suc m) ∙ ap (digit_for (i ∷ x ∷ list)) (omega arith))

-- ---- the rows of a list

-- the row of an entry after the first is that of an entry of the rest
next_row : (i x : ℕ) (list : List ℕ) (m : ℕ) → get_or (i ∷ x ∷ list) (2 * suc m) 0 ≡ get_or list (2 * m) 0
next_row i x list m = let e : 2 * suc m ≡ suc (suc (2 * m)) = omega arith in ap (λ (v : ℕ). get_or (i ∷ x ∷ list) v 0) e

-- an entry's row is in the range of the list
pub row_within : {k f : ℕ} {list : List ℕ} → RisingRows k f list → (m : ℕ) → m < entry_count list
    → (f ≤ get_or list (2 * m) 0) × (get_or list (2 * m) 0 < k)
row_within none m l = absurd (omega arith)
row_within (entry g h p q r) zero l = (g, h)
row_within (entry {i = i} {x = x} {list = list} g h p q r) (suc m) l =
    let w = row_within r m (omega arith) in (omega (arith, next_row i x list m, w.0), omega (arith, next_row i x list m, w.1))

-- a later entry has a later row
rows_rise : {k f : ℕ} {list : List ℕ} → RisingRows k f list → (m s : ℕ) → m < s → s < entry_count list → get_or list (2 * m) 0 < get_or list (2 * s) 0
rows_rise none m s u l = absurd (omega arith)
rows_rise (entry g h p q r) m zero u l = absurd (omega arith)
rows_rise (entry {i = i} {x = x} {list = list} g h p q r) zero (suc s) u l =
    omega (arith, next_row i x list s, (row_within r s (omega arith)).0)
rows_rise (entry {i = i} {x = x} {list = list} g h p q r) (suc m) (suc s) u l =
    omega (arith, next_row i x list m, next_row i x list s, rows_rise r m s (omega arith) (omega arith))

-- so each row has one entry
pub rows_once : {k f : ℕ} {list : List ℕ} → RisingRows k f list → (m s : ℕ) → m < entry_count list → s < entry_count list
    → get_or list (2 * m) 0 ≡ get_or list (2 * s) 0 → m ≡ s
rows_once r m s l h e = go (dec_lt m s) (dec_lt s m)
  where
    go : Dec (m < s) → Dec (s < m) → m ≡ s
    go (yes u) v = absurd (omega (arith, rows_rise r m s u h))
    go (no u) (yes v) = absurd (omega (arith, rows_rise r s m v l))
    go (no u) (no v) = omega arith

-- and a digit other than 0
pub row_digit_lem : {k f : ℕ} {list : List ℕ} → RisingRows k f list → (m : ℕ) → m < entry_count list → digit_for list (get_or list (2 * m) 0) % 3 ≢ 0
row_digit_lem none m l z = absurd (omega arith)
row_digit_lem (entry {i = i} {x = x} {list = list} g h p q r) zero l z = omega (arith, digit-own i x list i refl)
row_digit_lem (entry {i = i} {x = x} {list = list} g h p q r) (suc m) l z =
    row_digit_lem r m (omega arith)
    (ap (λ (v : ℕ). v % 3)
    (sym (ap (digit_for (i ∷ x ∷ list)) (next_row i x list m) ∙ digit-other i x list (get_or list (2 * m) 0) (λ e. omega (arith, (row_within r m (omega arith)).0))))
    ∙ z)
