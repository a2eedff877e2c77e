-- Laws of a turn of the elimination in words: a column in which its row is not 0, and the rows after it.
use mathlib.Core.Path.{◌≡◌, refl, sym, ap, ap₂, ◌∙◌}
use mathlib.Core.List.{List}
use mathlib.Core.Bool.{Bool, cond}
use mathlib.Core.Logic.{◌≢◌, ◌⊎◌, inl, inr}
use Prim.Native.Nat.{ℕ, zero, suc, ◌+◌, ◌*◌, ◌/◌, ◌%◌, ◌^◌, ◌<◌, ◌≤◌, max}
use native.Mathlib.Nat.{mod-lt, mod-mod, mod-eq_of_lt, add-mod-mod, le_trans, zero-lt-suc, mul-le-mul_left, pow-suc}
use native.Mathlib.Numerals.{add-one}
use native.Mathlib.Decide.{dec_lt}
use native.Mathlib.Omega.{arith}
use borrow.Author.Tests.{lt-ltb, le-ltb}
use lib.Bits.{bit_or}
use lib.Count.{count_trailing_zeros, under}
use lib.ListN.{get_or}
use Rattle.linear_model.specs.Tables.{every}
use Rattle.linear_model.specs.Bits.{bit_at}
use Rattle.linear_model.specs.Internal.Planes.{trit_of}
use Rattle.linear_model.proofs.Tables.{same₂}
use Rattle.linear_model.proofs.NumberBits.{bit_at_zero, bit_at_lt, bit_at_suc, or-bit_at}
use Rattle.elimination_model.specs.Internal.Elimination.{factor, cleared, Carried}
use Rattle.elimination_model.specs.Internal.Words.{word_trit, digit_at, FitRow, FitRows, RowWritten, RowsWritten, ClearedWord, NonzeroColumn, EntryWord, Pivot, Turn, carried_at}
use Rattle.elimination_model.proofs.Elimination.{Cleared, cleared_clears, Reduced, reduced_more}
use Rattle.elimination_model.proofs.Carried.{carried_more}
use Rattle.elimination_model.proofs.Internal.Writing.{next-or_before, rows_apart, written-map}

-- ---- a column that is not 0

-- the bit that the trailing zeros count is set
pub trailing_set : (k x : ℕ) → 0 < x → x < 2 ^ k → (count_trailing_zeros k x < k) × (bit_at x (count_trailing_zeros k x) ≡ 1)
unfolding count_trailing_zeros
trailing_set zero x h l = absurd (omega arith)
trailing_set (suc k) x h l = go (x % 2) refl (trailing_set k (x / 2))
  where
    go : (b : ℕ) → x % 2 ≡ b → (0 < x / 2 → x / 2 < 2 ^ k → (count_trailing_zeros k (x / 2) < k) × (bit_at (x / 2) (count_trailing_zeros k (x / 2)) ≡ 1))
        → (under b (count_trailing_zeros k (x / 2)) < suc k) × (bit_at x (under b (count_trailing_zeros k (x / 2))) ≡ 1)
    go zero e f =
        let r = f (omega arith) (omega (arith, pow-suc 2 k)) in
        (omega (arith, r.0), bit_at_suc x (count_trailing_zeros k (x / 2)) ∙ r.1)
    go (suc b) e f = (zero-lt-suc k, omega arith)

-- a trit with a bit set is not 0
pub either_set : (x u k : ℕ) → bit_at (bit_or x u) k ≡ 1 → trit_of x u k ≢ 0
either_set x u k e z =
    omega (arith, sym e ∙ or-bit_at x u k ∙ ap₂ bit_or (zero_left (bit_at x k) (bit_at u k) z) (zero_right (bit_at x k) (bit_at u k) z))
  where
    zero_left : (a b : ℕ) → a + 2 * b ≡ 0 → a ≡ 0
    zero_left a b h = omega arith

    zero_right : (a b : ℕ) → a + 2 * b ≡ 0 → b ≡ 0
    zero_right a b h = omega arith

-- trits without any bit set are 0
none-set : (x u k : ℕ) → bit_or x u ≡ 0 → trit_of x u k ≡ 0
unfolding every
none-set x u k e =
    both (bit_at x k) (bit_at u k) (bit_at_lt x k) (bit_at_lt u k) (sym (or-bit_at x u k) ∙ ap (λ (z : ℕ). bit_at z k) e ∙ bit_at_zero k)
  where
    both : (a b : ℕ) → a < 2 → b < 2 → bit_or a b ≡ 0 → a + 2 * b ≡ 0
    both a b h l z = omega (arith, sym (same₂ 2 bit_or max tt a b h l) ∙ z)

-- one word more of a row is 0
pub zero_more : (w : ℕ) (words : List ℕ) (a n : ℕ) → ((m : ℕ) → m < n → (k : ℕ) → word_trit w words a m k ≡ 0)
    → bit_or (get_or words (a + n) 0) (get_or words (a + w + n) 0) ≡ 0 → (m : ℕ) → m < n + 1 → (k : ℕ) → word_trit w words a m k ≡ 0
zero_more w words a n f e m l k = go (next-or_before m n l)
  where
    go : (m ≡ n) ⊎ (m < n) → word_trit w words a m k ≡ 0
    go (inl p) = ap (λ (v : ℕ). word_trit w words a v k) p ∙ none-set (get_or words (a + n) 0) (get_or words (a + w + n) 0) k e
    go (inr p) = f m p k

-- ---- the row of the turn

module _ (w t r word bit : ℕ) (words : List ℕ) (x : Pivot w t r word bit words) where
  pub pivot_row : FitRow w words (2 * w * r)
  pivot_row =
      record { long = omega (arith, x.fit.long, rows_apart w r t x.within); fit = λ m l k. x.fit.fit r m x.within l k }

  -- its digit in the column is 1 or 2
  pub pivot_digit : (p : ℕ) → p ≡ word_trit w words (2 * w * r) word bit → (0 < p) × (p < 3)
  pivot_digit p e = (positive p (λ z. x.nonzero (sym e ∙ z)), rw e (x.fit.fit r word x.within x.inside bit))
    where
      positive : (n : ℕ) → n ≢ 0 → 0 < n
      positive zero h = absurd (h refl)
      positive (suc n) h = zero-lt-suc n

-- ---- the rows after it

-- a row of which no word has changed
pub same_row : (w : ℕ) (words words' : List ℕ) (a m k : ℕ) → m < w → ((p : ℕ) → a ≤ p → p < a + 2 * w → get_or words' p 0 ≡ get_or words p 0)
    → word_trit w words' a m k ≡ word_trit w words a m k
same_row w words words' a m k l e =
    ap₂ (λ (x u : ℕ). trit_of x u k) (e (a + m) (omega arith) (omega arith)) (e (a + w + m) (omega arith) (omega arith))

module _ (w t r word bit : ℕ) (words table : List ℕ) (turn : Turn w t r word bit words table) where
  -- the next row, i, is as it was
  next_row : (i : ℕ) (words' : List ℕ) → i < t → RowsWritten w (r + 1) i (ClearedWord w r word bit words) words words'
      → (m k : ℕ) → m < w → word_trit w words' (2 * w * i) m k ≡ word_trit w words (2 * w * i) m k
  next_row i words' h x m k l = same_row w words words' (2 * w * i) m k l (λ p g q. x.after p g)

  pub next_fit : (i : ℕ) (words' : List ℕ) → i < t → RowsWritten w (r + 1) i (ClearedWord w r word bit words) words words' → FitRow w words' (2 * w * i)
  next_fit i words' h x =
      record {
        long = omega (arith, turn.pivot.fit.long, x.size, rows_apart w i t h);
        fit = λ m l k. rw (next_row i words' h x m k l) (turn.pivot.fit.fit i m h l k);
      }

  -- the entry of its digit clears it
  pub row_cleared : (i : ℕ) (words' words'' : List ℕ) → i < t → RowsWritten w (r + 1) i (ClearedWord w r word bit words) words words'
      → RowWritten w (2 * w * i) w (EntryWord w table words' (2 * w * i) word bit) words' words''
      → RowWritten w (2 * w * i) w (ClearedWord w r word bit words i) words' words''
  row_cleared i words' words'' h x y =
      let d = word_trit w words' (2 * w * i) word bit in
      written-map w (2 * w * i) w _ _ words' words'' y
      (λ m a u l s k.
      s k
      ∙ ap₂ (λ (v z : ℕ). (v + z) % 3) (next_row i words' h x m k l) (turn.multiples.is d m ((next_fit i words' h x).fit word turn.pivot.inside bit) l k)
      ∙ add-mod-mod (word_trit w words (2 * w * i) m k) (2 * (d * word_trit w words (2 * w * r) word bit) * word_trit w words (2 * w * r) m k) 3
      ∙ ap (λ (v : ℕ). (word_trit w words (2 * w * i) m k + 2 * (v * word_trit w words (2 * w * r) word bit) * word_trit w words (2 * w * r) m k) % 3)
      (next_row i words' h x word bit turn.pivot.inside))

-- ---- rows as digits

-- column `bit` of word `word`
column : (word bit : ℕ) → bit < 64 → ((64 * word + bit) / 64 ≡ word) × ((64 * word + bit) % 64 ≡ bit)
column word bit h = (omega arith, omega arith)

digit_column : (w : ℕ) (words : List ℕ) (i word bit : ℕ) → bit < 64 → digit_at w words i (64 * word + bit) ≡ word_trit w words (2 * w * i) word bit
digit_column w words i word bit h = ap₂ (λ (x y : ℕ). word_trit w words (2 * w * i) x y) (column word bit h).0 (column word bit h).1

module _ (w t r word bit : ℕ) (words words' : List ℕ) (f : FitRows w t words) (h : r < t) (x : RowsWritten w (r + 1) t (ClearedWord w r word bit words) words words') where
  -- rows up to row r are as they were
  earlier : (i m k : ℕ) → i ≤ r → m < w → word_trit w words' (2 * w * i) m k ≡ word_trit w words (2 * w * i) m k
  earlier i m k l q =
      same_row w words words' (2 * w * i) m k q
      (λ p g s. x.before p (omega (arith, mul-le-mul_left (2 * w) l)))

  -- rows that were fit are so after the turn
  pub cleared_fit : FitRows w t words'
  cleared_fit = record { long = omega (arith, f.long, x.size); fit = λ i m l q k. go i m l q k (dec_lt r i) }
    where
      go : (i m : ℕ) → i < t → m < w → (k : ℕ) → Dec (r < i) → word_trit w words' (2 * w * i) m k < 3
      go i m l q k (yes v) =
          rw (x.is i m (omega arith) l q k)
          (mod-lt (word_trit w words (2 * w * i) m k + 2 * (word_trit w words (2 * w * i) word bit * word_trit w words (2 * w * r) word bit) * word_trit w words (2 * w * r) m k) (zero-lt-suc 2))
      go i m l q k (no v) = rw (earlier i m k (omega arith) q) (f.fit i m l q k)

  -- rows cleared in words are cleared
  digits_cleared : word < w → bit < 64 → word_trit w words (2 * w * r) word bit % 3 ≢ 0
      → Cleared (64 * w) t r (64 * word + bit) (factor r (64 * word + bit) (digit_at w words)) (digit_at w words) (digit_at w words')
  digits_cleared g l v =
      record { kept = y.kept; is = λ i j a k. go i j a k (dec_lt r i) ∙ y.is i j a k; gone = λ i a k. go i q k (omega arith) (dec_lt r i) ∙ y.gone i a k }
    where
      q : ℕ
      q = 64 * word + bit

      b : ℕ → ℕ → ℕ
      b = digit_at w words

      y : Cleared (64 * w) t r q (factor r q b) b (cleared r q b)
      y = cleared_clears (64 * w) t r q b (λ z. v (ap (λ (n : ℕ). n % 3) (sym (digit_column w words r word bit l)) ∙ z))

      go : (i j : ℕ) → i < t → j < 64 * w → Dec (r < i) → digit_at w words' i j % 3 ≡ cleared r q b i j % 3
      go i j m k (yes u) =
          ap (λ (n : ℕ). n % 3)
          (x.is i (j / 64) (omega arith) m (omega arith) (j % 64)
          ∙ ap₂ (λ (y z : ℕ). (b i j + 2 * (y * z) * b r j) % 3) (sym (digit_column w words i word bit l)) (sym (digit_column w words r word bit l))
          ∙ ap (λ (y : Bool). (b i j + cond y (2 * (b i q * b r q)) 0 * b r j) % 3) (sym (lt-ltb r i u)))
      go i j m k (no u) =
          ap (λ (n : ℕ). n % 3) (earlier i (j / 64) (j % 64) (omega arith) (omega arith))
          ∙ sym (mod-mod (b i j) 3)
          ∙ ap (λ (n : ℕ). n % 3 % 3) (omega arith)
          ∙ ap (λ (y : Bool). (b i j + cond y (2 * (b i q * b r q)) 0 * b r j) % 3 % 3) (sym (le-ltb r i (not_less u)))
        where
          not_less : ¬ (r < i) → i ≤ r
          not_less u = omega arith

-- a column in which a row is not 0 is a pivot's
pub column_pivot : (w f t r word bit : ℕ) (words : List ℕ) → FitRows w t words → r < t → f ≤ w → NonzeroColumn w f words (2 * w * r) word bit → word < f
    → Pivot w t r word bit words
column_pivot w f t r word bit words g h e x l = record { within = h; inside = le_trans l e; small = x.small; fit = g; nonzero = x.found l }

-- one turn more, with a pivot in the first f words
module _ (w f t r word bit : ℕ) (words words' : List ℕ) (inner : f ≤ w) (first : word < f) (y : Pivot w t r word bit words)
    (z : RowsWritten w (r + 1) t (ClearedWord w r word bit words) words words') where
  abbrev pivot_column : ℕ
  pivot_column = 64 * word + bit

  nonzero : digit_at w words r pivot_column % 3 ≢ 0
  nonzero e =
      y.nonzero
      (sym (mod-eq_of_lt (y.fit.fit r word y.within y.inside bit)) ∙ ap (λ (n : ℕ). n % 3) (sym (digit_column w words r word bit y.small)) ∙ e)

  all_cleared : Cleared (64 * w) t r pivot_column (factor r pivot_column (digit_at w words)) (digit_at w words) (digit_at w words')
  all_cleared =
      digits_cleared w t r word bit words words' y.fit y.within z y.inside y.small
      (λ e. nonzero (ap (λ (n : ℕ). n % 3) (digit_column w words r word bit y.small) ∙ e))

  front-cleared : Cleared (64 * f) t r pivot_column (factor r pivot_column (digit_at w words)) (digit_at w words) (digit_at w words')
  front-cleared =
      let c = all_cleared in
      record { kept = c.kept; is = λ i j l k. c.is i j l (omega arith); gone = c.gone }

  -- a row more has its pivot
  pub turn_reduced : (words₀ : List ℕ) → Reduced (64 * f) t (digit_at w words₀) (digit_at w words) r → Reduced (64 * f) t (digit_at w words₀) (digit_at w words') (r + 1)
  turn_reduced words₀ x =
      rw add-one
      (reduced_more (64 * f) t r pivot_column (factor r pivot_column (digit_at w words)) (digit_at w words₀) (digit_at w words) (digit_at w words') x y.within (omega (arith, y.small)) nonzero front-cleared)

  -- rows that carry the combination that they are still do
  pub turn_carried : (a : ℕ → ℕ → ℕ) → 64 * f + t ≤ 64 * w
      → Carried (64 * f) t a (digit_at w words) (carried_at w f words) → Carried (64 * f) t a (digit_at w words') (carried_at w f words')
  turn_carried a room x =
      carried_more (64 * f) t r pivot_column (factor r pivot_column (digit_at w words)) a (digit_at w words) (digit_at w words') (carried_at w f words) (carried_at w f words') y.within x front-cleared
      (λ i k l m. all_cleared.is i (64 * f + k) l (omega arith))

-- a zero row
pub turn_zero : (w f r word bit : ℕ) (words : List ℕ) → NonzeroColumn w f words (2 * w * r) word bit → f ≤ word
    → (j : ℕ) → j < 64 * f → digit_at w words r j % 3 ≡ 0
turn_zero w f r word bit words y l j k = ap (λ (v : ℕ). v % 3) (y.zero_row l (j / 64) (omega arith) (j % 64))
