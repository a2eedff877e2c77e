-- Laws of words that are written in place: one after the other in a row, and row after row.
use mathlib.Core.Path.{◌≡◌, refl, ◌∙◌}
use mathlib.Core.List.{List}
use mathlib.Core.Logic.{◌≢◌, ◌⊎◌, inl, inr}
use Prim.Native.Nat.{ℕ, ◌+◌, ◌*◌, ◌<◌, ◌≤◌}
use native.Mathlib.Nat.{eq-or-lt_of_le, le_of_suc-le-suc, zero-lt-suc, mul-le-mul_left, mul-suc}
use native.Mathlib.Numerals.{add-one}
use native.Mathlib.Decide.{dec_lt}
use native.Mathlib.Omega.{arith}
use lib.ListN.{length, get_or, set, length-set}
use lib.Seq.{get_or-set_same, get_or-set_other}
use Rattle.linear_model.specs.Internal.Rotations.{Overwritten}
use Rattle.elimination_model.specs.Internal.Words.{RowWritten, RowsWritten, word_after, CopiedWord}

-- the next of numbers below n + 1, or one before it
pub next-or_before : (m n : ℕ) → m < n + 1 → (m ≡ n) ⊎ (m < n)
next-or_before m n l = eq-or-lt_of_le (le_of_suc-le-suc (rw add-one at l))

-- a row ends where a later row begins, or before
pub rows_apart : (w s i : ℕ) → s < i → 2 * w * s + 2 * w ≤ 2 * w * i
rows_apart w s i l = rw mul-suc at (mul-le-mul_left (2 * w) l)

-- ---- a row

pub written_none : (w b : ℕ) (holds : ℕ → ℕ → ℕ → Type 0) (words : List ℕ) → RowWritten w b 0 holds words words
written_none w b holds words =
    record { size = refl; before = λ p l. refl; low = λ p l h. refl; high = λ p l. refl; is = λ m l. absurd (omega arith) }

-- a word of each plane more
pub written_more : (w b n : ℕ) (holds : ℕ → ℕ → ℕ → Type 0) (words words' : List ℕ) (x u : ℕ) → RowWritten w b n holds words words'
    → n < w → b + 2 * w ≤ length words → holds n x u → RowWritten w b (n + 1) holds words (set (set words' (b + n) x) (b + w + n) u)
written_more w b n holds words words' x u r l h f =
    record {
      size = length-set one (b + w + n) u ∙ length-set words' (b + n) x ∙ r.size;
      before = λ p q. other p (omega arith) (omega arith) ∙ r.before p q;
      low = λ p q s. other p (omega arith) (omega arith) ∙ r.low p (omega arith) s;
      high = λ p q. other p (omega arith) (omega arith) ∙ r.high p (omega arith);
      is = λ m q. go m (next-or_before m n q);
    }
  where
    one : List ℕ
    one = set words' (b + n) x

    other : (p : ℕ) → p ≢ b + n → p ≢ b + w + n → get_or (set one (b + w + n) u) p 0 ≡ get_or words' p 0
    other p y z = get_or-set_other one (b + w + n) p u 0 z ∙ get_or-set_other words' (b + n) p x 0 y

    new_low : get_or (set one (b + w + n) u) (b + n) 0 ≡ x
    new_low =
        get_or-set_other one (b + w + n) (b + n) u 0 (omega arith) ∙ get_or-set_same words' (b + n) x 0 (omega (arith, r.size))

    new_high : get_or (set one (b + w + n) u) (b + w + n) 0 ≡ u
    new_high = get_or-set_same one (b + w + n) u 0 (omega (arith, length-set words' (b + n) x, r.size))

    go : (m : ℕ) → (m ≡ n) ⊎ (m < n) → holds m (get_or (set one (b + w + n) u) (b + m) 0) (get_or (set one (b + w + n) u) (b + w + m) 0)
    go m (inl p) = rw (p, new_low, new_high) f
    go m (inr p) = rw (other (b + m) (omega arith) (omega arith), other (b + w + m) (omega arith) (omega arith)) (r.is m p)

-- a row of one word to a plane
pub written_one : (b : ℕ) (holds : ℕ → ℕ → ℕ → Type 0) (words : List ℕ) (x u : ℕ) → b + 2 ≤ length words → holds 0 x u
    → RowWritten 1 b 1 holds words (set (set words b x) (b + 1) u)
written_one b holds words x u h f =
    let low : b + 0 ≡ b = omega arith in
    let high : b + 1 + 0 ≡ b + 1 = omega arith in
    rw (low, high) at (written_more 1 b 0 holds words words x u (written_none 1 b holds words) (zero-lt-suc 0) h f)

-- a row whose planes are copied one after the other
pub planes_copied : (w b low high : ℕ) (from words words' words'' : List ℕ) → Overwritten (word_after from low) b w words words'
    → Overwritten (word_after from high) (b + w) w words' words'' → RowWritten w b w (CopiedWord from low high) words words''
planes_copied w b low high from words words' words'' x y =
    record {
      size = y.long ∙ x.long;
      before = λ p l. y.before p (omega arith) ∙ x.before p l;
      low = λ p l h. absurd (omega arith);
      high = λ p l. y.after p l ∙ x.after p (omega arith);
      is = λ m l. (y.before (b + m) (omega arith) ∙ x.at m l, y.at m l);
    }

-- what is true of the words may be said otherwise
pub written-map : (w b n : ℕ) (holds says : ℕ → ℕ → ℕ → Type 0) (words words' : List ℕ) → RowWritten w b n holds words words'
    → ((m x u : ℕ) → m < n → holds m x u → says m x u) → RowWritten w b n says words words'
written-map w b n holds says words words' r f =
    record { size = r.size; before = r.before; low = r.low; high = r.high; is = λ m l. f m _ _ l (r.is m l) }

-- ---- rows

pub rows_none : (w first : ℕ) (holds : ℕ → ℕ → ℕ → ℕ → Type 0) (words : List ℕ) → RowsWritten w first first holds words words
rows_none w first holds words =
    record { size = refl; before = λ p l. refl; after = λ p l. refl; is = λ i m l h. absurd (omega arith) }

-- a row more
pub rows_more : (w first end b : ℕ) (holds : ℕ → ℕ → ℕ → ℕ → Type 0) (words words' words'' : List ℕ) → RowsWritten w first end holds words words'
    → first ≤ end → b ≡ 2 * w * end → RowWritten w b w (holds end) words' words'' → RowsWritten w first (end + 1) holds words words''
rows_more w first end b holds words words' words'' x h e y =
    record {
      size = y.size ∙ x.size;
      before = λ p l. y.before p (omega (arith, mul-le-mul_left (2 * w) h)) ∙ x.before p l;
      after = λ p l. y.high p (omega arith) ∙ x.after p (omega arith);
      is = λ i m l g q. go i m l q (next-or_before i end g);
    }
  where
    go : (i m : ℕ) → first ≤ i → m < w → (i ≡ end) ⊎ (i < end) → holds i m (get_or words'' (2 * w * i + m) 0) (get_or words'' (2 * w * i + w + m) 0)
    go i m l q (inl p) = rw (p, ← e) (y.is m q)
    go i m l q (inr p) =
        let a = rows_apart w i end p in
        rw (y.before (2 * w * i + m) (omega arith), y.before (2 * w * i + w + m) (omega arith)) (x.is i m l p q)

-- rows after rows that were written
pub rows_join : (w first middle end : ℕ) (holds : ℕ → ℕ → ℕ → ℕ → Type 0) (words words' words'' : List ℕ) → first ≤ middle → middle ≤ end
    → RowsWritten w first middle holds words words' → RowsWritten w middle end holds words' words'' → RowsWritten w first end holds words words''
rows_join w first middle end holds words words' words'' f g x y =
    record {
      size = y.size ∙ x.size;
      before = λ p l. y.before p (omega (arith, mul-le-mul_left (2 * w) f)) ∙ x.before p l;
      after = λ p l. y.after p l ∙ x.after p (omega (arith, mul-le-mul_left (2 * w) g));
      is = λ i m l h q. go i m l h q (dec_lt i middle);
    }
  where
    go : (i m : ℕ) → first ≤ i → i < end → m < w → Dec (i < middle) → holds i m (get_or words'' (2 * w * i + m) 0) (get_or words'' (2 * w * i + w + m) 0)
    go i m l h q (yes v) =
        let a = rows_apart w i middle v in
        rw (y.before (2 * w * i + m) (omega arith), y.before (2 * w * i + w + m) (omega arith)) (x.is i m l v q)
    go i m l h q (no v) = y.is i m (omega arith) h q

pub rows_map : (w first end : ℕ) (holds says : ℕ → ℕ → ℕ → ℕ → Type 0) (words words' : List ℕ) → RowsWritten w first end holds words words'
    → ((i m x u : ℕ) → first ≤ i → i < end → m < w → holds i m x u → says i m x u) → RowsWritten w first end says words words'
rows_map w first end holds says words words' r f =
    record { size = r.size; before = r.before; after = r.after; is = λ i m l h q. f i m _ _ l h q (r.is i m l h q) }
