-- Laws of rows of bytes that are loaded into words, and of what the elimination says of them.
use mathlib.Core.Path.{◌≡◌, refl, sym, ap, ap₂, ◌∙◌}
use mathlib.Core.List.{List}
use mathlib.Core.Bool.{Bool, true, false, cond}
use Prim.Native.Nat.{ℕ, zero, suc, ◌+◌, ◌-◌, ◌*◌, ◌/◌, ◌%◌, ◌^◌, ◌<◌, ◌≤◌}
use native.Mathlib.Nat.{mod-lt, mod-mod, mod-eq_of_lt, zero-lt-suc, pow-suc}
use native.Mathlib.Decide.{ℕ_discrete, dec_lt}
use native.Mathlib.Omega.{arith}
use borrow.Author.Tests.{lt-ltb, le-ltb}
use lib.Dec.{eqb, ltb, lit<}
use lib.ListN.{length}
use Rattle.linear_model.specs.Tables.{from, one_at}
use Rattle.linear_model.specs.Bits.{bit, bit_at, from_bits}
use Rattle.linear_model.specs.Trits.{trit}
use Rattle.linear_model.specs.Internal.Planes.{trit_of}
use Rattle.linear_model.proofs.Tables.{one_there, one_elsewhere}
use Rattle.linear_model.proofs.NumberBits.{bit_at_zero, bit_at_lt, bit_at_suc}
use Rattle.linear_model.proofs.WordBits.{word_bit_at}
use Rattle.linear_model.proofs.Strings.{bit-drop}
use Rattle.elimination_model.specs.Independence.{tied, trit_at}
use Rattle.elimination_model.specs.Tie.{tie_bytes}
use Rattle.elimination_model.specs.Internal.Words.{digit_at, FitRows, RowWritten, RowsWritten, LoadedWord, rows_after, FirstTied, Carrying}
use Rattle.elimination_model.specs.Internal.Elimination.{with_diagonal}
use Rattle.elimination_model.proofs.Independence.{tied_congr, tied_more}
use Rattle.elimination_model.proofs.TieBytes.{tie_bytes_congr}
use Rattle.elimination_model.proofs.Internal.Writing.{written-map}

-- ---- the diagonal

-- the 1 is at its place wherever it is counted from
one_moved : (i j k l : ℕ) → (j ≡ i → l ≡ k) → (l ≡ k → j ≡ i) → one_at i j ≡ one_at k l
one_moved i j k l f g = go (ℕ_discrete j i)
  where
    go : Dec (j ≡ i) → one_at i j ≡ one_at k l
    go (yes e) = ap (one_at i) e ∙ one_there i ∙ sym (ap (one_at k) (f e) ∙ one_there k)
    go (no e) = one_elsewhere i j e ∙ sym (one_elsewhere k l (λ h. e (g h)))

-- bit k of a power of 2
power_bit : (n k : ℕ) → bit_at (2 ^ n) k ≡ one_at n k
power_bit zero zero = refl
power_bit zero (suc k) = bit_at_suc 1 k ∙ bit_at_zero k ∙ sym (one_elsewhere 0 (suc k) (omega arith))
power_bit (suc n) zero = omega (arith, pow-suc 2 n, one_elsewhere (suc n) 0 (omega arith))
power_bit (suc n) (suc k) =
    bit_at_suc (2 ^ suc n) k ∙ ap (λ (x : ℕ). bit_at x k) half ∙ power_bit n k ∙ one_moved n k (suc n) (suc k) (λ e. omega arith) (λ e. omega arith)
  where
    half : 2 ^ suc n / 2 ≡ 2 ^ n
    half = omega (arith, pow-suc 2 n)

-- word m of row r of the diagonal: one bit, where row r has its 1 in it
pub diagonal_bit : (r m x : ℕ) → r / 64 ≡ m → x ≡ 2 ^ (r % 64) → (k : ℕ) → k < 64 → bit_at x k ≡ one_at r (64 * m + k)
diagonal_bit r m x e p k l =
    ap (λ (y : ℕ). bit_at y k) p ∙ power_bit (r % 64) k ∙ one_moved (r % 64) k r (64 * m + k) (λ q. omega arith) (λ q. omega arith)

-- in other words it has none
pub diagonal_none : (r m k : ℕ) → (r / 64 ≡ m → ⊥) → k < 64 → bit_at 0 k ≡ one_at r (64 * m + k)
diagonal_none r m k h l = bit_at_zero k ∙ sym (one_elsewhere r (64 * m + k) (λ s. h (omega arith)))

-- ---- words of rows

-- a column of a word of the first f, and of one behind them
diagonal_front : (f : ℕ) (a : ℕ → ℕ → ℕ) (i m k : ℕ) → m < f → k < 64 → with_diagonal (64 * f) a i (64 * m + k) ≡ a i (64 * m + k)
diagonal_front f a i m k l h = rw (lt-ltb (64 * m + k) (64 * f) (omega arith))

diagonal_behind : (f : ℕ) (a : ℕ → ℕ → ℕ) (i j : ℕ) → 64 * f ≤ j → with_diagonal (64 * f) a i j ≡ one_at i (j - 64 * f)
diagonal_behind f a i j l = rw (le-ltb j (64 * f) l)

-- rows that are equal in the first n columns
pub diagonal_same : (n : ℕ) (a b : ℕ → ℕ → ℕ) (i j : ℕ) → (j < n → a i j ≡ b i j) → with_diagonal n a i j ≡ with_diagonal n b i j
diagonal_same n a b i j e = go (dec_lt j n)
  where
    go : Dec (j < n) → with_diagonal n a i j ≡ with_diagonal n b i j
    go (yes l) = rw (lt-ltb j n l) (e l)
    go (no l) = rw (le-ltb j n (omega arith))

-- word m of each plane of row i of the bytes, which begins at byte `at`
pub loaded_front : (bytes : ℕ) (rows : List ℕ) (i f r m at x u s z : ℕ) → m < f → at ≡ 2 * bytes * i
    → x ≡ from_bits 64 (from (8 * (at + 8 * m)) (bit rows)) → u ≡ from_bits 64 (from (8 * (at + bytes + 8 * m)) (bit rows))
    → ((k : ℕ) → trit_of s z k ≡ trit_of x u k % 3) → LoadedWord f (λ _. trit_at bytes rows i) r m s z
unfolding trit
loaded_front bytes rows i f r m at x u s z h e p q g = (
  λ k l.
      g k
      ∙ ap₂ (λ (y v : ℕ). (y + 2 * v) % 3)
      (word_bit_at rows (8 * (at + 8 * m)) x p k l ∙ ap (bit rows) (omega arith) ∙ sym (bit-drop (2 * bytes * i) rows (64 * m + k)))
      (word_bit_at rows (8 * (at + bytes + 8 * m)) u q k l ∙ ap (bit rows) (omega arith) ∙ sym (bit-drop (2 * bytes * i) rows (8 * bytes + (64 * m + k))))
      ∙ ap (λ (n : ℕ). n % 3) (sym (diagonal_front f (λ _. trit_at bytes rows i) r m k h l)),
  λ k. rw (g k) (mod-lt (trit_of x u k) (zero-lt-suc 2)),
)

-- word m, behind the first f, of what row r carries
pub loaded_behind : (f : ℕ) (a : ℕ → ℕ → ℕ) (r m x : ℕ) → f ≤ m → ((k : ℕ) → k < 64 → bit_at x k ≡ one_at r (64 * (m - f) + k)) → LoadedWord f a r m x 0
loaded_behind f a r m x h g = (
  λ k l.
      let e : 64 * (m - f) + k ≡ 64 * m + k - 64 * f = omega arith in
      low x k ∙ sym (mod-eq_of_lt (omega (arith, bit_at_lt x k)))
      ∙ ap (λ (n : ℕ). n % 3) (g k l ∙ ap (one_at r) e ∙ sym (diagonal_behind f a r (64 * m + k) (omega arith))),
  λ k. rw (low x k) (omega (arith, bit_at_lt x k)),
)
  where
    low : (x k : ℕ) → trit_of x 0 k ≡ bit_at x k
    low x k = omega (arith, bit_at_zero k)

-- row i of rows that go to row `first` and the rows after it
pub loaded_next : (w f bytes : ℕ) (rows : List ℕ) (first i b : ℕ) (words words' : List ℕ)
    → RowWritten w b w (LoadedWord f (λ _. trit_at bytes rows i) (first + i)) words words'
    → RowWritten w b w (LoadedWord f (rows_after first bytes rows) (first + i)) words words'
loaded_next w f bytes rows first i b words words' r =
    let e : first + i - first ≡ i = omega arith in
    written-map w b w _ _ words words' r (λ m x u l h. rw e h)

module _ (w f t : ℕ) (a : ℕ → ℕ → ℕ) (words words' : List ℕ) (x : RowsWritten w 0 t (LoadedWord f a) words words') where
  -- loaded rows are fit
  pub loaded_fit : 2 * w * t ≤ length words → FitRows w t words'
  loaded_fit h = record { long = omega (arith, x.size); fit = λ i m l q k. (x.is i m (omega arith) l q).1 k }

  -- their digits are those of the rows, and behind them the diagonal's
  loaded_digit : (i j : ℕ) → i < t → j < 64 * w → digit_at w words' i j ≡ with_diagonal (64 * f) a i j % 3
  loaded_digit i j l k =
      let e : 64 * (j / 64) + j % 64 ≡ j = omega arith in
      (x.is i (j / 64) (omega arith) l (omega arith)).0 (j % 64) (mod-lt j (zero-lt-suc 63)) ∙ ap (λ (z : ℕ). with_diagonal (64 * f) a i z % 3) e

  loaded_rows : f ≤ w → (i j : ℕ) → i < t → j < 64 * f → digit_at w words' i j % 3 ≡ a i j % 3
  loaded_rows h i j l k =
      ap (λ (z : ℕ). z % 3) (loaded_digit i j l (omega arith) ∙ ap (λ (b : Bool). cond b (a i j) (one_at i (j - 64 * f)) % 3) (lt-ltb j (64 * f) k))
      ∙ mod-mod (a i j) 3

  -- so they are tied if the rows are
  pub loaded_tied : f ≤ w → tied (64 * f) t (digit_at w words') ≡ tied (64 * f) t a
  loaded_tied h = tied_congr (64 * f) t (digit_at w words') a (loaded_rows h)

  -- and have the same tie, in n columns
  pub loaded_tie : (n : ℕ) → f ≤ w → 64 * f ≡ n → tie_bytes (64 * f) t (digit_at w words') ≡ tie_bytes n t a
  loaded_tie n h e = tie_bytes_congr (64 * f) t (digit_at w words') a (loaded_rows h) ∙ ap (λ (m : ℕ). tie_bytes m t a) e

  -- and each carries itself alone
  pub loaded_carrying : 2 * w * t ≤ length words → 64 * f + t ≤ 64 * w → Carrying w f t words'
  loaded_carrying h room =
      record {
        fit = loaded_fit h;
        room = room;
        alone = λ i k l m.
            loaded_digit i (64 * f + k) l (omega arith)
            ∙ ap (λ (z : ℕ). z % 3) (diagonal_behind f a i (64 * f + k) (omega arith) ∙ ap (one_at i) (omega arith))
            ∙ mod-eq_of_lt (one-small i k);
      }
    where
      one-small : (i k : ℕ) → one_at i k < 3
      one-small i k = go (eqb i k)
        where
          go : (b : Bool) → cond b 1 0 < 3
          go true = lit< tt
          go false = lit< tt

-- a first tied row below t says that the rows are tied
pub first-tied_decides : (w f t : ℕ) (words words' : List ℕ) (r : ℕ) → FirstTied w f t words words' r → ltb r t ≡ tied (64 * f) t (digit_at w words)
first-tied_decides w f t words words' r x = go (dec_lt r t)
  where
    go : Dec (r < t) → ltb r t ≡ tied (64 * f) t (digit_at w words)
    go (yes l) = lt-ltb r t l ∙ sym (tied_more (64 * f) (suc r) t (digit_at w words) l (x.is_tied l))
    go (no l) =
        let e : r ≡ t = omega (arith, x.within) in
        le-ltb r t (omega arith) ∙ sym (ap (λ (u : ℕ). tied (64 * f) u (digit_at w words)) (sym e) ∙ x.before)
