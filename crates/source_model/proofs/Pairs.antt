-- Laws of pairs and of the place after one.
use mathlib.Core.Path.{◌≡◌, refl, sym, ap, ◌∙◌, subst}
use mathlib.Core.List.{List}
use mathlib.Core.Bool.{Bool, cond}
use Prim.Native.Nat.{ℕ, zero, suc, ◌+◌, ◌*◌, ◌/◌, ◌%◌, ◌^◌, ◌<◌, ◌≤◌}
use native.Mathlib.Nat.{mod-lt, zero-lt-suc, div-div-eq-div-mul}
use native.Mathlib.Decide.{ℕ_discrete}
use native.Mathlib.Omega.{arith}
use borrow.Author.Tests.{eq-eqb, ne_eqb, lt-ltb, le-ltb}
use lib.Arith.{mod-mul}
use lib.Dec.{lit<}
use lib.ListN.{get_or}
use Rattle.source_model.specs.Pair.{pair}
use Rattle.source_model.specs.Internal.Reading.{last_pair, pair_after, PairRead, pairs, pairs_after, PairsRead}

-- pair q of byte b
pub pair_of : (s : List ℕ) (b q : ℕ) → q < 4 → get_or s b 0 / 2 ^ (2 * q) % 4 ≡ pair s (4 * b + q)
unfolding pair
pair_of s b q h =
    let e : (4 * b + q) / 4 ≡ b = omega arith in
    let f : (4 * b + q) % 4 ≡ q = omega arith in
    rw (e, f) (ap (λ (x : ℕ). get_or s b 0 / x % 4) (power q h))
  where
    power : (q : ℕ) → q < 4 → 2 ^ (2 * q) ≡ 4 ^ q
    power zero h = refl
    power (suc zero) h = refl
    power (suc (suc zero)) h = refl
    power (suc (suc (suc zero))) h = refl
    power (suc (suc (suc (suc q)))) h = absurd (omega arith)

pub pair_lt : (s : List ℕ) (k : ℕ) → pair s k < 4
unfolding pair
pair_lt s k = mod-lt (get_or s (k / 4) 0 / 4 ^ (k % 4)) (zero-lt-suc 3)

-- the pair after pair k, where k is not the last, and where it is
pub after-pair : (k m : ℕ) → k < last_pair → m ≡ suc k → m ≡ pair_after k
unfolding pair_after
after-pair k m h e = e ∙ ap (λ (b : Bool). cond b k (suc k)) (sym (ne_eqb k last_pair (λ q. omega arith)))

pub after_last : (k m : ℕ) → k ≡ last_pair → m ≡ k → m ≡ pair_after k
unfolding pair_after
after_last k m h e = e ∙ ap (λ (b : Bool). cond b k (suc k)) (sym (eq-eqb k last_pair h))

-- where a reader stands after a pair that is not the last
pub pair_read_next : {s : List ℕ} {k v b q : ℕ} → PairRead s k v b q → k < last_pair → 4 * b + q ≡ k + 1
pair_read_next {k = k} h l = h.next ∙ sym (after-pair k (k + 1) l (omega arith))

-- the pair at a place, of the byte that stands there
place_pair : (s : List ℕ) (k b q : ℕ) → k ≡ 4 * b + q → q < 4 → pair s k ≡ get_or s b 0 / 2 ^ (2 * q) % 4
place_pair s k b q e h = ap (pair s) e ∙ sym (pair_of s b q h)

-- a number of four pairs, by each of them
four_digits : (x p₀ p₁ p₂ p₃ : ℕ) → x % 4 ≡ p₀ → x / 4 % 4 ≡ p₁ → x / 16 % 4 ≡ p₂ → x / 64 % 4 ≡ p₃ → x % 256 ≡ p₀ + 4 * (p₁ + 4 * (p₂ + 4 * (p₃ + 4 * 0)))
four_digits x p₀ p₁ p₂ p₃ e₀ e₁ e₂ e₃ =
    sum (x % 256) (x / 4 % 64) (x / 16 % 16) (x % 4) (x / 4 % 4) (x / 16 % 4) (x / 64 % 4)
    (mod-mul x {m = 64} {c = 4} (lit< tt) (lit< tt))
    (mod-mul (x / 4) {m = 16} {c = 4} (lit< tt) (lit< tt) ∙ ap (λ (y : ℕ). y % 16 * 4 + x / 4 % 4) (div-div-eq-div-mul x 4 4))
    (mod-mul (x / 16) {m = 4} {c = 4} (lit< tt) (lit< tt) ∙ ap (λ (y : ℕ). y % 4 * 4 + x / 16 % 4) (div-div-eq-div-mul x 16 4))
    e₀ e₁ e₂ e₃
  where
    sum : (a b c d₀ d₁ d₂ d₃ : ℕ) → a ≡ b * 4 + d₀ → b ≡ c * 4 + d₁ → c ≡ d₃ * 4 + d₂ → d₀ ≡ p₀ → d₁ ≡ p₁ → d₂ ≡ p₂ → d₃ ≡ p₃
        → a ≡ p₀ + 4 * (p₁ + 4 * (p₂ + 4 * (p₃ + 4 * 0)))
    sum a b c d₀ d₁ d₂ d₃ ea eb ec f₀ f₁ f₂ f₃ = omega arith

-- pairs of two bytes, one after the other, moved down
module _ (s : List ℕ) (b : ℕ) (l : get_or s b 0 < 256) where
  abbrev both : ℕ
  both = get_or s b 0 + 256 * get_or s (b + 1) 0

  -- pair i of both, for each i
  in_first : (i m k : ℕ) → i < 4 → m ≡ 2 ^ (2 * i) → k ≡ 4 * b + i → both / m % 4 ≡ pair s k
  in_first zero m k h em ek = rw em (omega (arith, place_pair s k b 0 ek h))
  in_first (suc zero) m k h em ek = rw em (omega (arith, place_pair s k b 1 ek h))
  in_first (suc (suc zero)) m k h em ek = rw em (omega (arith, place_pair s k b 2 ek h))
  in_first (suc (suc (suc zero))) m k h em ek = rw em (omega (arith, place_pair s k b 3 ek h))
  in_first (suc (suc (suc (suc i)))) m k h em ek = absurd (omega arith)

  in_second : (i m k : ℕ) → i < 4 → m ≡ 256 * 2 ^ (2 * i) → k ≡ 4 * (b + 1) + i → both / m % 4 ≡ pair s k
  in_second i m k h em ek =
      let e : both / 256 ≡ get_or s (b + 1) 0 = omega arith in
      ap (λ (n : ℕ). both / n % 4) em ∙ ap (λ (n : ℕ). n % 4) (sym (div-div-eq-div-mul both 256 (2 ^ (2 * i))))
      ∙ ap (λ (n : ℕ). n / 2 ^ (2 * i) % 4) e ∙ sym (place_pair s k (b + 1) i ek h)

  moved : (m n p : ℕ) → both / (m * n) % 4 ≡ p → both / m / n % 4 ≡ p
  moved m n p e = ap (λ (x : ℕ). x % 4) (div-div-eq-div-mul both m n) ∙ e

  -- four pairs from pair q of byte b on, of that byte and the next
  pub four_of : (q : ℕ) → q < 4 → both / 2 ^ (2 * q) % 256 ≡ pairs s (4 * b + q) 4
  unfolding pairs
  four_of zero h =
      four_digits (both / 1) _ _ _ _ (in_first 0 1 _ h refl refl) (moved 1 4 _ (in_first 1 4 _ (lit< tt) refl (omega arith)))
      (moved 1 16 _ (in_first 2 16 _ (lit< tt) refl (omega arith))) (moved 1 64 _ (in_first 3 64 _ (lit< tt) refl (omega arith)))
  four_of (suc zero) h =
      four_digits (both / 4) _ _ _ _ (in_first 1 4 _ h refl refl) (moved 4 4 _ (in_first 2 16 _ (lit< tt) refl (omega arith)))
      (moved 4 16 _ (in_first 3 64 _ (lit< tt) refl (omega arith))) (moved 4 64 _ (in_second 0 256 _ (lit< tt) refl (omega arith)))
  four_of (suc (suc zero)) h =
      four_digits (both / 16) _ _ _ _ (in_first 2 16 _ h refl refl) (moved 16 4 _ (in_first 3 64 _ (lit< tt) refl (omega arith)))
      (moved 16 16 _ (in_second 0 256 _ (lit< tt) refl (omega arith))) (moved 16 64 _ (in_second 1 1024 _ (lit< tt) refl (omega arith)))
  four_of (suc (suc (suc zero))) h =
      four_digits (both / 64) _ _ _ _ (in_first 3 64 _ h refl refl) (moved 64 4 _ (in_second 0 256 _ (lit< tt) refl (omega arith)))
      (moved 64 16 _ (in_second 1 1024 _ (lit< tt) refl (omega arith))) (moved 64 64 _ (in_second 2 4096 _ (lit< tt) refl (omega arith)))
  four_of (suc (suc (suc (suc q)))) h = absurd (omega arith)

-- the power of two by which n pairs are taken is not 0
pub power_some : (n : ℕ) → n ≤ 4 → 0 < 1 * 2 ^ (2 * n) % 2 ^ 64
power_some zero h = lit< tt
power_some (suc zero) h = lit< tt
power_some (suc (suc zero)) h = lit< tt
power_some (suc (suc (suc zero))) h = lit< tt
power_some (suc (suc (suc (suc zero)))) h = lit< tt
power_some (suc (suc (suc (suc (suc n))))) h = absurd (omega arith)

-- the first n of them: what is left by a power of two, shifted as a word
pub pairs-front : (s : List ℕ) (k n : ℕ) → n ≤ 4 → pairs s k 4 % (1 * 2 ^ (2 * n) % 2 ^ 64) ≡ pairs s k n
unfolding pairs
pairs-front s k zero h = omega arith
pairs-front s k (suc zero) h = omega (arith, pair_lt s k)
pairs-front s k (suc (suc zero)) h = omega (arith, pair_lt s k, pair_lt s (suc k))
pairs-front s k (suc (suc (suc zero))) h = omega (arith, pair_lt s k, pair_lt s (suc k), pair_lt s (suc (suc k)))
pairs-front s k (suc (suc (suc (suc zero)))) h =
    omega (arith, pair_lt s k, pair_lt s (suc k), pair_lt s (suc (suc k)), pair_lt s (suc (suc (suc k))))
pairs-front s k (suc (suc (suc (suc (suc n))))) h = absurd (omega arith)

-- the pair after n pairs, where it can be named, and where it can't
pub after-pairs : (n k m : ℕ) → k + n ≤ last_pair → m ≡ k + n → m ≡ pairs_after n k
unfolding pairs_after
after-pairs n k m h e = e ∙ ap (λ (b : Bool). cond b k (k + n)) (sym (le-ltb last_pair (k + n) h))

pub after_none : (n k m : ℕ) → last_pair < k + n → m ≡ k → m ≡ pairs_after n k
unfolding pairs_after
after_none n k m h e = e ∙ ap (λ (b : Bool). cond b k (k + n)) (sym (lt-ltb last_pair (k + n) h))

-- where a reader stands after n pairs that are not the last
pub pairs_read_next : {s : List ℕ} {n k v b q : ℕ} → PairsRead s n k v b q → k + n ≤ last_pair → 4 * b + q ≡ k + n
pairs_read_next {n = n} {k = k} h l = h.next ∙ sym (after-pairs n k (k + n) l refl)

-- one pair of several is a pair
pub pair_read : {s : List ℕ} {k v b q : ℕ} → PairsRead s 1 k v b q → k ≤ last_pair → PairRead s k v b q
unfolding pairs
pair_read {k = k} h l =
    record {
      value_is = h.value_is ∙ omega arith;
      place = h.place;
      next = h.next ∙ after (ℕ_discrete k last_pair);
    }
  where
    after : Dec (k ≡ last_pair) → pairs_after 1 k ≡ pair_after k
    after (yes e) = sym (after_none 1 k k (omega arith) refl) ∙ after_last k k e refl
    after (no n) = sym (after-pairs 1 k (k + 1) (omega arith) refl) ∙ after-pair k (k + 1) (omega arith) (omega arith)

-- a pair by its number, from its byte and its place there
pub pair_read_at : {s : List ℕ} {v b q : ℕ} (k : ℕ) → PairRead s (4 * (k / 4) + k % 4 % 4) v b q → PairRead s k v b q
pair_read_at {s} {v} {b} {q} k h =
    let e : 4 * (k / 4) + k % 4 % 4 ≡ k = omega arith in
    subst (λ (x : ℕ). PairRead s x v b q) e h

-- four pairs from a place of one byte on end at that place of the next
pub fours_read_next : {s : List ℕ} {v b q : ℕ} (byte at : ℕ) → PairsRead s 4 (4 * byte + at % 4) v b q → at < 4 → 4 * byte + at + 4 ≤ last_pair → b ≡ byte + 1
fours_read_next byte at h l m = omega (arith, pairs_read_next h (omega arith), h.place)
