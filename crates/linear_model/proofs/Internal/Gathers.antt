-- Laws of tests that a loop gathers in one byte: it is 0 just where the test holds at every place.
use mathlib.Core.Path.{◌≡◌, refl, sym, ap, subst, ◌∙◌}
use mathlib.Core.List.{List}
use mathlib.Core.Bool.{Bool, true, false, cond}
use Prim.Native.Nat.{ℕ, zero, suc, ◌+◌, ◌-◌, ◌*◌, ◌/◌, ◌%◌, ◌^◌, ◌<◌, ◌≤◌, min, zero-le, suc-le-suc}
use native.Mathlib.Nat.{zero-add, zero-lt-suc}
use native.Mathlib.Decide.{dec_lt}
use native.Mathlib.Omega.{arith}
use lib.Bits.{bit_xor, bit_and, bit_or, or_zero_l, or_add_and, and_le_l, and_le_r}
use lib.Dec.{T, ltb, eqb, eqb→eq, lit<}
use borrow.Author.Tests.{lt-ltb, le-ltb}
use Rattle.linear_model.specs.Tables.{every, from}
use Rattle.linear_model.specs.Bits.{bit_at, from_bits, byte_of}
use Rattle.linear_model.specs.Trits.{trit, fit_trit, fit_trits, zero_trits}
use Rattle.linear_model.specs.Internal.Planes.{trit_of}
use Rattle.linear_model.specs.Internal.Tests.{Shows, inside, fit_before, zero_after}
use Rattle.linear_model.proofs.Tables.{bool_ext, every-at, every_of}
use Rattle.linear_model.proofs.NumberBits.{from_bits_ext, from_bits-none, from_bits_of, from_bits-zeros, bit_at-from_bits, bit_at_lt, bit_at_zero, and-bit_at, or-bit_at, xor_bit_at}
use Rattle.linear_model.proofs.WordBits.{word_byte}

-- ---- all places of some bytes

to_zero : (x : ℕ) → x ≡ 0 → T (eqb x 0)
to_zero x e = rw e tt

zero_bits_at : (w x : ℕ) → x < 2 ^ w → ((k : ℕ) → k < w → bit_at x k ≡ 0) → x ≡ 0
zero_bits_at w x h e = from_bits_of w x (λ _. 0) h e ∙ from_bits-none w (λ _. 0) (λ _ _. refl)

-- w places more, from p on, of which some may be known already
pub gather : (test : ℕ → Bool) (p w i acc x : ℕ) → p ≤ i → i ≤ p + w → x < 2 ^ w → Shows w test p x → eqb acc 0 ≡ every i test → eqb (bit_or acc x) 0 ≡ every (p + w) test
gather test p w i acc x hp hi h s e = bool_ext (eqb (bit_or acc x) 0) (every (p + w) test) to fro
  where
    to : T (eqb (bit_or acc x) 0) → T (every (p + w) test)
    to z =
        let o : bit_or acc x ≡ 0 = eqb→eq (bit_or acc x) 0 z in
        let ea : acc ≡ 0 = omega (arith, or_add_and acc x, and_le_r acc x) in
        let ex : x ≡ 0 = omega (arith, or_add_and acc x, and_le_l acc x) in
        let before : T (every i test) = subst T e (to_zero acc ea) in
        every_of (p + w) test (λ j l. pick j l before ex (dec_lt j i))
      where
        pick : (j : ℕ) → j < p + w → T (every i test) → x ≡ 0 → Dec (j < i) → T (test j)
        pick j l b ex (yes r) = every-at i test b j r
        pick j l b ex (no r) =
            let o : p + (j - p) ≡ j = omega arith in
            rw o at (subst T (s (j - p) (omega arith)) (to_zero (bit_at x (j - p)) (ap (λ (z : ℕ). bit_at z (j - p)) ex ∙ bit_at_zero (j - p))))

    fro : T (every (p + w) test) → T (eqb (bit_or acc x) 0)
    fro z =
        let ea : acc ≡ 0 = eqb→eq acc 0 (subst T (sym e) (every_of i test (λ j l. every-at (p + w) test z j (omega arith)))) in
        let ex : x ≡ 0 = zero_bits_at w x h (λ k l. eqb→eq (bit_at x k) 0 (subst T (sym (s k l)) (every-at (p + w) test z (p + k) (omega arith)))) in
        to_zero (bit_or acc x) (omega (arith, or_add_and acc x))

-- one byte more
pub gather_byte : (test : ℕ → Bool) (i acc x : ℕ) → x < 256 → Shows 8 test (8 * i) x → eqb acc 0 ≡ every (8 * i) test → eqb (bit_or acc x) 0 ≡ every (8 * (i + 1)) test
gather_byte test i acc x h s e =
    gather test (8 * i) 8 (8 * i) acc x (omega arith) (omega arith) h s e ∙ ap (λ (n : ℕ). every n test) (omega arith)

-- one byte more, where all before it were 0
pub gather_zero : (test : ℕ → Bool) (i x : ℕ) → x < 256 → Shows 8 test (8 * i) x → true ≡ every (8 * i) test → eqb x 0 ≡ every (8 * (i + 1)) test
gather_zero test i x h s e = ap (λ (y : ℕ). eqb y 0) (sym (or_zero_l x)) ∙ gather_byte test i 0 x h s e

-- a test of the places before t
every_before : (t n : ℕ) (test : ℕ → Bool) → every n (λ j. cond (ltb j t) (test j) true) ≡ every (min t n) test
every_before t n test =
    bool_ext (every n (λ j. cond (ltb j t) (test j) true)) (every (min t n) test)
    (λ z. every_of (min t n) test (λ j l. rw (lt-ltb j t (omega arith)) at (every-at n (λ j. cond (ltb j t) (test j) true) z j (omega arith))))
    (λ z. every_of n (λ j. cond (ltb j t) (test j) true) (λ j l. pick z j l (dec_lt j t)))
  where
    pick : T (every (min t n) test) → (j : ℕ) → j < n → Dec (j < t) → T (cond (ltb j t) (test j) true)
    pick z j l (yes r) = rw (lt-ltb j t r) (every-at (min t n) test z j (omega arith))
    pick z j l (no r) = rw (le-ltb j t (omega arith)) tt

-- a test of the places from t on
every-after : (t n : ℕ) (test : ℕ → Bool) → every n (λ j. cond (ltb j t) true (test j)) ≡ every (n - t) (λ k. test (t + k))
every-after t n test =
    bool_ext (every n (λ j. cond (ltb j t) true (test j))) (every (n - t) (λ k. test (t + k)))
    (λ z. every_of (n - t) (λ k. test (t + k))
    (λ k l. rw (le-ltb (t + k) t (omega arith)) at (every-at n (λ j. cond (ltb j t) true (test j)) z (t + k) (omega arith))))
    (λ z. every_of n (λ j. cond (ltb j t) true (test j)) (λ j l. pick z j l (dec_lt j t)))
  where
    pick : T (every (n - t) (λ k. test (t + k))) → (j : ℕ) → j < n → Dec (j < t) → T (cond (ltb j t) true (test j))
    pick z j l (yes r) = rw (lt-ltb j t r) tt
    pick z j l (no r) =
        let e : t + (j - t) ≡ j = omega arith in
        rw (le-ltb j t (omega arith)) (rw e at (every-at (n - t) (λ k. test (t + k)) z (j - t) (omega arith)))

pub all_fit : (m t : ℕ) (v : List ℕ) → every (8 * m) (fit_before m t v) ≡ fit_trits m (min t (8 * m)) v
unfolding fit_trits
all_fit m t v = every_before t (8 * m) (fit_trit m v)

pub all_zero : (m t : ℕ) (v : List ℕ) → every (8 * m) (zero_after m t v) ≡ zero_trits m t v
unfolding zero_trits
all_zero m t v = every-after t (8 * m) (λ j. eqb (trit m v j) 0)

-- ---- the places of a byte or a word

-- r set bits
ones_bits : (r : ℕ) (f : ℕ → ℕ) → ((i : ℕ) → i < r → f i ≡ 1) → from_bits r f + 1 ≡ 2 ^ r
unfolding from_bits
ones_bits zero f e = refl
ones_bits (suc r) f e = omega (arith, e 0 (zero-lt-suc r), ones_bits r (λ i. f (suc i)) (λ i l. e (suc i) (suc-le-suc l)))

-- the low r of w bits are the places before t
pub places_are : (w t i r : ℕ) → r ≡ min (t - 8 * i) w → 2 ^ r - 1 ≡ from_bits w (from (8 * i) (inside t))
places_are w t i r e =
    let g : ℕ → ℕ = λ k. cond (ltb k r) 1 0 in
    let s : r + (w - r) ≡ w = omega arith in
    let low : from_bits w g ≡ from_bits r g = rw s at (from_bits-zeros r (w - r) g (λ k. rw (le-ltb (r + k) r (omega arith)))) in
    omega (arith, low, ones_bits r g (λ k l. rw (lt-ltb k r l)))
    ∙ from_bits_ext w g (from (8 * i) (inside t)) (λ k l. ap (λ (b : Bool). cond b 1 0) (pick k l (dec_lt k r)))
  where
    pick : (k : ℕ) → k < w → Dec (k < r) → ltb k r ≡ ltb (8 * i + k) t
    pick k l (yes h) = lt-ltb k r h ∙ sym (lt-ltb (8 * i + k) t (omega arith))
    pick k l (no h) = le-ltb k r (omega arith) ∙ sym (le-ltb (8 * i + k) t (omega arith))

inside_lt : (b : Bool) → cond b 1 0 < 2
inside_lt true = lit< tt
inside_lt false = lit< tt

inside-bit_at : (w t i z k : ℕ) → z ≡ from_bits w (from (8 * i) (inside t)) → k < w → bit_at z k ≡ inside t (8 * i + k)
inside-bit_at w t i z k e h =
    ap (λ (x : ℕ). bit_at x k) e ∙ bit_at-from_bits w (from (8 * i) (inside t)) (λ j. inside_lt (ltb (8 * i + j) t)) k h

-- the places of a byte, from those of a word
pub places_byte : (t i x : ℕ) → x ≡ from_bits 64 (from (8 * i) (inside t)) → x / 2 ^ 0 % 256 ≡ byte_of (inside t) i
places_byte t i x e = word_byte 0 x (from (8 * i) (inside t)) (lit< tt) (λ j. inside_lt (ltb (8 * i + j) t)) e ∙ from_bits_ext 8 _ _ (λ j _. ap (λ (k : ℕ). inside t (8 * i + k)) (zero-add j))

-- a fact of two bits holds where it holds of all four choices
two_bits : (P : ℕ → ℕ → Type 0) → P 0 0 → P 0 1 → P 1 0 → P 1 1 → (a b : ℕ) → a < 2 → b < 2 → P a b
two_bits P p q r s zero zero ha hb = p
two_bits P p q r s zero (suc zero) ha hb = q
two_bits P p q r s (suc zero) zero ha hb = r
two_bits P p q r s (suc zero) (suc zero) ha hb = s
two_bits P p q r s (suc (suc a)) b ha hb = absurd (omega arith)
two_bits P p q r s zero (suc (suc b)) ha hb = absurd (omega arith)
two_bits P p q r s (suc zero) (suc (suc b)) ha hb = absurd (omega arith)

fit_bits : (b : Bool) (x y : ℕ) → x < 2 → y < 2 → eqb (bit_and (bit_and x y) (cond b 1 0)) 0 ≡ cond b (ltb (x + 2 * y) 3) true
fit_bits true = two_bits (λ x y. eqb (bit_and (bit_and x y) 1) 0 ≡ ltb (x + 2 * y) 3) refl refl refl refl
fit_bits false = two_bits (λ x y. eqb (bit_and (bit_and x y) 0) 0 ≡ true) refl refl refl refl

zero_bits : (x y : ℕ) → x < 2 → y < 2 → eqb (bit_or x y) 0 ≡ eqb (x + 2 * y) 0
zero_bits = two_bits (λ x y. eqb (bit_or x y) 0 ≡ eqb (x + 2 * y) 0) refl refl refl refl

spare_bits : (b : Bool) (x y : ℕ) → x < 2 → y < 2 → eqb (bit_xor (bit_or x y) (bit_and (bit_or x y) (cond b 1 0))) 0 ≡ cond b true (eqb (x + 2 * y) 0)
spare_bits true = two_bits (λ x y. eqb (bit_xor (bit_or x y) (bit_and (bit_or x y) 1)) 0 ≡ true) refl refl refl refl
spare_bits false = two_bits (λ x y. eqb (bit_xor (bit_or x y) (bit_and (bit_or x y) 0)) 0 ≡ eqb (x + 2 * y) 0) refl refl refl refl

-- what w bits of each plane show of the trits, from byte i on
module _ (w m : ℕ) (v : List ℕ) (i x y : ℕ) (e : (k : ℕ) → k < w → trit m v (8 * i + k) ≡ trit_of x y k) where
  pub shows_fit : (t z : ℕ) → z ≡ from_bits w (from (8 * i) (inside t)) → Shows w (fit_before m t v) (8 * i) (bit_and (bit_and x y) z)
  shows_fit t z ez k h =
      rw (e k h, and-bit_at, and-bit_at, inside-bit_at w t i z k ez h) (fit_bits (ltb (8 * i + k) t) (bit_at x k) (bit_at y k) (bit_at_lt x k) (bit_at_lt y k))

  pub shows_spare : (t z : ℕ) → z ≡ from_bits w (from (8 * i) (inside t)) → Shows w (zero_after m t v) (8 * i) (bit_xor (bit_or x y) (bit_and (bit_or x y) z))
  shows_spare t z ez k h =
      rw (e k h, xor_bit_at, and-bit_at, or-bit_at, inside-bit_at w t i z k ez h)
      (spare_bits (ltb (8 * i + k) t) (bit_at x k) (bit_at y k) (bit_at_lt x k) (bit_at_lt y k))

  pub shows_zero : Shows w (zero_after m 0 v) (8 * i) (bit_or x y)
  shows_zero k h =
      rw (le-ltb (8 * i + k) 0 zero-le, e k h, or-bit_at) (zero_bits (bit_at x k) (bit_at y k) (bit_at_lt x k) (bit_at_lt y k))

-- before byte t / 8 nothing is spare
pub none_spare : (m t : ℕ) (v : List ℕ) (i : ℕ) → 8 * i ≤ t → eqb 0 0 ≡ every (8 * i) (zero_after m t v)
none_spare m t v i h =
    bool_ext true (every (8 * i) (zero_after m t v)) (λ _. every_of (8 * i) (zero_after m t v) (λ j l. rw (lt-ltb j t (omega arith)) tt)) (λ _. tt)
