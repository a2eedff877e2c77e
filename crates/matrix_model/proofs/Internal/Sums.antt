-- Laws of the two sums of a block, where remainders are still to be taken.
use mathlib.Core.Path.{◌≡◌, refl, ◌∙◌}
use mathlib.Core.List.{List}
use Prim.Native.Nat.{ℕ, zero, suc, ◌+◌, ◌*◌, ◌%◌, ◌<◌}
use native.Mathlib.Nat.{le_refl, le_step, add-zero, mod-add-mod, add-mod-mod}
use native.Mathlib.Omega.{arith}
use lib.ListN.{get_or, take, drop}
use lib.Seq.{get_or-take, get_or-drop}
use Rattle.matrix_model.specs.Block.{first_sum, second_sum}
use Rattle.matrix_model.specs.Internal.Lanes.{Sums}
use Rattle.matrix_model.proofs.Blocks.{first_sum_lt, second_sum_lt}

-- numbers that differ by multiples of 255
pub same : (x y k m : ℕ) → x + 255 * k ≡ y + 255 * m → x % 255 ≡ y % 255
same x y k m e = omega arith

-- the place k after i, by steps of one, as the sums are defined
abbrev pub after : ℕ → ℕ → ℕ
after zero i = i
after (suc k) i = suc (after k i)

-- the sum of eight bytes
abbrev pub plain : List ℕ → ℕ → ℕ
plain s i =
    get_or s i 0 + get_or s (after 1 i) 0 + get_or s (after 2 i) 0 + get_or s (after 3 i) 0
    + get_or s (after 4 i) 0 + get_or s (after 5 i) 0 + get_or s (after 6 i) 0 + get_or s (after 7 i) 0

-- the same, each as often as there are places from it on
abbrev pub placed : List ℕ → ℕ → ℕ
placed s i =
    8 * get_or s i 0 + 7 * get_or s (after 1 i) 0 + 6 * get_or s (after 2 i) 0 + 5 * get_or s (after 3 i) 0
    + 4 * get_or s (after 4 i) 0 + 3 * get_or s (after 5 i) 0 + 2 * get_or s (after 6 i) 0 + get_or s (after 7 i) 0

-- a step back, where 254 is -1
less_first : (f x b : ℕ) → f < 255 → x % 255 ≡ (f + b) % 255 → (x + 254 * b) % 255 ≡ f
less_first f x b l e = omega arith

less_second : (g x y f : ℕ) → g < 255 → x % 255 ≡ f → y % 255 ≡ (g + f) % 255 → (y + 254 * x) % 255 ≡ g
less_second g x y f l d e = omega arith

-- a step of the sums of another list after these
join_first : (x f b : ℕ) → (x + (f + b) % 255) % 255 ≡ (x + f + b) % 255
join_first x f b = omega arith

join_second : (x y n f g b : ℕ) → (y + suc n * x + (g + (f + b) % 255) % 255) % 255 ≡ (y + n * x + g + (x + f + b)) % 255
join_second x y n f g b = omega arith

sum_same : (x z f : ℕ) → z % 255 ≡ f → (x + z) % 255 ≡ (x + f) % 255
sum_same x z f e = omega arith

-- ---- the sums of bytes

module _ {s : List ℕ} where
  -- no byte yet
  pub sums_none : Sums s 0 0 0
  unfolding first_sum second_sum
  sums_none = record { first_is = refl; second_is = refl }

  -- any numbers that are the same modulo 255
  pub sums_same : {i x y x' y' : ℕ} → x' % 255 ≡ x % 255 → y' % 255 ≡ y % 255 → Sums s i x y → Sums s i x' y'
  sums_same p q h = record { first_is = p ∙ h.first_is; second_is = q ∙ h.second_is }

  -- one byte more
  sums_more : {i x y : ℕ} → Sums s i x y → Sums s (suc i) (x + get_or s i 0) (y + (x + get_or s i 0))
  unfolding first_sum second_sum
  sums_more {i} {x} {y} h =
      let f : (x + get_or s i 0) % 255 ≡ (first_sum s i + get_or s i 0) % 255 = rw (← h.first_is, mod-add-mod) in
      record { first_is = f; second_is = rw (← f, ← h.second_is, mod-add-mod, add-mod-mod) }

  -- one byte less: 254 is -1
  sums_less : {i x y : ℕ} → Sums s (suc i) x y → Sums s i (x + 254 * get_or s i 0) (y + 254 * x)
  unfolding first_sum second_sum
  sums_less {i} {x} {y} h =
      record {
        first_is = less_first (first_sum s i) x (get_or s i 0) (first_sum_lt s i) h.first_is;
        second_is = less_second (second_sum s i) x y _ (second_sum_lt s i) h.first_is h.second_is;
      }

  -- eight bytes more
  pub sums_eight : {i x y : ℕ} → Sums s i x y → Sums s (after 8 i) (x + plain s i) (y + 8 * x + placed s i)
  sums_eight {i} {x} {y} h =
      sums_same (same _ _ 0 0 (omega arith)) (same _ _ 0 0 (omega arith))
      (sums_more (sums_more (sums_more (sums_more (sums_more (sums_more (sums_more (sums_more h))))))))

  -- the bytes of another list after them
  sums_join : (t : List ℕ) {m x y : ℕ} (n : ℕ) → ((k : ℕ) → k < n → get_or t k 0 ≡ get_or s (m + k) 0) → Sums s m x y
      → Sums s (m + n) (x + first_sum t n) (y + n * x + second_sum t n)
  unfolding first_sum second_sum
  sums_join t {m} {x} {y} zero e h = rw (add-zero m) (sums_same (same _ _ 0 0 (omega arith)) (same _ _ 0 0 (omega arith)) h)
  sums_join t {m} {x} {y} (suc n) e h =
      let l = sums_more (sums_join t n (λ k j. e k (le_step j)) h) in
      let m' : m + suc n ≡ suc (m + n) = omega arith in
      rw (m', e n (le_refl (suc n))) (sums_same (join_first x (first_sum t n) _) (join_second x y n (first_sum t n) (second_sum t n) _) l)

  sums_part : (t : List ℕ) {m x y z w : ℕ} (n : ℕ) → ((k : ℕ) → k < n → get_or t k 0 ≡ get_or s (m + k) 0) → Sums s m x y → Sums t n z w
      → Sums s (m + n) (x + z) (y + n * x + w)
  sums_part t {m} {x} {y} {z} {w} n e h k =
      sums_same (sum_same x z (first_sum t n) k.first_is) (sum_same (y + n * x) w (second_sum t n) k.second_is) (sums_join t n e h)

-- ---- a block

-- two groups, less the last two bytes
pub check_sums : {s : List ℕ} {x y z w p q : ℕ} → Sums (take 256 s) 256 x y → Sums (take 256 (drop 256 s)) 256 z w
    → p ≡ get_or s 510 0 → q ≡ get_or s 511 0
    → Sums s 510 (x + z + 254 * (p + q)) (y + 256 * x + w + 253 * (x + z + 254 * (p + q)) + 253 * p + 254 * q)
check_sums {s} {x} {y} {z} {w} {p} {q} h k ep eq =
    let at : (m j : ℕ) → j < 256 → get_or (take 256 (drop m s)) j 0 ≡ get_or s (m + j) 0 = λ m j l. get_or-take 256 (drop m s) j 0 l ∙ get_or-drop m s j 0 in
    let half : Sums s 256 (0 + x) (0 + 256 * 0 + y) = sums_part (take 256 s) 256 (at 0) sums_none h in
    let all : Sums s 512 (0 + x + z) (0 + 256 * 0 + y + 256 * (0 + x) + w) = sums_part (take 256 (drop 256 s)) 256 (at 256) half k in
    sums_same
    (same _ _ 0 0 (omega arith))
    (same _ _ (x + z) (253 * p) (omega arith))
    (sums_less {i = 510} (sums_less {i = 511} all))
