-- Laws of the lanes in which the code adds up the bytes of words.
use mathlib.Core.Path.{◌≡◌, refl, ◌∙◌}
use mathlib.Core.List.{List}
use Prim.Native.Nat.{ℕ, zero, suc, ◌+◌, ◌-◌, ◌*◌, ◌/◌, ◌^◌, ◌<◌, ◌≤◌, zero-le}
use native.Mathlib.Nat.{le_refl, zero-add, suc-add}
use native.Mathlib.Omega.{arith}
use lib.Bits.{and_le_r}
use lib.Dec.{lit<}
use lib.ListN.{get_or}
use Rattle.linear_model.specs.Tables.{from}
use Rattle.linear_model.specs.Bits.{from_bits, bit}
use Rattle.linear_model.proofs.WordBytes.{value, value_is, and_lanes}
use Rattle.matrix_model.specs.Internal.Lanes.{Sums, WordAdded, FourLanes, ColumnSums, column_sums, BothColumns, both_columns, triangle, NoLaneFull, GroupLanes}
use Rattle.matrix_model.proofs.Internal.Sums.{same, after, plain, placed, sums_none, sums_same, sums_eight}

-- eight bytes more, those at even places in p and those at odd places in q. 65536 and its powers are 1 modulo 255: what they
-- are more, divided by 255, are the three large factors
column_more : (s : List ℕ) (i : ℕ) {n pairs odd ahead p q f w h : ℕ} → ColumnSums n pairs odd ahead f w h → ((k : ℕ) → get_or s k 0 < 256)
    → p ≡ get_or s i 0 + 65536 * (get_or s (after 2 i) 0 + 65536 * (get_or s (after 4 i) 0 + 65536 * get_or s (after 6 i) 0))
    → q ≡ get_or s (after 1 i) 0 + 65536 * (get_or s (after 3 i) 0 + 65536 * (get_or s (after 5 i) 0 + 65536 * get_or s (after 7 i) 0))
    → ColumnSums (suc n) (pairs + (p + q)) (odd + q) (ahead + pairs) (f + plain s i) (w + placed s i) (h + f)
column_more s i {n} {pairs} {odd} {ahead} {p} {q} {f} {w} {h} (column_sums a b c d o z ef ew eo eh) small ep eq =
    let x : ℕ → ℕ = λ k. get_or s (after k i) 0 in
    let l : (k : ℕ) → x k < 256 = λ k. small (after k i) in
    let z' : FourLanes (suc n) (pairs + (p + q)) (a + (x 0 + x 1)) (b + (x 2 + x 3)) (c + (x 4 + x 5)) (d + (x 6 + x 7)) =
    record {
      pairs_is = omega arith;
      a_small = omega (arith, l 0, l 1);
      b_small = omega (arith, l 2, l 3);
      c_small = omega (arith, l 4, l 5);
      d_small = omega (arith, l 6, l 7);
    } in
    column_sums {odd = odd + q} {ahead = ahead + pairs} {f = f + plain s i} {w = w + placed s i} {h = h + f} _ _ _ _ (o + (x 1 + x 3 + x 5 + x 7)) z' (omega arith) (omega arith)
    (same _ _ (o / 255) (odd / 255 + (257 * x 3 + 16843009 * x 5 + 1103823438081 * x 7)) (omega arith))
    (same _ _ (h / 255) (ahead / 255 + (257 * b + 16843009 * c + 1103823438081 * d)) (omega arith))

-- a word more
column_word : (s : List ℕ) (i : ℕ) {n x pairs odd ahead pairs' odd' ahead' f w h : ℕ} → ((k : ℕ) → get_or s k 0 < 256)
    → x ≡ from_bits 64 (from (8 * i) (bit s)) → WordAdded x pairs odd ahead pairs' odd' ahead'
    → ColumnSums n pairs odd ahead f w h → ColumnSums (suc n) pairs' odd' ahead' (f + plain s i) (w + placed s i) (h + f)
unfolding value
column_word s i {x = x} small e m c =
    let n : (k : ℕ) → get_or s (after k i) 0 < 256 = λ k. small (after k i) in
    let word : x ≡ value s i 8 = e ∙ value_is s small 8 i in
    let rest : x / 2 ^ 8 ≡ value s (suc i) 7 = rw word (omega (arith, small i)) in
    rw (m.pairs_is, m.odd_is, m.ahead_is)
    (column_more s i c small
    (rw word (and_lanes (n 0) (n 1) (n 2) (n 3) (n 4) (n 5) (n 6) (n 7)))
    (rw rest (and_lanes {h = 0} (n 1) (n 2) (n 3) (n 4) (n 5) (n 6) (n 7) (lit< tt))))

-- no lane fills in sixteen words
triangle_le : (k n : ℕ) → triangle n ≤ triangle (k + n)
unfolding triangle
triangle_le zero n = rw (zero-add n) (le_refl (triangle n))
triangle_le (suc k) n = rw (suc-add k n) (omega (arith, triangle_le k n))

triangle-small : (n : ℕ) → n ≤ 16 → triangle n ≤ 120
unfolding triangle
triangle-small n l =
    let e : 16 - n + n ≡ 16 = omega arith in
    rw e at (triangle_le (16 - n) n)

not_full_none : NoLaneFull 0 0 0 0
not_full_none = record { pairs_small = zero-le; odd_small = zero-le; ahead_small = zero-le }

not_full_more : {n x pairs odd ahead pairs' odd' ahead' : ℕ} → WordAdded x pairs odd ahead pairs' odd' ahead' → NoLaneFull n pairs odd ahead
    → NoLaneFull (suc n) pairs' odd' ahead'
unfolding triangle
not_full_more {x = x} m h =
    record {
      pairs_small = omega (arith, and_le_r x 0x00ff00ff00ff00ff, and_le_r (x / 2 ^ 8) 0x00ff00ff00ff00ff);
      odd_small = omega (arith, and_le_r (x / 2 ^ 8) 0x00ff00ff00ff00ff);
      ahead_small = omega arith;
    }

-- there is room for a word more
pub room : {n pairs odd ahead : ℕ} → NoLaneFull n pairs odd ahead → n ≤ 15 → (pairs < 2 ^ 63) × (odd < 2 ^ 63) × (ahead + pairs < 2 ^ 64)
unfolding triangle
room {n} h l =
    let t : triangle n + n ≤ 120 = triangle-small (suc n) (omega arith) in
    (omega arith, omega arith, omega arith)

-- ---- a group

-- where it begins
pub columns_none : {s : List ℕ} → GroupLanes s 0 0 0 0 0 0 0
columns_none =
    let z : FourLanes 0 0 0 0 0 0 = record { pairs_is = refl; a_small = zero-le; b_small = zero-le; c_small = zero-le; d_small = zero-le } in
    let c : ColumnSums 0 0 0 0 0 0 0 = column_sums 0 0 0 0 0 z refl refl refl refl in
    record { sums = both_columns 0 0 0 0 0 0 c c sums_none; left_small = not_full_none; right_small = not_full_none }

-- a row more
module _ {s : List ℕ} {i x y p o a q r b p' o' a' q' r' b' : ℕ} (small : (k : ℕ) → get_or s k 0 < 256)
    (ex : x ≡ from_bits 64 (from (8 * i) (bit s))) (ey : y ≡ from_bits 64 (from (8 * (i + 8)) (bit s)))
    (m : WordAdded x p o a p' o' a') (l : WordAdded y q r b q' r' b') where
  both_more : BothColumns s i p o a q r b → BothColumns s (i + 16) p' o' a' q' r' b'
  both_more (both_columns f w h g v k c d t) =
      let j : i + 16 ≡ after 8 (after 8 i) = omega arith in
      let n : (i + 16) / 16 ≡ suc (i / 16) = omega arith in
      let j' : i + 8 ≡ after 8 i = omega arith in
      let e = plain s i in
      let e' = plain s (after 8 i) in
      let u : Sums s (i + 16) (f + e + (g + e')) (16 * (h + f + (k + g)) + (w + placed s i) + 8 * (f + e) + (v + placed s (after 8 i))) =
      rw j (sums_same (same _ _ 0 0 (omega arith)) (same _ _ 0 0 (omega arith)) (sums_eight (sums_eight t))) in
      let c' : ColumnSums ((i + 16) / 16) p' o' a' (f + e) (w + placed s i) (h + f) = rw n (column_word s i small ex m c) in
      let d' : ColumnSums ((i + 16) / 16) q' r' b' (g + e') (v + placed s (after 8 i)) (k + g) = rw n (column_word s (after 8 i) small (rw j' at ey) l d) in
      both_columns _ _ _ _ _ _ c' d' u

  pub columns_more : GroupLanes s i p o a q r b → GroupLanes s (i + 16) p' o' a' q' r' b'
  columns_more h =
      let n : (i + 16) / 16 ≡ suc (i / 16) = omega arith in
      record { sums = both_more h.sums; left_small = rw n (not_full_more m h.left_small); right_small = rw n (not_full_more l h.right_small) }
