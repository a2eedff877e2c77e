-- The two sums of a group of 256 bytes, from its lanes.
use mathlib.Core.Path.{◌≡◌, sym, ◌∙◌}
use mathlib.Core.List.{List}
use Prim.Native.Nat.{ℕ, ◌+◌, ◌*◌, ◌/◌, ◌%◌, ◌^◌, ◌<◌}
use native.Mathlib.Omega.{arith}
use lib.Pow.{shr-shr}
use Rattle.matrix_model.specs.Internal.Lanes.{Weighted, Sums, FourLanes, ColumnSums, column_sums, BothColumns, both_columns, GroupTotals}
use Rattle.matrix_model.proofs.Internal.Sums.{same, sums_same}

-- r is x modulo 255, and shorter
pub record Folded (x r : ℕ) : Type 0 where
  pub same_rest : r % 255 ≡ x % 255
  pub small : r < 2 ^ 33

-- both halves of x added up are that, since 2^32 is 1 modulo 255
pub halves_folded : {x r : ℕ} → (r ≡ x % 2 ^ 32 + x / 2 ^ 32) × (r < 2 ^ 33) → Folded x r
halves_folded {x} {r} h = record { same_rest = sym (same x r 0 (16843009 * (x / 2 ^ 32)) (omega (arith, h.0))); small = h.1 }

-- lanes, taken out of their word again
lane_at : (k x a y : ℕ) → x / 2 ^ k ≡ a + 65536 * y → a < 65536 → (x / 2 ^ k % 65536 ≡ a) × (x / 2 ^ (k + 16) ≡ y)
lane_at k x a y e h = (rw e (omega arith), rw (← shr-shr x k 16, e) (omega arith))

split_lanes : {pairs a b c d : ℕ} → FourLanes 16 pairs a b c d
    → (pairs % 65536 ≡ a) × (pairs / 2 ^ 16 % 65536 ≡ b) × (pairs / 2 ^ 32 % 65536 ≡ c) × (pairs / 2 ^ 48 % 65536 ≡ d)
split_lanes {pairs} {a} {b} {c} {d} h =
    let q = lane_at 16 pairs b (c + 65536 * d) (omega arith) (omega arith) in
    let r = lane_at 32 pairs c d q.1 (omega arith) in
    let t = lane_at 48 pairs d 0 (omega arith) (omega arith) in
    (omega arith, q.0, r.0, t.0)

-- what the lanes of a whole column are, folded and weighted
column_all : {pairs odd ahead f w h x y z t : ℕ} → Folded pairs x → Weighted pairs y → Folded odd z → Folded ahead t
    → ColumnSums 16 pairs odd ahead f w h → (x % 255 ≡ f % 255) × ((y + 254 * z) % 255 ≡ w % 255) × (t % 255 ≡ h % 255)
column_all {w = w} {z = z} ex ey ez et (column_sums a b c d o s ef ew eo eh) =
    let p = split_lanes s in
    let eo' : z % 255 ≡ o % 255 = ez.same_rest ∙ eo in (
      ex.same_rest ∙ sym (same _ _ (257 * b + 16843009 * c + 1103823438081 * d) 0 (omega arith)),
      rw (ey.is, p.0, p.1, p.2, p.3, ← ew) (same _ _ (254 * (o / 255)) (o + 254 * (z / 255)) (omega arith)),
      et.same_rest ∙ eh,
    )

-- the second sum of a group from those of its columns
group_second : (f w h v k x y z t y' z' t' : ℕ) → x % 255 ≡ f % 255 → (y + 254 * z) % 255 ≡ w % 255 → t % 255 ≡ h % 255
    → (y' + 254 * z') % 255 ≡ v % 255 → t' % 255 ≡ k % 255
    → (16 * (t + t') + y + 8 * x + y' + 254 * (z + z')) % 255 ≡ (16 * (h + k) + w + 8 * f + v) % 255
group_second f w h v k x y z t y' z' t' ex ey et ey' et' =
    same _ _ (16 * (h / 255 + k / 255) + w / 255 + 8 * (f / 255) + v / 255)
    (16 * (t / 255 + t' / 255) + (y + 254 * z) / 255 + 8 * (x / 255) + (y' + 254 * z') / 255) (omega arith)

-- which is small
pub group_small : (x y z t y' z' t' : ℕ) → x < 2 ^ 33 → y < 2 ^ 21 → z < 2 ^ 33 → t < 2 ^ 33 → y' < 2 ^ 21 → z' < 2 ^ 33 → t' < 2 ^ 33
    → 16 * (t + t') + y + 8 * x + y' + 254 * (z + z') < 2 ^ 43
group_small x y z t y' z' t' hx hy hz ht hy' hz' ht' = omega arith

-- the first sum is small
sum-small : (x z : ℕ) → x < 2 ^ 33 → z < 2 ^ 33 → x + z < 2 ^ 34
sum-small x z h k = omega arith

-- the two sums of a group, where the remainder is still to be taken
module _ {p o a q r b x y z t x' y' z' t' : ℕ} (ex : Folded p x) (ey : Weighted p y) (ez : Folded o z) (et : Folded a t)
    (ex' : Folded q x') (ey' : Weighted q y') (ez' : Folded r z') (et' : Folded b t') where
  group_sums : (s : List ℕ) → BothColumns s 256 p o a q r b → Sums s 256 (x + x') (16 * (t + t') + y + 8 * x + y' + 254 * (z + z'))
  group_sums s (both_columns f w h g v k c d u) =
      let l = column_all ex ey ez et c in
      let m = column_all ex' ey' ez' et' d in
      sums_same
      (same _ _ (f / 255 + g / 255) (x / 255 + x' / 255) (omega (arith, l.0, m.0)))
      (group_second f w h v k x y z t y' z' t' l.0 l.1 l.2 m.1 m.2)
      u

  pub sums_of : GroupTotals p o a q r b (x + x') (16 * (t + t') + y + 8 * x + y' + 254 * (z + z'))
  sums_of =
      record {
        sums = group_sums;
        first_small = sum-small x x' ex.small ex'.small;
        second-small = group_small x y z t y' z' t' ex.small ey.small ez.small et.small ey'.small ez'.small et'.small;
      }
