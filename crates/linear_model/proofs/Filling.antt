-- Laws of a list that a loop overwrites from the front, and of one that it overwrites in two planes.
use mathlib.Core.Path.{◌≡◌, refl, sym, ap, ◌∙◌}
use mathlib.Core.List.{List, ◌++◌}
use mathlib.Core.Logic.{◌≢◌}
use Prim.Native.Nat.{ℕ, ◌+◌, ◌-◌, ◌*◌, ◌<◌, ◌≤◌, zero-le}
use native.Mathlib.Nat.{not-suc-le-zero, le_refl}
use native.Mathlib.Decide.{dec_lt}
use native.Mathlib.Omega.{arith}
use lib.ListN.{length, get_or, set, drop, length-set, length-drop, length-append, get_or-append}
use lib.Seq.{ext_get_or, get_or-append-add, get_or-drop, get_or-set_same, get_or-set_other}
use Rattle.linear_model.specs.Tables.{tabulate}
use Rattle.linear_model.specs.Bits.{byte_of, pack}
use Rattle.linear_model.specs.Trits.{low, high, pack_trits}
use Rattle.linear_model.specs.Internal.Planes.{PlaneBits}
use Rattle.linear_model.proofs.Tables.{length-tabulate, get_d_tabulate}
use Rattle.linear_model.proofs.Strings.{length-pack}
use Rattle.linear_model.proofs.Vectors.{length-pack_trits}

-- elements of two lists in a row
module _ (n : ℕ) (a b : List ℕ) (e : length a ≡ n) (k : ℕ) where
  pub get_d_front : k < n → get_or (a ++ b) k 0 ≡ get_or a k 0
  get_d_front l = get_or-append a b 0 k (omega arith)

  pub get_d_back : n ≤ k → get_or (a ++ b) k 0 ≡ get_or b (k - n) 0
  get_d_back l =
      let o : k ≡ length a + (k - n) = omega arith in
      ap (λ (j : ℕ). get_or (a ++ b) j 0) o ∙ get_or-append-add a b (k - n) 0

-- ---- from the front

-- d, with its first i elements overwritten by f 0, f 1, .. f (i − 1)
unfoldable pub written : (ℕ → ℕ) → ℕ → List ℕ → List ℕ
written f i d = tabulate i f ++ drop i d

-- the invariant of a loop that stores f 0, f 1, .. from the front: after i stores d has become s
pub record Filling (f : ℕ → ℕ) (i : ℕ) (d s : List ℕ) : Type 0 where
  pub within : i ≤ length d
  pub long : length s ≡ length d
  pub done : (k : ℕ) → k < i → get_or s k 0 ≡ f k
  pub left : (k : ℕ) → i ≤ k → get_or s k 0 ≡ get_or d k 0

module _ {f : ℕ → ℕ} {d : List ℕ} where
  -- where the loop begins
  pub filling_none : Filling f 0 d d
  filling_none = record { within = zero-le; long = refl; done = λ k l. absurd (not-suc-le-zero l); left = λ k _. refl }

  -- places p to j are stored; they may begin before the place that is reached
  pub filling_step : {i : ℕ} {s t : List ℕ} (p j : ℕ) → Filling f i d s → p ≤ i → i ≤ j → j ≤ length d → length t ≡ length s
      → ((k : ℕ) → p ≤ k → k < j → get_or t k 0 ≡ f k) → ((k : ℕ) → k < p → get_or t k 0 ≡ get_or s k 0) → ((k : ℕ) → j ≤ k → get_or t k 0 ≡ get_or s k 0)
      → Filling f j d t
  filling_step {i} {s} {t} p j h hp hj l e new before after =
      record { within = l; long = e ∙ h.long; done = λ k r. pick k r (dec_lt k p); left = λ k r. after k r ∙ h.left k (omega arith) }
    where
      pick : (k : ℕ) → k < j → Dec (k < p) → get_or t k 0 ≡ f k
      pick k r (yes q) = before k q ∙ h.done k (omega arith)
      pick k r (no q) = new k (omega arith) r

  -- one store more
  pub filling_more : {i : ℕ} {s : List ℕ} {x : ℕ} → Filling f i d s → i < length s → x ≡ f i → Filling f (i + 1) d (set s i x)
  filling_more {i} {s} {x} h l e =
      filling_step i (i + 1) h (omega arith) (omega arith) (omega (arith, h.long)) (length-set s i x)
      (λ k a b. let o : k ≡ i = omega arith in rw o (get_or-set_same s i x 0 l ∙ e))
      (λ k a. get_or-set_other s i k x 0 (omega arith)) (λ k a. get_or-set_other s i k x 0 (omega arith))

  -- what is not overwritten yet is as it was
  pub filling_at : {i : ℕ} {s : List ℕ} → Filling f i d s → get_or s i 0 ≡ get_or d i 0
  filling_at {i} h = h.left i (le_refl i)

  -- after i stores
  pub filling_is : {i : ℕ} {s : List ℕ} → Filling f i d s → s ≡ written f i d
  unfolding written
  filling_is {i} {s} h = ext_get_or 0 s (written f i d) size (λ k l. pick k (dec_lt k i))
    where
      n : length (tabulate i f) ≡ i
      n = length-tabulate i f

      size : length s ≡ length (written f i d)
      size = rw (length-append, n, length-drop) (omega (arith, h.long, h.within))

      pick : (k : ℕ) → Dec (k < i) → get_or s k 0 ≡ get_or (written f i d) k 0
      pick k (yes r) = h.done k r ∙ sym (get_d_front i (tabulate i f) (drop i d) n k r ∙ get_d_tabulate i f k r)
      pick k (no r) =
          let o : i + (k - i) ≡ k = omega arith in
          h.left k (omega arith) ∙ sym (get_d_back i (tabulate i f) (drop i d) n k (omega arith) ∙ get_or-drop i d (k - i) 0 ∙ ap (λ (j : ℕ). get_or d j 0) o)

  -- where it ends
  pub filling_all : {i : ℕ} {s : List ℕ} → Filling f i d s → length s ≤ i → s ≡ tabulate (length d) f
  filling_all {i} {s} h l =
      let n = length-tabulate (length d) f in
      ext_get_or 0 s (tabulate (length d) f) (h.long ∙ sym n) (λ k r. h.done k (omega arith) ∙ sym (get_d_tabulate (length d) f k (omega (arith, h.long))))

-- ---- in two planes

-- the invariant of a loop that stores the planes of the trits f, m bytes each: after i bytes of each d has become s
pub record Planes (m : ℕ) (f : ℕ → ℕ) (i : ℕ) (d s : List ℕ) : Type 0 where
  pub room : m + m ≤ length d
  pub within : i ≤ m
  pub long : length s ≡ length d
  pub low-done : (k : ℕ) → k < i → get_or s k 0 ≡ byte_of (low f) k
  pub high-done : (k : ℕ) → k < i → get_or s (m + k) 0 ≡ byte_of (high f) k
  pub left : (k : ℕ) → m + m ≤ k → get_or s k 0 ≡ get_or d k 0

module _ {m : ℕ} {f : ℕ → ℕ} {d : List ℕ} where
  -- where the loop begins
  pub planes_none : m + m ≤ length d → Planes m f 0 d d
  planes_none h =
      record {
        room = h;
        within = zero-le;
        long = refl;
        low-done = λ k l. absurd (not-suc-le-zero l);
        high-done = λ k l. absurd (not-suc-le-zero l);
        left = λ k _. refl;
      }

  -- places p to j of each are stored; they may begin before the place that is reached
  pub planes_step : {i : ℕ} {s t : List ℕ} (p j : ℕ) → Planes m f i d s → p ≤ i → i ≤ j → j ≤ m → length t ≡ length s
      → ((k : ℕ) → p ≤ k → k < j → get_or t k 0 ≡ byte_of (low f) k) → ((k : ℕ) → p ≤ k → k < j → get_or t (m + k) 0 ≡ byte_of (high f) k)
      → ((k : ℕ) → k < p → get_or t k 0 ≡ get_or s k 0) → ((k : ℕ) → k < p → get_or t (m + k) 0 ≡ get_or s (m + k) 0)
      → ((k : ℕ) → m + m ≤ k → get_or t k 0 ≡ get_or s k 0) → Planes m f j d t
  planes_step {i} {s} {t} p j h hp hj l e new_low new_high before-low before-high after =
      record {
        room = h.room;
        within = l;
        long = e ∙ h.long;
        low-done = λ k r. pick_low k r (dec_lt k p);
        high-done = λ k r. pick_high k r (dec_lt k p);
        left = λ k r. after k r ∙ h.left k r;
      }
    where
      pick_low : (k : ℕ) → k < j → Dec (k < p) → get_or t k 0 ≡ byte_of (low f) k
      pick_low k r (yes q) = before-low k q ∙ h.low-done k (omega arith)
      pick_low k r (no q) = new_low k (omega arith) r

      pick_high : (k : ℕ) → k < j → Dec (k < p) → get_or t (m + k) 0 ≡ byte_of (high f) k
      pick_high k r (yes q) = before-high k q ∙ h.high-done k (omega arith)
      pick_high k r (no q) = new_high k (omega arith) r

  -- one byte more of each
  pub planes_more : {i : ℕ} {s : List ℕ} {x y : ℕ} → Planes m f i d s → i < m → PlaneBits 8 f i x y → Planes m f (i + 1) d (set (set s i x) (m + i) y)
  planes_more {i} {s} {x} {y} h l e =
      let n : length (set s i x) ≡ length s = length-set s i x in
      let other : (k : ℕ) → k ≢ i → k ≢ m + i → get_or (set (set s i x) (m + i) y) k 0 ≡ get_or s k 0 =
      λ k a b. get_or-set_other (set s i x) (m + i) k y 0 b ∙ get_or-set_other s i k x 0 a
      in
      planes_step i (i + 1) h (omega arith) (omega arith) (omega arith) (length-set (set s i x) (m + i) y ∙ n)
      (λ k a b. let o : k ≡ i = omega arith in
      get_or-set_other (set s i x) (m + i) k y 0 (omega arith) ∙ rw o (get_or-set_same s i x 0 (omega (arith, h.room, h.long)) ∙ e.low_is))
      (λ k a b. let o : k ≡ i = omega arith in rw o (get_or-set_same (set s i x) (m + i) y 0 (omega (arith, n, h.room, h.long)) ∙ e.high_is))
      (λ k a. other k (omega arith) (omega arith)) (λ k a. other (m + k) (omega arith) (omega arith)) (λ k a. other k (omega arith) (omega arith))

  -- where it ends
  pub planes_all : {i : ℕ} {s : List ℕ} → Planes m f i d s → m ≤ i → s ≡ pack_trits m f ++ drop (2 * m) d
  unfolding pack_trits pack
  planes_all {i} {s} h l = ext_get_or 0 s (pack_trits m f ++ drop (2 * m) d) size (λ k r. pick k (dec_lt k m) (dec_lt k (2 * m)))
    where
      n : length (pack_trits m f) ≡ 2 * m
      n = length-pack_trits m f

      size : length s ≡ length (pack_trits m f ++ drop (2 * m) d)
      size = rw (length-append, n, length-drop) (omega (arith, h.long, h.room))

      byte : (g : ℕ → ℕ) (k : ℕ) → k < m → get_or (pack m g) k 0 ≡ byte_of g k
      byte g k r = get_d_tabulate m (byte_of g) k r

      inner : (k : ℕ) → Dec (k < m) → k < 2 * m → get_or s k 0 ≡ get_or (pack_trits m f) k 0
      inner k (yes r) q = h.low-done k (omega arith) ∙ sym (get_d_front m (pack m (low f)) (pack m (high f)) (length-pack m (low f)) k r ∙ byte (low f) k r)
      inner k (no r) q =
          let o : k ≡ m + (k - m) = omega arith in
          ap (λ (j : ℕ). get_or s j 0) o ∙ h.high-done (k - m) (omega arith)
          ∙ sym (get_d_back m (pack m (low f)) (pack m (high f)) (length-pack m (low f)) k (omega arith) ∙ byte (high f) (k - m) (omega arith))

      pick : (k : ℕ) → Dec (k < m) → Dec (k < 2 * m) → get_or s k 0 ≡ get_or (pack_trits m f ++ drop (2 * m) d) k 0
      pick k c (yes r) = inner k c r ∙ sym (get_d_front (2 * m) (pack_trits m f) (drop (2 * m) d) n k r)
      pick k c (no r) =
          let o : 2 * m + (k - 2 * m) ≡ k = omega arith in
          h.left k (omega arith) ∙ sym (get_d_back (2 * m) (pack_trits m f) (drop (2 * m) d) n k (omega arith) ∙ get_or-drop (2 * m) d (k - 2 * m) 0 ∙ ap (λ (j : ℕ). get_or d j 0) o)
