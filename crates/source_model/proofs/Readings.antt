-- Laws of a reader that keeps the trits that it finds, pair by pair and four pairs at a time.
use mathlib.Core.Path.{◌≡◌, sym, ap, ap₂, ◌∙◌, subst}
use mathlib.Core.List.{List, [], ◌∷◌, ◌++◌, append-nil, append_assoc}
use Prim.Native.Nat.{ℕ, suc, ◌+◌, ◌-◌, ◌*◌, ◌/◌, ◌%◌, ◌<◌, ◌≤◌, zero-le}
use native.Mathlib.Numerals.{add-one}
use native.Mathlib.Decide.{ℕ_discrete}
use native.Mathlib.Omega.{arith}
use lib.ListN.{length, set, take, length-set, length-take}
use lib.Seq.{take-set-le, take-suc-set, take_all}
use Rattle.source_model.specs.Pair.{pair}
use Rattle.source_model.specs.Draw.{Drawn, found, draw}
use Rattle.source_model.specs.Internal.Reading.{pairs}
use Rattle.source_model.specs.Internal.Drawing.{drawn_from, Reading, Drew, Kept, keep_pair, keep_four}
use Rattle.source_model.proofs.Pairs.{pair_lt}
use Rattle.source_model.proofs.Draws.{draw_skip, draw-found}

-- where a reader begins
pub reading_none : (s : List ℕ) (w k : ℕ) (t : List ℕ) → length t ≡ w → k ≤ 4 * length s → Reading s w k t 0 k
reading_none s w k t h l =
    let e : w ≡ w - 0 = omega arith in
    record {
      room = h;
      some = zero-le;
      within = l;
      trits = ap (λ (w : ℕ). (drawn_from s w k).trits) e;
      next = ap (λ (w : ℕ). (drawn_from s w k).next) e;
    }

-- where it began, by its number
pub reading_at : {s : List ℕ} {w : ℕ} {t : List ℕ} {f n : ℕ} (k : ℕ) → Reading s w (4 * (k / 4) + k % 4) t f n → Reading s w k t f n
reading_at {s} {w} {t} {f} {n} k h =
    let e : 4 * (k / 4) + k % 4 ≡ k = omega arith in
    subst (λ (x : ℕ). Reading s w x t f n) e h

-- one pair more
module _ {s : List ℕ} {w start : ℕ} (t : List ℕ) (f k p : ℕ) (h : Reading s w start t f k) (l : f < w) (m : k < 4 * length s) (e : p ≡ pair s k) where
  left : 4 * length s - k ≡ suc (4 * length s - suc k)
  left = omega arith

  wanted : w - f ≡ suc (w - suc f)
  wanted = omega arith

  now : drawn_from s (w - f) k ≡ draw s (suc (w - suc f)) (suc (4 * length s - suc k)) k
  now = ap₂ (λ (w l : ℕ). draw s w l k) wanted left

  pub reading_more : Reading s w start (set t f p) (f + (1 - p / 3)) (k + 1)
  reading_more = pick (ℕ_discrete p 3)
    where
      pick : Dec (p ≡ 3) → Reading s w start (set t f p) (f + (1 - p / 3)) (k + 1)
      pick (yes q) =
          let z : f + (1 - p / 3) ≡ f = omega arith in
          let r : drawn_from s (w - f) k ≡ drawn_from s (w - f) (suc k) =
          now ∙ draw_skip s (w - suc f) (4 * length s - suc k) k (sym e ∙ q) ∙ ap (λ (w : ℕ). draw s w (4 * length s - suc k) (suc k)) (sym wanted) in
          rw (z, add-one)
          record {
            room = length-set t f p ∙ h.room;
            some = h.some;
            within = omega arith;
            trits = h.trits ∙ ap₂ (λ (x : List ℕ) (d : Drawn). x ++ d.trits) (sym (take-set-le f t f p (omega arith))) r;
            next = h.next ∙ ap (λ (d : Drawn). d.next) r;
          }
      pick (no q) =
          let z : f + (1 - p / 3) ≡ suc f = omega (arith, rw (sym e) at (pair_lt s k)) in
          let r : drawn_from s (w - f) k ≡ found p (drawn_from s (w - suc f) (suc k)) =
          now ∙ draw-found s (w - suc f) (4 * length s - suc k) k (λ x. q (e ∙ x)) ∙ ap (λ (x : ℕ). found x (drawn_from s (w - suc f) (suc k))) (sym e) in
          rw (z, add-one)
          record {
            room = length-set t f p ∙ h.room;
            some = omega arith;
            within = omega arith;
            trits =
                h.trits ∙ ap (λ (d : Drawn). take f t ++ d.trits) r
                ∙ sym (append_assoc (take f t) (p ∷ []) (drawn_from s (w - suc f) (suc k)).trits)
                ∙ ap (λ (x : List ℕ). x ++ (drawn_from s (w - suc f) (suc k)).trits) (sym (take-suc-set t f p (omega (arith, h.room))));
            next = h.next ∙ ap (λ (d : Drawn). d.next) r;
          }

-- four pairs more, of a number that they make
module _ {s : List ℕ} {w start : ℕ} (t : List ℕ) (f k v : ℕ) (h : Reading s w start t f k) (l : f + 4 ≤ w) (m : k + 4 ≤ 4 * length s) (e : v ≡ pairs s k 4) where
  pairs_of : (v ≡ pair s k + 4 * (pair s (k + 1) + 4 * (pair s (k + 1 + 1) + 4 * (pair s (k + 1 + 1 + 1) + 4 * 0))))
  unfolding pairs
  pairs_of = rw (add-one k, add-one (suc k), add-one (suc (suc k))) e

  first : v % 4 ≡ pair s k
  first = omega (arith, pair_lt s k, pairs_of)

  second : v / 4 % 4 ≡ pair s (k + 1)
  second = omega (arith, pair_lt s k, pair_lt s (k + 1), pairs_of)

  third : v / 16 % 4 ≡ pair s (k + 1 + 1)
  third = omega (arith, pair_lt s k, pair_lt s (k + 1), pair_lt s (k + 1 + 1), pairs_of)

  fourth : v / 64 % 4 ≡ pair s (k + 1 + 1 + 1)
  fourth = omega (arith, pair_lt s k, pair_lt s (k + 1), pair_lt s (k + 1 + 1), pair_lt s (k + 1 + 1 + 1), pairs_of)

  abbrev kept₁ : Kept
  kept₁ = keep_pair (v % 4) (record { trits = t; count = f })

  abbrev kept₂ : Kept
  kept₂ = keep_pair (v / 4 % 4) kept₁

  abbrev kept₃ : Kept
  kept₃ = keep_pair (v / 16 % 4) kept₂

  pub reading_four : Reading s w start (keep_four v (record { trits = t; count = f })).trits (keep_four v (record { trits = t; count = f })).count (k + 4)
  reading_four =
      let one = reading_more t f k (v % 4) h (omega arith) (omega arith) first in
      let two = reading_more kept₁.trits kept₁.count (k + 1) (v / 4 % 4) one (omega arith) (omega arith) second in
      let three = reading_more kept₂.trits kept₂.count (k + 1 + 1) (v / 16 % 4) two (omega arith) (omega arith) third in
      let four = reading_more kept₃.trits kept₃.count (k + 1 + 1 + 1) (v / 64 % 4) three (omega arith) (omega arith) fourth in
      let q : k + 1 + 1 + 1 + 1 ≡ k + 4 = omega arith in
      rw q at four

-- a store counts at most one trit
pub counted-one : (r f p : ℕ) → r ≡ f + (1 - p / 3) → r ≤ f + 1
counted-one r f p e = omega arith

-- four stores, one after the other
pub kept_four : (v f₀ f₁ f₂ f₃ f₄ : ℕ) (t₀ t₁ t₂ t₃ t₄ : List ℕ)
    → (t₁ ≡ set t₀ f₀ (v % 4)) × (f₁ ≡ f₀ + (1 - v % 4 / 3)) → (t₂ ≡ set t₁ f₁ (v / 4 % 4)) × (f₂ ≡ f₁ + (1 - v / 4 % 4 / 3))
    → (t₃ ≡ set t₂ f₂ (v / 16 % 4)) × (f₃ ≡ f₂ + (1 - v / 16 % 4 / 3)) → (t₄ ≡ set t₃ f₃ (v / 64 % 4)) × (f₄ ≡ f₃ + (1 - v / 64 % 4 / 3))
    → (t₄ ≡ (keep_four v (record { trits = t₀; count = f₀ })).trits) × (f₄ ≡ (keep_four v (record { trits = t₀; count = f₀ })).count)
kept_four v f₀ f₁ f₂ f₃ f₄ t₀ t₁ t₂ t₃ t₄ a b c d =
    (rw (d.0, c.0, c.1, b.0, b.1, a.0, a.1), rw (d.1, c.1, b.1, a.1))

module _ {s : List ℕ} {w start : ℕ} {t : List ℕ} {f k : ℕ} (h : Reading s w start t f k) where
  -- where all are found
  reading_full : w ≤ f → ((drawn_from s w start).trits ≡ t) × ((drawn_from s w start).next ≡ k)
  unfolding draw
  reading_full l =
      let z : w - f ≡ 0 = omega (arith, h.some) in
      let y : f ≡ w = omega (arith, h.some) in (
        h.trits ∙ ap₂ (λ (x v : ℕ). take x t ++ (draw s v (4 * length s - k) k).trits) y z ∙ append-nil (take w t) ∙ take_all w t (omega (arith, h.room)),
        h.next ∙ ap (λ (v : ℕ). (draw s v (4 * length s - k) k).next) z,
      )

  -- where the source ends before
  reading_short : f < w → 4 * length s ≤ k → length (drawn_from s w start).trits < w
  unfolding draw
  reading_short l m =
      let z : 4 * length s - k ≡ 0 = omega arith in
      let v : w - f ≡ suc (w - suc f) = omega arith in
      let e : (drawn_from s w start).trits ≡ take f t = h.trits ∙ ap₂ (λ (v z : ℕ). take f t ++ (draw s v z k).trits) v z ∙ append-nil (take f t) in
      rw e (omega (arith, length-take f t, h.room))

-- what the loop leaves, whether all are found or the source has ended
pub reading_drew : {s : List ℕ} {w start : ℕ} {t : List ℕ} {f k : ℕ} → Reading s w start t f k → (f < w → 4 * length s ≤ k) → Drew s w start t f k
reading_drew h e = record { within = h.within; all = reading_full h; short = λ m. reading_short h m (e m) }
