-- Laws of `draw`: what the pair at hand decides, how far it reads, and which pairs it does not look at.
use mathlib.Core.Path.{◌≡◌, refl, sym, ap, ◌∙◌}
use mathlib.Core.Logic.{◌≢◌}
use mathlib.Core.List.{List}
use mathlib.Core.Bool.{Bool, cond}
use Prim.Native.Nat.{ℕ, zero, suc, ◌+◌, ◌-◌, ◌*◌, ◌<◌, ◌≤◌, zero-le}
use native.Mathlib.Decide.{ℕ_discrete}
use native.Mathlib.Nat.{le_refl}
use native.Mathlib.Omega.{arith}
use borrow.Author.Tests.{eq-eqb, ne_eqb}
use lib.Dec.{lit<}
use lib.ListN.{length, get_or}
use Rattle.source_model.specs.Pair.{pair}
use Rattle.source_model.specs.Draw.{Drawn, found, draw, drawn}
use Rattle.source_model.proofs.Pairs.{pair_lt}

-- a pair of value 3 is skipped, any other is found
pub draw_skip : (s : List ℕ) (w l k : ℕ) → pair s k ≡ 3 → draw s (suc w) (suc l) k ≡ draw s (suc w) l (suc k)
unfolding draw
draw_skip s w l k e =
    ap {B = Drawn} (λ (b : Bool). cond b (draw s (suc w) l (suc k)) (found (pair s k) (draw s w l (suc k)))) (eq-eqb (pair s k) 3 e)

pub draw-found : (s : List ℕ) (w l k : ℕ) → pair s k ≢ 3 → draw s (suc w) (suc l) k ≡ found (pair s k) (draw s w l (suc k))
unfolding draw
draw-found s w l k h =
    ap {B = Drawn} (λ (b : Bool). cond b (draw s (suc w) l (suc k)) (found (pair s k) (draw s w l (suc k)))) (ne_eqb (pair s k) 3 h)

-- what is drawn are trits, no more than wanted; there is a pair for each, and none after the last one left
pub record DrawBounds (w l k : ℕ) (d : Drawn) : Type 0 where
  pub few : length d.trits ≤ w
  pub least : k + length d.trits ≤ d.next
  pub within : d.next ≤ k + l
  pub small : (j : ℕ) → get_or d.trits j 0 < 3

pub draw_bounds : (s : List ℕ) (w l k : ℕ) → DrawBounds w l k (draw s w l k)
unfolding draw
draw_bounds s zero l k = record { few = zero-le; least = omega arith; within = omega arith; small = λ j. lit< tt }
draw_bounds s (suc w) zero k = record { few = zero-le; least = omega arith; within = omega arith; small = λ j. lit< tt }
draw_bounds s (suc w) (suc l) k = pick (ℕ_discrete (pair s k) 3) (draw_bounds s (suc w) l (suc k)) (draw_bounds s w l (suc k))
  where
    each : pair s k ≢ 3 → ((j : ℕ) → get_or (draw s w l (suc k)).trits j 0 < 3) → (j : ℕ) → get_or (found (pair s k) (draw s w l (suc k))).trits j 0 < 3
    each e h zero = omega (arith, pair_lt s k, e)
    each e h (suc j) = h j

    pick : Dec (pair s k ≡ 3) → DrawBounds (suc w) l (suc k) (draw s (suc w) l (suc k)) → DrawBounds w l (suc k) (draw s w l (suc k))
        → DrawBounds (suc w) (suc l) k (draw s (suc w) (suc l) k)
    pick (yes e) b _ =
        rw (draw_skip s w l k e) record { few = b.few; least = omega (arith, b.least); within = omega (arith, b.within); small = b.small }
    pick (no e) _ b =
        rw (draw-found s w l k e)
        record { few = omega (arith, b.few); least = omega (arith, b.least); within = omega (arith, b.within); small = each e b.small }

pub drawn-small : (c w : ℕ) (s : List ℕ) (k j : ℕ) → get_or (drawn c w s k).trits j 0 < 3
unfolding drawn
drawn-small c w s k j = (draw_bounds s w (4 * length s - (k + 4 * c)) (k + 4 * c)).small j

-- where all are found, only the pairs up to the last one are looked at
pub draw_local : (s t : List ℕ) (w l m k : ℕ) → w ≤ length (draw s w l k).trits → (draw s w l k).next ≤ k + m
    → ((j : ℕ) → k ≤ j → j < (draw s w l k).next → pair t j ≡ pair s j) → draw t w m k ≡ draw s w l k
unfolding draw
draw_local s t zero l m k e h same = refl
draw_local s t (suc w) zero m k e h same = absurd (omega arith)
draw_local s t (suc w) (suc l) zero k e h same = absurd (omega (arith, (draw_bounds s (suc w) (suc l) k).least))
draw_local s t (suc w) (suc l) (suc m) k e h same =
    pick (ℕ_discrete (pair s k) 3) (draw_local s t (suc w) l m (suc k)) (draw_local s t w l m (suc k))
  where
    first : pair t k ≡ pair s k
    first = same k (le_refl k) (omega (arith, e, (draw_bounds s (suc w) (suc l) k).least))

    -- the same of the pairs after, with v trits wanted
    Rest : ℕ → Type 0
    Rest v =
        v ≤ length (draw s v l (suc k)).trits → (draw s v l (suc k)).next ≤ suc k + m
        → ((j : ℕ) → suc k ≤ j → j < (draw s v l (suc k)).next → pair t j ≡ pair s j) → draw t v m (suc k) ≡ draw s v l (suc k)

    pick : Dec (pair s k ≡ 3) → Rest (suc w) → Rest w → draw t (suc w) (suc m) k ≡ draw s (suc w) (suc l) k
    pick (yes q) rest _ =
        let d = draw_skip s w l k q in
        let n : (draw s (suc w) (suc l) k).next ≡ (draw s (suc w) l (suc k)).next = ap (λ (x : Drawn). x.next) d in
        draw_skip t w m k (first ∙ q)
        ∙ rest (rw (sym d) e) (omega (arith, n, h)) (λ j a b. same j (omega arith) (omega (arith, n)))
        ∙ sym d
    pick (no q) _ rest =
        let d = draw-found s w l k q in
        let n : (draw s (suc w) (suc l) k).next ≡ (draw s w l (suc k)).next = ap (λ (x : Drawn). x.next) d in
        let z : length (draw s (suc w) (suc l) k).trits ≡ suc (length (draw s w l (suc k)).trits) = ap (λ (x : Drawn). length x.trits) d in
        draw-found t w m k (λ x. q (sym first ∙ x))
        ∙ (λ i. found (first i) (rest (omega (arith, z, e)) (omega (arith, n, h)) (λ j a b. same j (omega arith) (omega (arith, n))) i))
        ∙ sym d

-- no pair before the place is looked at
pub draw-after : (s t : List ℕ) (w l k : ℕ) → ((j : ℕ) → k ≤ j → pair t j ≡ pair s j) → draw t w l k ≡ draw s w l k
unfolding draw
draw-after s t zero l k same = refl
draw-after s t (suc w) zero k same = refl
draw-after s t (suc w) (suc l) k same =
    let later : (j : ℕ) → suc k ≤ j → pair t j ≡ pair s j = λ j a. same j (omega arith) in
    pick (ℕ_discrete (pair s k) 3) (draw-after s t (suc w) l (suc k) later) (draw-after s t w l (suc k) later)
  where
    first : pair t k ≡ pair s k
    first = same k (le_refl k)

    pick : Dec (pair s k ≡ 3) → draw t (suc w) l (suc k) ≡ draw s (suc w) l (suc k) → draw t w l (suc k) ≡ draw s w l (suc k)
        → draw t (suc w) (suc l) k ≡ draw s (suc w) (suc l) k
    pick (yes q) rest _ = draw_skip t w l k (first ∙ q) ∙ rest ∙ sym (draw_skip s w l k q)
    pick (no q) _ rest = draw-found t w l k (λ x. q (sym first ∙ x)) ∙ (λ i. found (first i) (rest i)) ∙ sym (draw-found s w l k q)
