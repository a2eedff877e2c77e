-- The theorem: a draw reads the pairs from its start up to the place that it reports, and no other.
use mathlib.Core.Path.{◌≡◌, sym, ap, ◌∙◌}
use mathlib.Core.List.{List, [], ◌∷◌, ◌++◌}
use mathlib.Core.Bool.{not}
use Prim.Native.Nat.{ℕ, ◌+◌, ◌-◌, ◌*◌, ◌^◌, ◌<◌, ◌≤◌}
use native.Mathlib.Omega.{arith}
use lib.Dec.{ltb}
use lib.ListN.{length}
use Rattle.numbers.specs.Number.{◌when◌, first}
use Rattle.linear_model.specs.Trits.{pack_trits}
use Rattle.source_model.specs.Pair.{pair}
use Rattle.source_model.specs.Draw.{Drawn, copied, draw, trit_of, drawn, tape_from, source_conditions, source_number}
use Rattle.source_model.specs.Disjoint.{sampling, SameFrom, DisjointDraws}
use Rattle.source_model.proofs.Draws.{draw_bounds, draw_local, draw-after}
use Rattle.source_model.proofs.Conditions.{Enough, enough, is_enough}
use Rattle.source_model.proofs.Copied.{copied_local}

module _ (c w : ℕ) where
  -- where it stands then
  pub record Ends (source : List ℕ) (s e : ℕ) : Type 0 where
    pub least : s + 4 * c + w ≤ e
    pub within : e ≤ 4 * length source

  pub ends : (source : List ℕ) (s : ℕ) → Enough c w source s → Ends source s (drawn c w source s).next
  unfolding drawn
  ends source s h =
      let b = draw_bounds source w (4 * length source - (s + 4 * c)) (s + 4 * c) in
      record { least = omega (arith, b.least, h.all); within = omega (arith, b.within, h.copies) }

  -- both parts of a tape
  same_tape : (m : ℕ) (source other : List ℕ) (s : ℕ) → copied c other s ≡ copied c source s → drawn c w other s ≡ drawn c w source s
      → tape_from c w m other s ≡ tape_from c w m source s
  unfolding tape_from
  same_tape m source other s e d = λ i. e i ++ pack_trits m (trit_of (d i).trits)

  module _ (m : ℕ) (source other : List ℕ) (s : ℕ) where
    drawn_before : Enough c w source s → (drawn c w source s).next ≤ 4 * length other
        → ((k : ℕ) → s ≤ k → k < (drawn c w source s).next → pair other k ≡ pair source k) → drawn c w other s ≡ drawn c w source s
    unfolding drawn
    drawn_before h long same =
        draw_local source other w (4 * length source - (s + 4 * c)) (4 * length other - (s + 4 * c)) (s + 4 * c) h.all
        (omega (arith, (ends source s h).least, long)) (λ k a b. same k (omega arith) b)

    same_before : Enough c w source s → length other < 2 ^ 62 → (drawn c w source s).next ≤ 4 * length other
        → ((k : ℕ) → s ≤ k → k < (drawn c w source s).next → pair other k ≡ pair source k) → SameFrom (sampling c w m) s source other
    same_before h counted long same =
        record {
          number = is_enough c w other s (record { counted = counted; copies = omega (arith, o.least, long); all = rw d h.all }) ∙ sym (is_enough c w source s h);
          tape = same_tape m source other s (copied_local c source other s (λ k a b. same k a (omega (arith, o.least)))) d;
          next = ap (λ (x : Drawn). x.next) d;
        }
      where
        o : Ends source s (drawn c w source s).next
        o = ends source s h

        d : drawn c w other s ≡ drawn c w source s
        d = drawn_before h long same

    same_after : length other ≡ length source → ((k : ℕ) → s ≤ k → pair other k ≡ pair source k) → SameFrom (sampling c w m) s source other
    unfolding drawn source_conditions
    same_after long same =
        record { number = n; tape = same_tape m source other s (copied_local c source other s (λ k a b. same k a)) d; next = ap (λ (x : Drawn). x.next) d }
      where
        d : drawn c w other s ≡ drawn c w source s
        d =
            ap (λ (l : ℕ). draw other w (4 * l - (s + 4 * c)) (s + 4 * c)) long
            ∙ draw-after source other w (4 * length source - (s + 4 * c)) (s + 4 * c) (λ k a. same k (omega arith))

        n : source_number c w other s ≡ source_number c w source s
        n = λ i. first (13 when not (ltb (long i) (2 ^ 62)) ∷ 13 when ltb (4 * long i) (s + 4 * c) ∷ 13 when ltb (length (d i).trits) w ∷ [])

pub disjoint_draws : DisjointDraws
disjoint_draws c w m source s e =
    let h = enough c w source s e in
    let o = ends c w source s h in
    record {
      least = o.least;
      within = o.within;
      reads = λ other. same_before c w m source other s h;
      next_reads = λ other. same_after c w m source other (drawn c w source s).next;
    }
