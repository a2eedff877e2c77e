-- Draws that follow one another share no pair.
use Rattle.std.specs.Prelude.{ℕ, ◌+◌, ◌*◌, ◌^◌, ◌<◌, ◌≤◌, ◌≡◌, List, length}
use Rattle.source_model.specs.Pair.{pair}
use Rattle.source_model.specs.Draw.{drawn, tape_from, source_number}

-- a way to sample: of a source and a starting pair a number, a tape and the next pair
pub record Sampling : Type 0 where
  pub number : List ℕ → ℕ → ℕ
  pub tape : List ℕ → ℕ → List ℕ
  pub next : List ℕ → ℕ → ℕ

-- the sampler's, with planes of m bytes
abbrev pub sampling : (copied_bytes wanted m : ℕ) → Sampling
sampling copied_bytes wanted m =
    record {
      number = source_number copied_bytes wanted;
      tape = tape_from copied_bytes wanted m;
      next = λ source s. (drawn copied_bytes wanted source s).next;
    }

module _ (A : Sampling) where
  -- from pair s on two sources give the same
  pub record SameFrom (s : ℕ) (source other : List ℕ) : Type 0 where
    pub number : A.number other s ≡ A.number source s
    pub tape : A.tape other s ≡ A.tape source s
    pub next : A.next other s ≡ A.next source s

  -- a draw from s that reports e reads no pair but those from s up to e, and one from e none before e
  pub record ReadsBetween (copied_bytes wanted : ℕ) (source : List ℕ) (s e : ℕ) : Type 0 where
    pub least : s + 4 * copied_bytes + wanted ≤ e
    pub within : e ≤ 4 * length source
    pub reads : (other : List ℕ) → length other < 2 ^ 62 → e ≤ 4 * length other
        → ((k : ℕ) → s ≤ k → k < e → pair other k ≡ pair source k) → SameFrom s source other
    pub next_reads : (other : List ℕ) → length other ≡ length source → ((k : ℕ) → e ≤ k → pair other k ≡ pair source k)
        → SameFrom e source other

  -- wherever it accepts
  abbrev pub Disjoint : (copied_bytes wanted : ℕ) → Type 0
  Disjoint copied_bytes wanted =
      (source : List ℕ) (s : ℕ) → A.number source s ≡ 0 → ReadsBetween copied_bytes wanted source s (A.next source s)

-- for any number of copied bytes, trits and bytes of a plane
abbrev pub DisjointDraws : Type 0
DisjointDraws = (copied_bytes wanted m : ℕ) → Disjoint (sampling copied_bytes wanted m) copied_bytes wanted
