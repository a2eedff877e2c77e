-- A draw from a source: from a starting pair on, bytes that are copied and then trits, and the next unread pair.
use Rattle.std.specs.Prelude.{ℕ, zero, suc, ◌+◌, ◌-◌, ◌*◌, ◌^◌, List, [], ◌∷◌, ◌++◌, cond, not, ltb, eqb, length, get_or}
use Rattle.numbers.specs.Number.{Condition, ◌when◌, first}
use Rattle.linear_model.specs.Tables.{tabulate}
use Rattle.linear_model.specs.Trits.{pack_trits}
use Rattle.source_model.specs.Pair.{pair}

-- byte i of those copied from pair s on: four pairs, lowest first
abbrev pub copied_byte : List ℕ → (s i : ℕ) → ℕ
copied_byte source s i = let p : ℕ → ℕ = λ k. pair source (s + 4 * i + k) in p 0 + 4 * p 1 + 16 * p 2 + 64 * p 3

-- c bytes copied from pair s on
unfoldable pub copied : ℕ → List ℕ → ℕ → List ℕ
copied c source s = tabulate c (copied_byte source s)

-- the trits that a reader has found, and the next pair
pub record Drawn : Type 0 where
  pub trits : List ℕ
  pub next : ℕ

abbrev pub found : ℕ → Drawn → Drawn
found t d = record { trits = t ∷ d.trits; next = d.next }

-- a reader that stands at pair k with so many pairs left, and still wants so many trits: pairs of value 3 are skipped
unfoldable pub draw : List ℕ → (wanted left k : ℕ) → Drawn
draw source zero left k = record { trits = []; next = k }
draw source (suc wanted) zero k = record { trits = []; next = k }
draw source (suc wanted) (suc left) k =
    cond (eqb (pair source k) 3) (draw source (suc wanted) left (suc k))
    (found (pair source k) (draw source wanted left (suc k)))

-- element j of a list of trits
abbrev pub trit_of : List ℕ → ℕ → ℕ
trit_of trits j = get_or trits j 0

-- a draw of any size: so many copied bytes and wanted trits, from pair s on
module _ (copied_bytes wanted : ℕ) where
  -- what is drawn after the copied bytes
  unfoldable pub drawn : List ℕ → ℕ → Drawn
  drawn source s = let k = s + 4 * copied_bytes in draw source wanted (4 * length source - k) k

  -- the tape: the copied bytes, then the trits packed into planes of m bytes
  unfoldable pub tape_from : ℕ → List ℕ → ℕ → List ℕ
  tape_from m source s = copied copied_bytes source s ++ pack_trits m (trit_of (drawn source s).trits)

  -- 13: 64 bits do not count the pairs, or there are too few from s on, or too few trits among them
  unfoldable pub source_conditions : List ℕ → ℕ → List Condition
  source_conditions source s =
      13 when not (ltb (length source) (2 ^ 62))
      ∷ 13 when ltb (4 * length source) (s + 4 * copied_bytes)
      ∷ 13 when ltb (length (drawn source s).trits) wanted
      ∷ []

  abbrev pub source_number : List ℕ → ℕ → ℕ
  source_number source s = first (source_conditions source s)
