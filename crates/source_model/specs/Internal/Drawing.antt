-- What a reader of pairs has found.
use Rattle.std.specs.Prelude.{ℕ, ◌+◌, ◌-◌, ◌*◌, ◌/◌, ◌%◌, ◌<◌, ◌≤◌, ◌≡◌, List, ◌++◌, length, set, take}
use Rattle.source_model.specs.Draw.{Drawn, draw}

-- what a reader that stands at pair k and wants w trits draws of a source
abbrev pub drawn_from : List ℕ → (w k : ℕ) → Drawn
drawn_from source w k = draw source w (4 * length source - k) k

-- a reader that wanted w trits from pair `start` on has found f of them, which stand in front of t, and stands at pair k
pub record Reading (source : List ℕ) (w start : ℕ) (t : List ℕ) (f k : ℕ) : Type 0 where
  pub room : length t ≡ w
  pub some : f ≤ w
  pub within : k ≤ 4 * length source
  pub trits : (drawn_from source w start).trits ≡ take f t ++ (drawn_from source (w - f) k).trits
  pub next : (drawn_from source w start).next ≡ (drawn_from source (w - f) k).next

-- such a reader is done: it has found all of them, or too few in the whole source
pub record Drew (source : List ℕ) (w start : ℕ) (t : List ℕ) (f k : ℕ) : Type 0 where
  pub within : k ≤ 4 * length source
  pub all : w ≤ f → ((drawn_from source w start).trits ≡ t) × ((drawn_from source w start).next ≡ k)
  pub short : f < w → length (drawn_from source w start).trits < w

-- trits, and how many of them count
pub record Kept : Type 0 where
  pub trits : List ℕ
  pub count : ℕ

-- one pair more: it counts unless it is 3, and else the next one takes its place
abbrev pub keep_pair : ℕ → Kept → Kept
keep_pair p d = record { trits = set d.trits d.count p; count = d.count + (1 - p / 3) }

-- the four pairs of a number more
abbrev pub keep_four : ℕ → Kept → Kept
keep_four v d = keep_pair (v / 64 % 4) (keep_pair (v / 16 % 4) (keep_pair (v / 4 % 4) (keep_pair (v % 4) d)))
