-- The sampler: a tape from source bytes, drawn from a starting pair on, and the next unread pair.
use Rattle.std.specs.Prelude.{ℕ, ◌-◌, ◌*◌, List, ◌∷◌, ltb}
use Rattle.numbers.specs.Number.{Condition, ◌when◌, first}
use Rattle.source_model.specs.Draw.{drawn, tape_from, source_conditions}
use Rattle.pair_model.specs.Scheme.{Scheme}
use Rattle.pair_model.specs.Tape.{tape_bytes}

module _ (S : Scheme) where
  -- the bytes for all that stands before r0, which are copied, and the trits of r0
  abbrev pub copied_bytes : ℕ
  copied_bytes = tape_bytes S - 2 * S.inner_bytes

  abbrev pub wanted_trits : ℕ
  wanted_trits = 8 * S.inner_bytes

  -- the tape that is drawn from pair s on
  unfoldable pub sampled : List ℕ → ℕ → List ℕ
  sampled source s = tape_from copied_bytes wanted_trits S.inner_bytes source s

  -- the next unread pair, counted from the source's beginning
  unfoldable pub next_pair : List ℕ → ℕ → ℕ
  next_pair source s = (drawn copied_bytes wanted_trits source s).next

  -- too few pairs from s on, or too few trits among them
  abbrev pub short_conditions : List ℕ → ℕ → List Condition
  short_conditions source s = source_conditions copied_bytes wanted_trits source s

  unfoldable pub sample_conditions : List ℕ → ℕ → ℕ → List Condition
  sample_conditions source s output_length = 1 when ltb output_length (tape_bytes S) ∷ short_conditions source s

  abbrev pub sample_number : List ℕ → ℕ → ℕ → ℕ
  sample_number source s output_length = first (sample_conditions source s output_length)
