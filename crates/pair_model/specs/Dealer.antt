-- The dealer: both deal frames, of a tape or of source bytes.
use Rattle.std.specs.Prelude.{ℕ, ◌*◌, ◌<◌, ◌≡◌, ◌↔◌, List, [], ◌∷◌, ◌++◌, not, ltb, eqb, length, get_or}
use Rattle.numbers.specs.Number.{Condition, ◌when◌, first, merge}
use Rattle.pair_model.specs.Scheme.{Files, bad_length, faults_in, reading_number, Scheme, Side, side0, side1}
use Rattle.pair_model.specs.Tape.{tape_bytes, Accepted, unfit_tape, deal}
use Rattle.pair_model.specs.Frame.{SharedParameters, parameters_of, deal_kind, frame, frame_bytes}
use Rattle.pair_model.specs.Sampler.{short_conditions}

module _ (S : Scheme) where
  -- the deal frame of unit i
  unfoldable pub deal_frame : SharedParameters → Files → List ℕ → Side → List ℕ
  deal_frame shared lent tape i = frame deal_kind (parameters_of i shared) (deal S lent tape i)

  -- unit 0's deal frame, then unit 1's
  unfoldable pub dealt : SharedParameters → Files → List ℕ → List ℕ
  dealt shared lent tape = deal_frame shared lent tape side0 ++ deal_frame shared lent tape side1

  abbrev pub dealt_bytes : ℕ
  dealt_bytes = 2 * frame_bytes S deal_kind

  -- it reads the product's files
  unfoldable pub deal_conditions : Files → List ℕ → ℕ → List Condition
  deal_conditions lent tape output_length =
      1 when not (eqb (length tape) (tape_bytes S))
      ∷ 1 when ltb output_length dealt_bytes
      ∷ 1 when bad_length S.product_reading lent
      ∷ merge (faults_in S.product_reading lent) (10 when unfit_tape S tape ∷ [])

  abbrev pub deal_number : Files → List ℕ → ℕ → ℕ
  deal_number lent tape output_length = first (deal_conditions lent tape output_length)

  -- it takes exactly the accepted tapes, where what it reads is fit and the output slice is long enough
  abbrev pub TakesAccepted : Type 0
  TakesAccepted =
      (lent : Files) → reading_number S.product_reading lent ≡ 0 → (tape : List ℕ) → ((i : ℕ) → get_or tape i 0 < 256)
      → (deal_number lent tape dealt_bytes ≡ 0) ↔ Accepted S tape

  -- over source bytes: the tape is what the sampler draws of them from pair s on, and its trits are fit
  unfoldable pub deal_source_conditions : Files → List ℕ → (s output_length : ℕ) → List Condition
  deal_source_conditions lent source s output_length =
      1 when ltb output_length dealt_bytes
      ∷ 1 when bad_length S.product_reading lent
      ∷ merge (faults_in S.product_reading lent) (short_conditions S source s)

  abbrev pub deal_source_number : Files → List ℕ → (s output_length : ℕ) → ℕ
  deal_source_number lent source s output_length = first (deal_source_conditions lent source s output_length)
