-- What shows that the statement is neither empty nor too weak.
use Rattle.std.specs.Prelude.{ℕ, ◌≡◌, List, [], ◌∷◌, true}
use Rattle.numbers.specs.Number.{◌when◌, first}
use Rattle.numbers.specs.Lowest.{Lowest}
use Rattle.source_model.specs.Disjoint.{sampling}
use Rattle.source_model.specs.Evidence.{DrawEvidence}
use Rattle.matrix_model.specs.TieEvidence.{TieEvidence}
use Rattle.pair_model.specs.Scheme.{Scheme, Side, other}
use Rattle.pair_model.specs.Tape.{tape_bytes, Accepted}
use Rattle.pair_model.specs.Unit.{idle_stage, done_stage, take_deal, take_open, step}
use Rattle.pair_model.specs.Base.{Format, circulant_scheme, base}
use Rattle.pair_model.specs.Sampler.{copied_bytes, wanted_trits, sampled, next_pair, sample_number}
use Rattle.pair_model.specs.Dealer.{TakesAccepted}
use Rattle.pair_model.specs.Run.{Protocol, protocol, Inputs, WellFormed, Run, run_of, Entry, SharedEntry, same, start, final, ListOf, first_of, second_of, Comparable}
use Rattle.pair_model.specs.Theorem.{SameForFixed, Hides, Done, share_frame, own_code, Demand3}
use Rattle.pair_model.specs.Lowest.{LowestNumbers}
use Rattle.pair_model.specs.Examples.{TwelveExamples}
use Rattle.pair_model.specs.SetExamples.{SetExamples}
use Rattle.pair_model.specs.LineExamples.{LineExamples}
use Rattle.pair_model.specs.Sample.{SampleCompared}
use Rattle.pair_model.specs.Leaky.{small, step_by, bare_key, telling_line, lost_line, without_z, inner_mask_dealt, uneven_mask_dealt, other_key_shown, empty_mask, half_for_mask, copied_mask, refuses_all, second_deal, telling_number, clearing_refusal, takes_at, refused_beginning}

-- every entry shared
abbrev pub shared : List Entry → List SharedEntry
shared [] = []
shared (e ∷ es) = same e ∷ shared es

-- a pairing of tapes under which the other unit's share frame is the same too, wherever the codes are: who sees the code learns no more
pub record HidesShare (P : Protocol) (fixed : Side) (a b : Inputs) : Type 0 where
  pub hides : Hides P fixed a b
  pub share : (tape : List ℕ) → Accepted P.scheme tape → (es : List SharedEntry)
      → let run₁ = run_of a tape in let run₂ = run_of b (hides.pairing.forth tape) in
      let c₁ = final P run₁ (start P run₁) (first_of fixed es) in let c₂ = final P run₂ (start P run₂) (second_of fixed es) in
      Comparable P fixed run₁ run₂ (start P run₁) (start P run₂) es → Done P c₁ → Done P c₂ → own_code P run₁ ≡ own_code P run₂
      → share_frame P c₁ (other fixed) ≡ share_frame P c₂ (other fixed)

-- what is proved of a scheme besides its numbers
pub record Laws (S : Scheme) : Type 0 where
  -- evaluator, units and join: the theorem
  pub demand3 : Demand3 (protocol S)
  -- the dealer takes exactly the accepted tapes, and the sampler makes such tapes
  pub dealer : TakesAccepted S
  pub sampler : (source : List ℕ) (s : ℕ) → Accepted S (sampled S source s)
  -- it is the sampling that the theorem on draws speaks of
  pub sampler_is : (source : List ℕ) (s : ℕ) → let A = sampling (copied_bytes S) (wanted_trits S) S.inner_bytes in
      (sample_number S source s (tape_bytes S) ≡ A.number source s) × (sampled S source s ≡ A.tape source s) × (next_pair S source s ≡ A.next source s)
  -- the code tells no more than itself
  pub share : (fixed : Side) (a b : Inputs) → WellFormed S a → WellFormed S b → SameForFixed fixed a b → HidesShare (protocol S) fixed a b

pub record Evidence : Type 0 where
  -- the definitions say what document 01 says, and what W-202 says of the sets and W-203 of the lines
  pub examples : TwelveExamples
  pub sets : SetExamples
  pub lines : LineExamples
  -- each call returns the lowest number, which the first of a list need not be
  pub lowest : LowestNumbers
  pub falling : ¬ Lowest (9 when true ∷ 8 when true ∷ []) (first (9 when true ∷ 8 when true ∷ []))
  -- there are runs, and runs to compare them with
  pub sample : SampleCompared
  pub self_comparable : (fixed : Side) (run : Run) (es : List Entry) → let P = protocol base in
      ListOf P run (start P run) es → Comparable P fixed run run (start P run) (start P run) (shared es)
  -- the laws stand at every number of bytes and digits, whatever a matrix file is; the three sets are instances
  pub any_size : (set n t : ℕ) (F : Format) → Laws (circulant_scheme set n t F)
  -- 12 is told exactly where W-204 says, and neither always nor never
  pub ties : TieEvidence
  -- draws follow one another, and samplings that read a pair twice do not pass
  pub draws : DrawEvidence
  -- leaky and wrong protocols do not pass, in a scheme in which the protocol does; a step by the unit's own ways is the unit's
  pub passes : Demand3 (protocol small)
  pub own_step : step_by small (take_deal small) (take_open small) ≡ step small
  pub bare_key : ¬ Demand3 (bare_key small)
  pub telling_line : ¬ Demand3 (telling_line small)
  pub lost_line : ¬ Demand3 (lost_line small)
  pub without_z : ¬ Demand3 (without_z small)
  pub inner_mask_dealt : ¬ Demand3 (inner_mask_dealt small)
  pub uneven_mask_dealt : ¬ Demand3 (uneven_mask_dealt small)
  pub other_key_shown : ¬ Demand3 (other_key_shown small)
  pub empty_mask : ¬ Demand3 (empty_mask small)
  pub half_for_mask : ¬ Demand3 (half_for_mask small)
  pub copied_mask : ¬ Demand3 (copied_mask small)
  pub refuses_all : ¬ Demand3 (refuses_all small)
  pub second_deal : ¬ Demand3 (second_deal small)
  pub telling_number : ¬ Demand3 (telling_number small)
  pub clearing_refusal : ¬ Demand3 (clearing_refusal small)
  pub idle_takes : ¬ Demand3 (takes_at small idle_stage)
  pub done_takes : ¬ Demand3 (takes_at small done_stage)
  pub beyond_takes : ¬ Demand3 (takes_at small 5)
  pub refused_beginning : ¬ Demand3 (refused_beginning small)
