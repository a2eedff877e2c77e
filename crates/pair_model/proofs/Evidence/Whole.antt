-- All of the evidence holds.
use Prim.Native.Nat.{ℕ}
use Rattle.numbers.proofs.Lowest.{falling-first}
use Rattle.source_model.proofs.Evidence.{draw_evidence}
use Rattle.matrix_model.proofs.TieEvidence.{tie_evidence}
use Rattle.pair_model.specs.Run.{protocol}
use Rattle.pair_model.specs.Base.{Format, circulant_scheme, InEachSet, base}
use Rattle.pair_model.specs.Theorem.{Correctness, Privacy, ThreeFrames}
use Rattle.pair_model.specs.Evidence.{Laws, Evidence}
use Rattle.pair_model.proofs.Theorem.Main.{private, demand3, circulant_linear, set_demand3}
use Rattle.pair_model.proofs.Evidence.Lowest.{lowest_numbers}
use Rattle.pair_model.proofs.Evidence.Examples.{twelve_examples}
use Rattle.pair_model.proofs.Evidence.SetExamples.{set_examples}
use Rattle.pair_model.proofs.Evidence.LineExamples.{line_examples}
use Rattle.pair_model.proofs.Evidence.Sample.{sample_compared}
use Rattle.pair_model.proofs.Evidence.Strays.{shared_comparable}
use Rattle.pair_model.proofs.Evidence.Dealing.{deal-accepted, sampled-accepted, sampler_is_lem}
use Rattle.pair_model.proofs.Evidence.OtherShare.{other-share_frame}
use Rattle.pair_model.specs.Leaky.{small}
use Rattle.pair_model.proofs.Evidence.Small.{small_linear}
use Rattle.pair_model.proofs.Evidence.Leaky.{own-step}
use Rattle.pair_model.proofs.Evidence.Wrong.{bare_key_fails, telling_line_fails, without_z_fails, inner-mask_fails, uneven_mask_fails, other-key_fails, refuses_all_fails, second_deal_fails, telling_number_fails, clearing_refusal_fails, idle_takes_fails, done_takes_fails, beyond_takes_fails, refused_beginning_fails}
use Rattle.pair_model.proofs.Evidence.WrongMask.{lost_line_fails, empty_mask_fails, half_for_mask_fails, copied_mask_fails}

-- at any size
circulant_laws : (set n t : ℕ) (F : Format) → Laws (circulant_scheme set n t F)
circulant_laws set n t F =
    let S = circulant_scheme set n t F in
    let L = circulant_linear set n t F in
    record {
      demand3 = demand3 S L;
      dealer = λ lent. deal-accepted S lent tt;
      sampler = sampled-accepted S;
      sampler_is = sampler_is_lem S;
      share =
          λ fixed a b well₁ well₂ g.
          record { hides = private S L fixed a b well₁ well₂ g; share = other-share_frame S L fixed a b well₁ well₂ g };
    }

pub evidence : Evidence
evidence =
    record {
      examples = twelve_examples;
      sets = set_examples;
      lines = line_examples;
      lowest = lowest_numbers;
      falling = falling-first;
      sample = sample_compared;
      self_comparable = λ fixed run es. shared_comparable (protocol base) fixed run run es;
      any_size = circulant_laws;
      ties = tie_evidence;
      draws = draw_evidence;
      passes = demand3 small small_linear;
      own_step = own-step;
      bare_key = bare_key_fails;
      telling_line = telling_line_fails;
      lost_line = lost_line_fails;
      without_z = without_z_fails;
      inner_mask_dealt = inner-mask_fails;
      uneven_mask_dealt = uneven_mask_fails;
      other_key_shown = other-key_fails;
      empty_mask = empty_mask_fails;
      half_for_mask = half_for_mask_fails;
      copied_mask = copied_mask_fails;
      refuses_all = refuses_all_fails;
      second_deal = second_deal_fails;
      telling_number = telling_number_fails;
      clearing_refusal = clearing_refusal_fails;
      idle_takes = idle_takes_fails;
      done_takes = done_takes_fails;
      beyond_takes = beyond_takes_fails;
      refused_beginning = refused_beginning_fails;
    }

-- the clauses of a step's contract that speak of all runs
pub theorem_and_evidence : InEachSet (λ S. Correctness (protocol S)) × (InEachSet (λ S. Privacy (protocol S)) × (InEachSet (λ S. ThreeFrames (protocol S)) × Evidence))
theorem_and_evidence =
    ((λ set is. (set_demand3 set).correctness), ((λ set is. (set_demand3 set).privacy), ((λ set is. (set_demand3 set).three_frames), evidence)))
