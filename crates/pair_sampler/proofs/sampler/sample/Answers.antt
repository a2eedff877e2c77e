-- `pair_sampler::sampler::sample` meets its contract: a set that there is has its sizes, and the theorem is the model's.
use lib.ListN.{length}
use Rattle.numbers.proofs.Sets.{number_of}
use Rattle.source_model.proofs.Disjoint.{disjoint_draws}
use Rattle.pair_frames.proofs.Bases.{named_scheme}
use Rattle.pair_frames.proofs.Refusals.{output_kept, none_named}
use Rattle.pair_model.specs.Scheme.{Scheme}
use Rattle.pair_model.specs.Sampler.{sample_conditions}
use Rattle.pair_sampler.proofs.sampler.sample.Goals as goal

pub returns-in_err-named_sizes-clause-result : goal.returns-in_err-named_sizes-clause-result
returns-in_err-named_sizes-clause-result c = none_named _ _ c.from_residual.ensures c.args.set c.in_err-named_sizes.ensures.none _

pub returns-in_err-named_sizes-clause-output : goal.returns-in_err-named_sizes-clause-output
returns-in_err-named_sizes-clause-output c = output_kept _ _ c.from_residual.ensures _ _

pub returns-in_err-named_sizes-clause-disjoint : goal.returns-in_err-named_sizes-clause-disjoint
returns-in_err-named_sizes-clause-disjoint c = disjoint_draws

pub returns-clause-result : goal.returns-clause-result
returns-clause-result c =
    let a = c.args in
    let n = c.in_ok-named_sizes.ensures.named in
    number_of a.set n.0 (named_scheme a.set n) (λ (S : Scheme). sample_conditions S a.source.now a.start (length a.out.now)) c.sample_sized.ensures.result

pub returns-clause-disjoint : goal.returns-clause-disjoint
returns-clause-disjoint c = disjoint_draws
