-- `pair_dealer::dealer::deal_source` meets its contract: a set that there is has its sizes, and the theorems are the models'.
use lib.ListN.{length}
use Rattle.numbers.proofs.Sets.{number_of}
use Rattle.source_model.proofs.Disjoint.{disjoint_draws}
use Rattle.pair_frames.proofs.Bases.{named_scheme}
use Rattle.pair_frames.proofs.Refusals.{output_kept, none_named}
use Rattle.pair_model.specs.Scheme.{Scheme, no_files}
use Rattle.pair_model.specs.Dealer.{deal_source_conditions}
use Rattle.pair_model.proofs.Theorem.Main.{set_demand3}
use Rattle.pair_dealer.proofs.dealer.deal_source.Goals as goal

pub returns-in_err-named_sizes-clause-result : goal.returns-in_err-named_sizes-clause-result
returns-in_err-named_sizes-clause-result c = none_named _ _ c.from_residual.ensures c.args.set c.in_err-named_sizes.ensures.none _

pub returns-in_err-named_sizes-clause-output : goal.returns-in_err-named_sizes-clause-output
returns-in_err-named_sizes-clause-output c = output_kept _ _ c.from_residual.ensures _ _

pub returns-in_err-named_sizes-clause-disjoint : goal.returns-in_err-named_sizes-clause-disjoint
returns-in_err-named_sizes-clause-disjoint c = disjoint_draws

pub returns-in_err-named_sizes-clause-privacy : goal.returns-in_err-named_sizes-clause-privacy
returns-in_err-named_sizes-clause-privacy c = λ set i. (set_demand3 set).privacy

pub returns-clause-result : goal.returns-clause-result
returns-clause-result c =
    let a = c.args in
    let n = c.in_ok-named_sizes.ensures.named in
    number_of a.set n.0 (named_scheme a.set n) (λ (S : Scheme). deal_source_conditions S no_files a.source.now a.start (length a.out.now)) c.deal_source_sized.ensures.result

pub returns-clause-disjoint : goal.returns-clause-disjoint
returns-clause-disjoint c = disjoint_draws

pub returns-clause-privacy : goal.returns-clause-privacy
returns-clause-privacy c = λ set i. (set_demand3 set).privacy
