-- `pair_counter::join::join` meets its contract: a set that there is has its sizes.
use lib.ListN.{length}
use Rattle.numbers.proofs.Sets.{number_of}
use Rattle.pair_frames.proofs.Bases.{named_scheme}
use Rattle.pair_frames.proofs.Refusals.{output_kept, none_named}
use Rattle.pair_model.specs.Scheme.{Scheme}
use Rattle.pair_model.specs.Join.{join_conditions}
use Rattle.pair_counter.proofs.join.join.Goals as goal

pub returns-in_err-named_sizes-clause-result : goal.returns-in_err-named_sizes-clause-result
returns-in_err-named_sizes-clause-result c = none_named _ _ c.from_residual.ensures c.args.set c.in_err-named_sizes.ensures.none _

pub returns-in_err-named_sizes-clause-output : goal.returns-in_err-named_sizes-clause-output
returns-in_err-named_sizes-clause-output c = output_kept _ _ c.from_residual.ensures _ _

pub returns-clause-result : goal.returns-clause-result
returns-clause-result c =
    let a = c.args in
    let n = c.in_ok-named_sizes.ensures.named in
    number_of a.set n.0 (named_scheme a.set n) (λ (S : Scheme). join_conditions S a.first.now a.second.now (length a.out.now)) c.join_sized.ensures.result
