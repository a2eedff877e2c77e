-- `pair_dealer::dealer::deal` meets its contract: a set that there is has its sizes, and the theorem is the model's.
use mathlib.Core.Path.{◌≡◌, ◌∙◌}
use Prim.Native.Nat.{◌-◌}
use native.Mathlib.Omega.{arith}
use lib.ListN.{length, take, drop}
use lib.Seq.{take_all}
use Rattle.numbers.proofs.Sets.{number_of}
use Rattle.pair_frames.specs.Schemes.{scheme_in}
use Rattle.pair_frames.proofs.Bases.{named_scheme}
use Rattle.pair_frames.proofs.Refusals.{output_kept, none_named}
use Rattle.pair_model.specs.Scheme.{Scheme, no_files}
use Rattle.pair_model.specs.Base.{scheme_of, InEachSet}
use Rattle.pair_model.specs.Dealer.{deal_conditions, deal_number, TakesAccepted}
use Rattle.pair_model.proofs.Theorem.Main.{set_demand3}
use Rattle.pair_model.proofs.Evidence.Dealing.{deal-accepted}
use Rattle.pair_dealer.proofs.dealer.deal.Goals as goal

-- what holds of all tapes
takes_accepted : InEachSet TakesAccepted
takes_accepted set i lent = deal-accepted (scheme_of set) lent tt

pub returns-in_err-named_sizes-clause-result : goal.returns-in_err-named_sizes-clause-result
returns-in_err-named_sizes-clause-result c = none_named _ _ c.from_residual.ensures c.args.set c.in_err-named_sizes.ensures.none _

pub returns-in_err-named_sizes-clause-output : goal.returns-in_err-named_sizes-clause-output
returns-in_err-named_sizes-clause-output c = output_kept _ _ c.from_residual.ensures _ _

pub returns-in_err-named_sizes-clause-accepted_tapes : goal.returns-in_err-named_sizes-clause-accepted_tapes
returns-in_err-named_sizes-clause-accepted_tapes c = takes_accepted

pub returns-in_err-named_sizes-clause-privacy : goal.returns-in_err-named_sizes-clause-privacy
returns-in_err-named_sizes-clause-privacy c = λ set i. (set_demand3 set).privacy

pub returns-clause-result : goal.returns-clause-result
returns-clause-result c =
    let a = c.args in
    let n = c.in_ok-named_sizes.ensures.named in
    let tape : take (length a.tape.now - 0) (drop 0 a.tape.now) ≡ a.tape.now = take_all (length a.tape.now - 0) a.tape.now (omega arith) in
    number_of a.set n.0 (named_scheme a.set n) (λ (S : Scheme). deal_conditions S no_files a.tape.now (length a.out.now))
    (c.deal_sized.ensures.result ∙ (λ j. deal_number (scheme_in c.in_ok-named_sizes.field-0) no_files (tape j) (length a.out.now)))

pub returns-clause-accepted_tapes : goal.returns-clause-accepted_tapes
returns-clause-accepted_tapes c = takes_accepted

pub returns-clause-privacy : goal.returns-clause-privacy
returns-clause-privacy c = λ set i. (set_demand3 set).privacy
