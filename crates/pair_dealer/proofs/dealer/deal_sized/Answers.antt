-- `pair_dealer::dealer::deal_sized` meets its contract: what is accepted has a tape of its length and room for both frames.
use mathlib.Core.Path.{sym}
use Rattle.pair_frames.specs.Schemes.{scheme_in}
use Rattle.pair_frames.proofs.Refusals.{output_kept}
use Rattle.pair_model.proofs.Internal.Deals.{deal_fits}
use Rattle.pair_dealer.proofs.dealer.deal_sized.Goals as goal

pub returns-in_err-check_deal-clause-output : goal.returns-in_err-check_deal-clause-output
returns-in_err-check_deal-clause-output c = output_kept _ _ c.from_residual.ensures _ _

pub write_deal-requires : goal.write_deal-requires
write_deal-requires c =
    let f = deal_fits (scheme_in c.args.sizes) _ c.args.tape.now _ (sym c.in_ok-check_deal.ensures) in
    (f.tape-length, f.room)
