-- `pair_counter::join::join_sized` meets its contract: what is accepted has two share frames and room for the code.
use mathlib.Core.Path.{sym}
use Rattle.pair_frames.specs.Schemes.{scheme_in}
use Rattle.pair_frames.proofs.Refusals.{output_kept}
use Rattle.pair_model.proofs.Internal.Joins.{join_fits}
use Rattle.pair_counter.proofs.join.join_sized.Goals as goal

pub returns-in_err-check_join-clause-output : goal.returns-in_err-check_join-clause-output
returns-in_err-check_join-clause-output c = output_kept _ _ c.from_residual.ensures _ _

pub add_shares-requires : goal.add_shares-requires
add_shares-requires c =
    let f = join_fits (scheme_in c.args.sizes) _ _ _ (sym c.in_ok-check_join.ensures) in
    (f.first-length, f.second-length, f.room)
