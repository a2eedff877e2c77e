-- `pair_counter::join::add_shares` meets its contract: the bodies of two share frames are added to the front.
use mathlib.Core.Path.{◌∙◌}
use mathlib.Core.List.{◌++◌}
use Prim.Native.Nat.{◌*◌, ◌/◌}
use lib.ListN.{length, take, drop}
use Rattle.linear_model.specs.Trits.{add_trits}
use Rattle.pair_frames.specs.Schemes.{scheme_in}
use Rattle.pair_model.proofs.Internal.Joins.{join_written}
use Rattle.pair_counter.proofs.join.add_shares.Goals as goal

pub returns : goal.returns
returns c =
    let S = scheme_in c.args.sizes in
    let n = c.code_bytes in
    let front = take n.result c.args.out.now in
    join_written S c.args.first.now c.args.second.now c.args.out.now _ n.ensures c.requires.0 c.requires.1 c.requires.2
    (c.add_trits.ensures
    ∙ (λ i. add_trits (length front / 2) (c.share_of.ensures i) (c.share_of-2.ensures i) ++ drop (2 * (length front / 2)) front))
