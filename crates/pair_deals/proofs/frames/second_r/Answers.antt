-- `pair_deals::frames::second_r` meets its contract.
use mathlib.Core.Path.{◌∙◌}
use Prim.Native.Nat.{◌*◌, ◌/◌}
use mathlib.Core.List.{◌++◌}
use lib.ListN.{length, drop}
use Rattle.linear_model.specs.Trits.{subtract_trits}
use Rattle.pair_deals.proofs.Parts.{r_is}
use Rattle.pair_deals.proofs.frames.second_r.Goals as goal

pub returns : goal.returns
returns c =
    let tape = c.args.tape.now in
    let d = c.args.out.now in
    r_is tape.sizes tape.bytes.now d _ c.requires
    (c.subtract_trits.ensures ∙ (λ i. subtract_trits (length d / 2) (c.inner_mask.ensures.part i) (c.first_r.ensures.part i) ++ drop (2 * (length d / 2)) d))
