-- `pair_deals::tape::Tape::first_key_mask` meets its contract.
use Rattle.pair_model.proofs.Internal.Fields.{tape_K̃0}
use Rattle.pair_frames.specs.Schemes.{scheme_in}
use Rattle.pair_deals.proofs.tape.Tape.first_key_mask.Goals as goal

pub returns-clause-part : goal.returns-clause-part
returns-clause-part c =
    let z = c.args.self.now in
    tape_K̃0 (scheme_in z.sizes) z.bytes.now
