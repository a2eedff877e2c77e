-- `pair_deals::tape::Tape::first_z` meets its contract.
use mathlib.Core.Path.{◌∙◌}
use Prim.Native.Nat.{◌+◌, ◌*◌}
use native.Mathlib.Omega.{arith}
use Rattle.pair_model.proofs.Internal.Fields.{tape-z0}
use Rattle.pair_frames.specs.Schemes.{scheme_in}
use Rattle.pair_deals.proofs.Parts.{cut}
use Rattle.pair_deals.proofs.tape.Tape.first_z.Goals as goal

pub returns-clause-part : goal.returns-clause-part
returns-clause-part c =
    let z = c.args.self.now in
    cut (4 * z.sizes.key_bytes + z.sizes.inner_bytes) (4 * z.sizes.key_bytes + z.sizes.inner_bytes + z.sizes.inner_bytes) (z.sizes.inner_bytes) z.bytes.now (omega arith) ∙ tape-z0 (scheme_in z.sizes) z.bytes.now
