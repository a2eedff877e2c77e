-- `pair_frames::fields::r_of_deal` meets its contract: the part is the deal's last field.
use Prim.Native.Nat.{ℕ, ◌+◌, ◌*◌}
use native.Mathlib.Omega.{arith}
use lib.Dec.{lit<}
use Rattle.pair_model.specs.Frame.{header_bytes}
use Rattle.pair_model.specs.Tape.{deal_layout}
use Rattle.pair_frames.specs.Schemes.{scheme_in}
use Rattle.pair_frames.proofs.Parts.{field_part}
use Rattle.pair_frames.proofs.fields.r_of_deal.Goals as goal

pub returns : goal.returns
returns c =
    let a = c.args in
    let k : ℕ = header_bytes + 2 * a.sizes.key_bytes + a.sizes.inner_bytes in
    field_part (deal_layout (scheme_in a.sizes)) 3 header_bytes k (k + 2 * a.sizes.inner_bytes) a.f.now (lit< tt) (omega arith) (omega arith)
