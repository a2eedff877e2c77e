-- `pair_frames::frame::write_frame` meets its contract. The body is copied behind the header.
use mathlib.Core.Path.{refl, ◌∙◌}
use mathlib.Core.List.{◌++◌, append-nil}
use Prim.Native.Nat.{◌+◌}
use native.Mathlib.Omega.{arith}
use lib.ListN.{length, drop}
use Rattle.pair_model.specs.Scheme.{concat}
use Rattle.pair_model.specs.Frame.{header, frame, header_bytes}
use Rattle.pair_model.proofs.Internal.FieldCopies.{fields_more, fields_front}
use Rattle.pair_frames.specs.Headers.{parameters_in}
use Rattle.pair_frames.proofs.Parts.{header-first}
use Rattle.pair_frames.proofs.frame.write_frame.Goals as goal

pub returns : goal.returns
unfolding frame concat
returns c =
    let a = c.args in
    let body = a.body.now in
    let n = length body in
    let h = header-first c.header_bytes.result _ _ _ c.header_bytes.ensures c.put.ensures (omega (arith, c.requires)) in
    fields_front (fields_more h n body _ refl c.requires c.put-2.ensures)
    ∙ (λ i. (header a.kind (parameters_in a.parameters) ++ append-nil body i) ++ drop (header_bytes + n) a.out.now)
