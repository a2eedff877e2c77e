-- `pair_frames::fields::write_open_frame` meets its contract: two sums in place behind the header.
use mathlib.Core.Path.{◌≡◌, ◌∙◌}
use mathlib.Core.List.{[], ◌∷◌, ◌++◌}
use Prim.Native.Nat.{◌+◌}
use native.Mathlib.Omega.{arith}
use lib.ListN.{drop}
use Rattle.linear_model.specs.Bits.{add_bits}
use Rattle.pair_model.specs.Scheme.{concat}
use Rattle.pair_model.specs.Frame.{open_kind, header, frame, frame_bytes, header_bytes}
use Rattle.pair_model.proofs.Internal.FieldCopies.{fields_front}
use Rattle.pair_frames.specs.Headers.{parameters_in}
use Rattle.pair_frames.specs.Schemes.{scheme_in}
use Rattle.pair_frames.proofs.Parts.{header-first, sum_part}
use Rattle.pair_frames.proofs.fields.write_open_frame.Goals as goal

pub returns : goal.returns
unfolding frame concat
returns c =
    let a = c.args in
    let n = a.sizes.key_bytes in
    let o = a.out.now in
    let f0 = header-first c.header_bytes.result _ _ _ c.header_bytes.ensures c.put.ensures (omega (arith, c.requires)) in
    let f1 = sum_part f0 n (omega (arith, c.requires)) a.key.now a.key_mask.now _ c.add_bits.ensures in
    let f2 = sum_part f1 n (omega (arith, c.requires)) a.label.now a.label_mask.now _ c.add_bits-2.ensures in
    let e : header_bytes + n + n ≡ frame_bytes (scheme_in a.sizes) open_kind = omega arith in
    fields_front f2 ∙ (λ i. (header open_kind (parameters_in a.parameters) ++ concat (add_bits n a.key.now a.key_mask.now ∷ add_bits n a.label.now a.label_mask.now ∷ [])) ++ drop (e i) o)
