-- `pair_deals::frames::put_masks` meets its contract: the masks are copied behind the header.
use mathlib.Core.Path.{◌∙◌, refl, ap}
use mathlib.Core.List.{List}
use Prim.Native.Nat.{ℕ}
use native.Mathlib.Omega.{arith}
use lib.ListN.{length}
use Rattle.linear_model.proofs.Copies.{pasted}
use Rattle.pair_model.specs.Frame.{header, deal_kind}
use Rattle.pair_model.proofs.Internal.FieldCopies.{fields_none, fields_more}
use Rattle.pair_frames.specs.Headers.{parameters_in}
use Rattle.pair_frames.proofs.Parts.{headed}
use Rattle.pair_deals.proofs.frames.put_masks.Goals as goal

pub returns-clause-fields : goal.returns-clause-fields
returns-clause-fields c =
    let a = c.args in
    let h = header deal_kind (parameters_in a.parameters) in
    let f₀ = fields_more (fields_none {d = a.out.now}) _ h c.put.new.out (headed h deal_kind _ refl) (omega arith) (c.put.ensures ∙ ap (λ (x : List ℕ). pasted 0 x a.out.now) c.header_bytes.ensures) in
    let f₁ = fields_more f₀ (length a.key_mask.now) a.key_mask.now c.put-2.new.out refl (omega arith) c.put-2.ensures in
    fields_more f₁ (length a.label_mask.now) a.label_mask.now c.put-3.new.out refl (omega arith) c.put-3.ensures
