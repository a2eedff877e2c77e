-- `pair_deals::frames::write_first` meets its contract: z0 and r0 are copied behind the masks.
use mathlib.Core.Path.{refl, ap, ◌∙◌}
use Prim.Native.Nat.{ℕ, ◌+◌}
use Rattle.linear_model.proofs.Copies.{pasted}
use Rattle.pair_model.specs.Frame.{shared_parameters}
use Rattle.pair_model.specs.Scheme.{side0}
use Rattle.pair_deals.proofs.Parts.{first_frame}
use Rattle.pair_deals.proofs.frames.write_first.Goals as goal

pub returns : goal.returns
returns c =
    let tape = c.args.tape.now in
    let p = c.args.parameters in
    let m = c.put_masks-z_at in
    let z = c.first_z in
    let r = c.first_r in
    first_frame tape.sizes tape.bytes.now (shared_parameters p.session p.line) side0 c.requires.1
    c.first_key_mask-key_mask.ensures.part c.first_key_mask-key_mask.ensures.long c.first_label_mask-label_mask.ensures.part c.first_label_mask-label_mask.ensures.long
    (rw c.requires.0 at m.ensures.fields) refl z.ensures.part z.ensures.long r.ensures.part r.ensures.long
    (c.put.ensures ∙ ap (λ (k : ℕ). pasted k z.result.now m.new.out) m.ensures.place)
    (c.put-2.ensures ∙ ap (λ (k : ℕ). pasted (k + tape.sizes.inner_bytes) r.result.now c.put.new.out) m.ensures.place)
