-- `pair_deals::frames::write_second` meets its contract: z1 and r1 are written behind the masks.
use native.Mathlib.Omega.{arith}
use Rattle.pair_model.specs.Frame.{shared_parameters}
use Rattle.pair_model.specs.Scheme.{side1}
use Rattle.pair_deals.proofs.Parts.{second_frame}
use Rattle.pair_deals.proofs.frames.write_second.Goals as goal

pub returns : goal.returns
returns c =
    let tape = c.args.tape.now in
    let p = c.args.parameters in
    let m = c.put_masks-z_at in
    rw m.ensures.place
    (second_frame tape.sizes tape.bytes.now (shared_parameters p.session p.line) side1 c.requires.1
    c.second_key_mask-key_mask.ensures.part c.second_key_mask-key_mask.ensures.long c.second_label_mask-label_mask.ensures.part c.second_label_mask-label_mask.ensures.long
    (rw c.requires.0 at m.ensures.fields) c.second_z.ensures c.second_r.ensures (omega arith) (omega arith))
