-- `pair_whole::run::share_frame` meets its contract: what is written fills the frame.
use mathlib.Core.Path.{sym, ap, ◌∙◌}
use mathlib.Core.List.{◌++◌, append-nil}
use Prim.Native.Nat.{ℕ}
use lib.ListN.{take, drop}
use Rattle.linear_model.specs.Bits.{zeros}
use Rattle.pair_model.specs.Scheme.{files}
use Rattle.pair_frames.specs.Numbers.{set_sizes}
use Rattle.pair_model.specs.Base.{base}
use Rattle.pair_model.specs.Frame.{mask_kind, share_kind, frame_bytes, body_of}
use Rattle.pair_model.specs.Unit.{take_mask}
use Rattle.pair_model.proofs.Internal.Lengths.{share-length}
use Rattle.pair_units.specs.Units.{state_by}
use Rattle.pair_whole.proofs.run.share_frame.Goals as goal

pub returns : goal.returns
returns c =
    let a = c.args in
    let u = state_by (set_sizes 1) a.u in
    let b = body_of (take (frame_bytes base mask_kind) a.sent.now) in
    c.take_mask.ensures.output
    ∙ ap (λ (n : ℕ). (take_mask base u b (files a.file.now)).written ++ drop n (zeros (frame_bytes base share_kind))) (sym (share-length base u b (files a.file.now)))
    ∙ append-nil _
