-- `pair_frames::frame::header_bytes` meets its contract, byte by byte.
use Rattle.pair_model.specs.Frame.{header}
use Rattle.pair_frames.proofs.frame.header_bytes.Goals as goal

pub returns : goal.returns
unfolding header
returns c = rw c.to_le_bytes.ensures
