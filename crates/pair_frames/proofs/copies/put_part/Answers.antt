-- `pair_frames::copies::put_part` meets its contract: the part that is copied has its length.
use mathlib.Core.Path.{◌≡◌, ap, ◌∙◌}
use Prim.Native.Nat.{ℕ, ◌+◌, ◌-◌}
use native.Mathlib.Omega.{arith}
use lib.ListN.{take, drop, length-drop}
use lib.Seq.{length-take-le}
use Rattle.linear_model.proofs.Copies.{pasted}
use Rattle.pair_frames.proofs.copies.put_part.Goals as goal

pub returns : goal.returns
returns c =
    let a = c.args in
    let s = a.s.now in
    let k : a.first + a.n - a.first ≡ a.n = omega arith in
    record {
      long = length-take-le a.n (drop a.first s) (rw length-drop (omega arith));
      output = c.put.ensures ∙ ap (λ (j : ℕ). pasted a.at (take j (drop a.first s)) a.out.now) k;
    }
