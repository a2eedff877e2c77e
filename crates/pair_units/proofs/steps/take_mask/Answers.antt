-- `pair_units::steps::take_mask` meets its contract: the share frame of the own mask, the other's and r.
use mathlib.Core.Path.{◌≡◌, ap, ◌∙◌}
use mathlib.Core.List.{List}
use Prim.Native.Nat.{ℕ, ◌+◌, ◌-◌}
use native.Mathlib.Omega.{arith}
use lib.ListN.{take, drop, length-drop}
use lib.Seq.{take_all}
use Rattle.linear_model.specs.Bits.{add_bits}
use Rattle.numbers.specs.Number.{at_front}
use Rattle.pair_frames.specs.Schemes.{scheme_in}
use Rattle.pair_model.specs.Scheme.{files}
use Rattle.pair_model.specs.Frame.{share_kind, frame, body_of, header_bytes}
use Rattle.pair_model.specs.Unit.{share_of, take_mask}
use Rattle.pair_units.specs.Units.{state_at}
use Rattle.pair_units.proofs.steps.take_mask.Goals as goal

pub returns : goal.returns
unfolding take_mask
returns c =
    let a = c.args in
    let S = scheme_in a.sizes in
    let m = a.sizes.inner_bytes in
    let u = state_at a.sizes a.u in
    let b = body_of a.f.now in
    let body : take (header_bytes + m - header_bytes) (drop header_bytes a.f.now) ≡ b = take_all (header_bytes + m - header_bytes) b (rw length-drop (omega (arith, c.requires.0))) in record {
      next = c.cleared.ensures;
      output = c.write_share_frame.ensures
          ∙ ap (λ (x : List ℕ). at_front (frame share_kind u.parameters (share_of S (files a.file.now) u.parameters.side (add_bits m u.secrets.own_mask x) u.secrets.r)) a.out.now) body;
    }
