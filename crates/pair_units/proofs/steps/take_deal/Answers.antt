-- `pair_units::steps::take_deal` meets its contract: the open frame has the halves under the deal's masks.
use mathlib.Core.Path.{◌≡◌, sym, ap, ◌∙◌}
use mathlib.Core.List.{List, [], ◌∷◌, ◌++◌}
use Prim.Native.Nat.{ℕ, ◌+◌, ◌*◌, ◌<◌, ◌≤◌}
use native.Mathlib.Omega.{arith}
use lib.Dec.{lit<}
use lib.ListN.{length, get_or, take, drop, length-drop}
use lib.Seq.{length-take-le}
use Rattle.linear_model.specs.Bits.{add_bits}
use Rattle.pair_frames.specs.Headers.{parameters_in}
use Rattle.pair_frames.specs.Schemes.{scheme_in}
use Rattle.pair_frames.proofs.Parts.{field_part, field_is}
use Rattle.pair_frames.proofs.Fronts.{zeros-front}
use Rattle.pair_model.specs.Scheme.{layout_bytes, field, concat}
use Rattle.pair_model.specs.Tape.{deal_layout}
use Rattle.pair_model.specs.Frame.{open_kind, frame, frame_bytes, body_of, header_bytes}
use Rattle.pair_model.specs.Unit.{state, take_deal}
use Rattle.pair_model.specs.StateSlice.{string_room, trits_room, in_room}
use Rattle.pair_model.proofs.Internal.Encodings.{room_front}
use Rattle.pair_model.proofs.Internal.Lengths.{deal-length}
use Rattle.pair_units.specs.Units.{state_at}
use Rattle.pair_units.proofs.steps.take_deal.Goals as goal

-- a field of the deal in the front of its room
front : (layout : List ℕ) (i k room : ℕ) (f o : List ℕ) → i < length layout → k ≡ header_bytes + layout_bytes (take i layout) → k + get_or layout i 0 ≤ length f
    → o ≡ in_room room (field layout i (body_of f)) → take (get_or layout i 0) o ≡ field layout i (body_of f)
front layout i k room f o h start l e =
    let n = get_or layout i 0 in
    ap (take n) e
    ∙ room_front room n (field layout i (body_of f)) (ap length (sym (field_is layout i header_bytes k f h start)) ∙ length-take-le n (drop k f) (rw length-drop (omega arith)))

pub returns : goal.returns
unfolding take_deal
returns c =
    let a = c.args in
    let S = scheme_in a.sizes in
    let n = a.sizes.key_bytes in
    let m = a.sizes.inner_bytes in
    let u = state_at a.sizes a.u in
    let o = a.out.now in
    let f = a.f.now in
    let p = parameters_in a.u.parameters in
    let d = c.read_deal.ensures in
    let K̃ = field_part (deal_layout S) 0 header_bytes header_bytes (header_bytes + n) f (lit< tt) (omega arith) (omega arith) in
    let x̃ = field_part (deal_layout S) 1 header_bytes (header_bytes + n) (header_bytes + n + n) f (lit< tt) (omega arith) (omega arith) in
    let d0 = front (deal_layout S) 0 header_bytes string_room f _ (lit< tt) (omega arith) (omega (arith, c.requires.0)) d.key_mask in
    let d1 = front (deal_layout S) 1 (header_bytes + n) string_room f _ (lit< tt) (omega arith) (omega (arith, c.requires.0)) d.label_mask in
    let d2 = front (deal_layout S) 2 (header_bytes + 2 * n) string_room f _ (lit< tt) (omega arith) (omega (arith, c.requires.0)) d.z in
    let d3 = front (deal_layout S) 3 (header_bytes + 2 * n + m) trits_room f _ (lit< tt) (omega arith) (omega (arith, c.requires.0)) d.r in
    let none = zeros-front m string_room c.args.sizes.fits.inner in record {
      next = (λ i. state a.sizes.set p open_kind (record {
        key = u.secrets.key;
        label = u.secrets.label;
        key_mask = d0 i;
        label_mask = d1 i;
        z = d2 i;
        r = d3 i;
        own_mask = none i;
      }));
      output = c.write_open_frame.ensures
          ∙ (λ i. frame open_kind p (concat (add_bits n u.secrets.key (K̃ i) ∷ add_bits n u.secrets.label (x̃ i) ∷ [])) ++ drop (frame_bytes S open_kind) o)
          ∙ ap (λ (k : ℕ). (take_deal S u (body_of f)).written ++ drop k o) (deal-length S u (body_of f));
    }
