-- `pair_slices::slices::mask_in_place` meets its contract: the share frame of the slice's own mask and r and of the frame's mask.
use mathlib.Core.Path.{◌≡◌, ap, ◌∙◌}
use mathlib.Core.List.{List}
use Prim.Native.Nat.{ℕ, ◌+◌, ◌-◌, ◌*◌}
use native.Mathlib.Omega.{arith}
use lib.Dec.{lit<}
use lib.ListN.{length, take, drop, length-drop}
use lib.Seq.{take_all}
use Rattle.linear_model.specs.Bits.{add_bits}
use Rattle.numbers.specs.Number.{at_front}
use Rattle.pair_frames.specs.Schemes.{scheme_in}
use Rattle.pair_model.specs.Scheme.{Files, files, Scheme}
use Rattle.pair_model.specs.Frame.{carried_parameters, Parameters, mask_kind, share_kind, frame, frame_bytes, body_of, header_bytes}
use Rattle.pair_model.specs.Unit.{done, share_of, take_mask}
use Rattle.pair_model.specs.StateSlice.{in_front, encode_state, decode_as}
use Rattle.pair_rooms.proofs.InTurn.{part_at, has_room_in}
use Rattle.pair_states.proofs.Blank.{encode_nothing}
use Rattle.pair_slices.proofs.slices.mask_in_place.Goals as goal

module _ (S : Scheme) (s f : List ℕ) (lent : Files) (t : Parameters) (is : t ≡ carried_parameters s) where
  -- the slice afterwards is the state that is done, in its set
  next : encode_state (done S S.set t) ≡ encode_state (take_mask S (decode_as S s) (body_of f) lent).next
  unfolding take_mask decode_as
  next = ap (λ (p : Parameters). encode_state (done S S.set p)) is

  -- the share frame of strings that are the state's and the frame's
  written : (own other r o : List ℕ) → own ≡ in_front s 6 S.inner_bytes → other ≡ body_of f → r ≡ in_front s 5 (2 * S.inner_bytes)
      → at_front (frame share_kind t (share_of S lent t.side (add_bits S.inner_bytes own other) r)) o
      ≡ at_front (take_mask S (decode_as S s) (body_of f) lent).written o
  unfolding take_mask decode_as
  written own other r o a b c =
      λ i. at_front (frame share_kind (is i) (share_of S lent (is i).side (add_bits S.inner_bytes (a i) (b i)) (c i))) o

-- the body of a mask frame
body : (S : Scheme) (f : List ℕ) → length f ≡ frame_bytes S mask_kind → take (header_bytes + S.inner_bytes - header_bytes) (drop header_bytes f) ≡ body_of f
body S f l = take_all (header_bytes + S.inner_bytes - header_bytes) (body_of f) (rw length-drop (omega arith))

pub returns : goal.returns
returns c =
    let a = c.args in
    let S = scheme_in a.sizes in
    let u = a.state.now in
    let lent = files a.file.now in
    let inner = c.args.sizes.fits.inner in
    let has_room = has_room_in a.sizes in
    let t = c.parameters_of-parameters.ensures in record {
      state = c.clear.ensures ∙ encode_nothing S has_room S.set _ 4 ∙ next S u a.f.now lent _ t;
      output = c.write_share_frame.ensures
          ∙ written S u a.f.now lent _ t _ _ _ a.out.now (part_at u 6 S.inner_bytes (lit< tt) inner) (body S a.f.now c.requires.1)
          (part_at u 5 (2 * S.inner_bytes) (lit< tt) (omega (arith, inner)));
    }
