-- `pair_slices::slices::write_mask_frame` meets its contract: the header, and the own mask in place behind it.
use mathlib.Core.Path.{◌≡◌, ap, ◌∙◌}
use mathlib.Core.List.{List, [], ◌∷◌, ◌++◌, append-nil}
use Prim.Native.Nat.{ℕ, ◌+◌, ◌-◌, ◌≤◌}
use native.Mathlib.Omega.{arith}
use lib.ListN.{length, take, drop}
use Rattle.linear_model.proofs.Copies.{pasted}
use Rattle.numbers.specs.Number.{at_front}
use Rattle.pair_frames.specs.Schemes.{scheme_in}
use Rattle.pair_frames.proofs.Parts.{part_long, fields_part}
use Rattle.pair_model.specs.Scheme.{no_files, Scheme, concat}
use Rattle.pair_model.specs.Frame.{carried_parameters, Parameters, mask_kind, open_kind, header, frame, frame_bytes, body_of, header_bytes}
use Rattle.pair_model.specs.Unit.{take_open}
use Rattle.pair_model.specs.StateSlice.{decode_as}
use Rattle.pair_model.proofs.Internal.Lengths.{open_length}
use Rattle.pair_model.proofs.Internal.FieldCopies.{fields_none, fields_more, fields_front}
use Rattle.std.proofs.lemmas.Grind.{common_steps}
use Rattle.pair_slices.proofs.slices.write_mask_frame.Goals as goal

-- a string o with a header at its front, and then m bytes behind it written in place
module _ (m : ℕ) (o o₁ : List ℕ) (room : header_bytes + m ≤ length o) (kept : length o₁ ≡ length o) where
  lent_long : length (take (header_bytes + m - header_bytes) (drop header_bytes o₁)) ≡ m
  lent_long = part_long o₁ header_bytes (header_bytes + m) (omega arith) (omega arith) ∙ omega arith

  module _ (w : List ℕ) (lw : length w ≡ m) where
    abbrev framed : List ℕ
    framed = take header_bytes o₁ ++ (w ++ drop (header_bytes + m - header_bytes) (drop header_bytes o₁))

    framed_is : (head : List ℕ) → length head ≡ header_bytes → o₁ ≡ pasted 0 head o → framed ≡ concat (head ∷ w ∷ []) ++ drop (header_bytes + m) o
    framed_is head l e = fields_front (fields_part (fields_more (fields_none {d = o}) header_bytes head o₁ l (omega arith) e) m room w lw)

module _ (S : Scheme) (s f : List ℕ) (t : Parameters) (is : t ≡ carried_parameters s) where
  abbrev m : ℕ
  m = S.inner_bytes

  written : (head w o : List ℕ) → head ≡ header mask_kind t → w ≡ (take_open S (decode_as S s) (body_of f) no_files).next.secrets.own_mask
      → concat (head ∷ w ∷ []) ++ drop (header_bytes + m) o ≡ at_front (take_open S (decode_as S s) (body_of f) no_files).written o
  unfolding take_open frame concat decode_as
  written head w o h e =
      (λ i. ((h ∙ ap (header mask_kind) is) i ++ append-nil (e i) i) ++ drop (header_bytes + m) o)
      ∙ ap (λ (k : ℕ). (take_open S (decode_as S s) (body_of f) no_files).written ++ drop k o) (open_length S (decode_as S s) (body_of f) no_files)

-- a mask frame is no longer than an open frame
mask_fits : (S : Scheme) (o : List ℕ) → S.inner_bytes ≡ S.key_bytes → frame_bytes S open_kind ≤ length o → header_bytes + S.inner_bytes ≤ length o
mask_fits S o e h = omega arith

pub write_mask_of-requires : goal.write_mask_of-requires
write_mask_of-requires c =
    let a = c.args in
    let z = a.sizes in
    let o = a.out.now in
    let o₁ : List ℕ = c.copy_from_slice.new.self ++ drop header_bytes o in
    let kept : length o₁ ≡ length o = grind (arith, common_steps) in (
      c.requires.0,
      ap (λ (t : Parameters). t.side) c.parameters_of-parameters.ensures,
      c.requires.1,
      lent_long z.inner_bytes o o₁ (mask_fits (scheme_in z) o z.fits.circulant c.requires.2) kept,
    )

pub returns : goal.returns
unfolding header
returns c =
    let a = c.args in
    let S = scheme_in a.sizes in
    let m = a.sizes.inner_bytes in
    let o = a.out.now in
    let is = c.header_bytes.ensures in
    let o₁ : List ℕ = c.copy_from_slice.new.self ++ drop header_bytes o in
    let ŵi = c.write_mask_of.new.out in
    let room = mask_fits S o a.sizes.fits.circulant c.requires.2 in
    let kept : length o₁ ≡ length o = grind (arith, common_steps) in
    let head : o₁ ≡ pasted 0 c.header_bytes.result o = grind (arith, common_steps) in
    let lw = c.write_mask_of.auto.out ∙ lent_long m o o₁ room kept in
    framed_is m o o₁ room kept ŵi lw c.header_bytes.result (ap length is) head
    ∙ written S a.state.now a.f.now _ c.parameters_of-parameters.ensures _ ŵi o is c.write_mask_of.ensures
