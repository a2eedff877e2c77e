-- How long the frames are that a step writes.
use mathlib.Core.Path.{◌≡◌, sym, ap, ◌∙◌}
use mathlib.Core.List.{List, [], ◌∷◌}
use Prim.Native.Nat.{ℕ, ◌+◌}
use lib.ListN.{length, length-append}
use Rattle.linear_model.specs.Bits.{add_bits}
use Rattle.linear_model.proofs.Strings.{bytes_add}
use Rattle.pair_model.specs.Scheme.{Files, Scheme, field}
use Rattle.pair_model.specs.Tape.{deal_layout}
use Rattle.pair_model.specs.Frame.{Parameters, open_kind, mask_kind, share_kind, header, frame, open_layout, frame_bytes, header_bytes}
use Rattle.pair_model.specs.Unit.{State, share_of, take_deal, take_open, take_mask}
use Rattle.pair_model.proofs.Theorem.Layouts.{bytes_concat}
use Rattle.pair_model.proofs.Theorem.MaskLaws.{bytes_mask_of}
use Rattle.pair_model.proofs.Theorem.ShareLaws.{bytes_code}

-- the length of a frame
pub length-frame : (kind : ℕ) (t : Parameters) (body : List ℕ) → length (frame kind t body) ≡ header_bytes + length body
unfolding frame header
length-frame kind t body = length-append (header kind t) body

module _ (S : Scheme) (u : State) (body : List ℕ) where
  -- at a deal
  pub deal-length : frame_bytes S open_kind ≡ length (take_deal S u body).written
  unfolding take_deal
  deal-length =
      sym (length-frame open_kind _ _ ∙ ap (λ (k : ℕ). header_bytes + k)
      (bytes_concat (open_layout S) (half u.secrets.key 0 ∷ half u.secrets.label 1 ∷ []) (bytes_add S.key_bytes _ _, (bytes_add S.key_bytes _ _, tt))).size)
    where
      half : List ℕ → ℕ → List ℕ
      half a i = add_bits S.key_bytes a (field (deal_layout S) i body)

  module _ (lent : Files) where
    -- at an open frame
    pub open_length : frame_bytes S mask_kind ≡ length (take_open S u body lent).written
    unfolding take_open
    open_length = sym (length-frame mask_kind _ _ ∙ ap (λ (k : ℕ). header_bytes + k) (bytes_mask_of S lent _ _ _ _ _ _).size)

    -- at a mask frame
    pub share-length : frame_bytes S share_kind ≡ length (take_mask S u body lent).written
    unfolding take_mask share_of
    share-length = sym (length-frame share_kind _ _ ∙ ap (λ (k : ℕ). header_bytes + k) (bytes_code S lent _).size)
