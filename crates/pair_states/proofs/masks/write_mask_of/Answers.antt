-- `pair_states::masks::write_mask_of` meets its contract: each part that is lent is a field of the state.
use mathlib.Core.Path.{◌≡◌, ◌∙◌}
use mathlib.Core.List.{List}
use Prim.Native.Nat.{ℕ}
use lib.Dec.{lit<}
use Rattle.linear_model.specs.Bits.{add_bits}
use Rattle.pair_frames.specs.Schemes.{scheme_in}
use Rattle.pair_model.specs.Scheme.{no_files, Scheme, field}
use Rattle.pair_model.specs.Frame.{side_of, body_of, open_layout}
use Rattle.pair_model.specs.Unit.{mask_of, take_open}
use Rattle.pair_model.specs.StateSlice.{in_front, decode_as}
use Rattle.pair_rooms.proofs.InTurn.{part_at}
use Rattle.pair_states.proofs.masks.write_mask_of.Goals as goal

-- the own mask of strings that are the state's
own-mask : (S : Scheme) (s f : List ℕ) (side : ℕ) (key label K̃ x̃ z : List ℕ) → side ≡ side_of s
    → key ≡ in_front s 0 S.key_bytes → label ≡ in_front s 1 S.key_bytes
    → K̃ ≡ in_front s 2 S.key_bytes → x̃ ≡ in_front s 3 S.key_bytes → z ≡ in_front s 4 S.inner_bytes
    → mask_of S no_files side
    (add_bits S.key_bytes (add_bits S.key_bytes key K̃) (field (open_layout S) 0 (body_of f)))
    (add_bits S.key_bytes (add_bits S.key_bytes label x̃) (field (open_layout S) 1 (body_of f)))
    K̃ x̃ z
    ≡ (take_open S (decode_as S s) (body_of f) no_files).next.secrets.own_mask
unfolding take_open decode_as
own-mask S s f side key label K̃ x̃ z a b c d e g =
    λ i. mask_of S no_files (a i)
    (add_bits S.key_bytes (add_bits S.key_bytes (b i) (d i)) (field (open_layout S) 0 (body_of f)))
    (add_bits S.key_bytes (add_bits S.key_bytes (c i) (e i)) (field (open_layout S) 1 (body_of f)))
    (d i) (e i) (g i)

pub returns : goal.returns
returns c =
    let a = c.args in
    let S = scheme_in a.sizes in
    let u = a.state.now in
    let n = S.key_bytes in
    let m = S.inner_bytes in
    let key = c.args.sizes.fits.key in
    let inner = c.args.sizes.fits.inner in
    c.write_own_mask.ensures
    ∙ own-mask S u a.f.now a.side _ _ _ _ _ c.requires.1 (part_at u 0 n (lit< tt) key) (part_at u 1 n (lit< tt) key)
    (part_at u 2 n (lit< tt) key) (part_at u 3 n (lit< tt) key) (part_at u 4 m (lit< tt) inner)
