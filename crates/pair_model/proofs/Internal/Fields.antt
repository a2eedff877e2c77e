-- Fields by their place, and those of a tape.
use mathlib.Core.Path.{◌≡◌, refl, sym, ap, ◌∙◌}
use mathlib.Core.List.{List, [], ◌∷◌}
use Prim.Native.Nat.{ℕ, zero, suc, ◌+◌, ◌*◌, ◌<◌}
use native.Mathlib.Omega.{arith}
use native.Mathlib.Nat.{not-suc-le-zero, le_of_suc-le-suc}
use lib.Dec.{lit<}
use lib.ListN.{length, get_or, take, drop}
use lib.Seq.{drop-drop}
use Rattle.pair_model.specs.Scheme.{Scheme, side0, side1, layout_bytes, field}
use Rattle.pair_model.specs.Tape.{tape_layout, K̃, x̃, w̃, z0, r0}

-- field i starts behind the fields before it
pub field_place : (sizes : List ℕ) (i : ℕ) (s : List ℕ) → i < length sizes → take (get_or sizes i 0) (drop (layout_bytes (take i sizes)) s) ≡ field sizes i s
unfolding field
field_place [] i s h = absurd (not-suc-le-zero h)
field_place (n ∷ sizes) zero s h = refl
field_place (n ∷ sizes) (suc i) s h =
    ap (take (get_or sizes i 0)) (sym (drop-drop (layout_bytes (take i sizes)) n s)) ∙ field_place sizes i (drop n s) (le_of_suc-le-suc h)

-- the same from a place on: a frame's body starts behind the header
pub field_at : (sizes : List ℕ) (i at : ℕ) (s : List ℕ) → i < length sizes
    → take (get_or sizes i 0) (drop (at + layout_bytes (take i sizes)) s) ≡ field sizes i (drop at s)
field_at sizes i at s h = ap (take (get_or sizes i 0)) (sym (drop-drop (layout_bytes (take i sizes)) at s)) ∙ field_place sizes i (drop at s) h

-- those of a tape: K̃0, K̃1, x̃0, x̃1, w̃, z0, r0
module _ (S : Scheme) (t : List ℕ) where
  abbrev n : ℕ
  n = S.key_bytes

  abbrev m : ℕ
  m = S.inner_bytes

  -- field i, at a place that is the sum of the sizes before it
  part : (i at : ℕ) → i < 7 → at ≡ layout_bytes (take i (tape_layout S)) → take (get_or (tape_layout S) i 0) (drop at t) ≡ field (tape_layout S) i t
  part i at l e = ap (λ (k : ℕ). take (get_or (tape_layout S) i 0) (drop k t)) e ∙ field_place (tape_layout S) i t l

  pub tape_K̃0 : take n t ≡ K̃ S t side0
  unfolding K̃
  tape_K̃0 = part 0 0 (lit< tt) refl

  pub tape_K̃1 : take n (drop n t) ≡ K̃ S t side1
  unfolding K̃
  tape_K̃1 = part 1 n (lit< tt) (omega arith)

  pub tape_x̃0 : take n (drop (2 * n) t) ≡ x̃ S t side0
  unfolding x̃
  tape_x̃0 = part 2 (2 * n) (lit< tt) (omega arith)

  pub tape_x̃1 : take n (drop (3 * n) t) ≡ x̃ S t side1
  unfolding x̃
  tape_x̃1 = part 3 (3 * n) (lit< tt) (omega arith)

  pub tape-w̃ : take m (drop (4 * n) t) ≡ w̃ S t
  unfolding w̃
  tape-w̃ = part 4 (4 * n) (lit< tt) (omega arith)

  pub tape-z0 : take m (drop (4 * n + m) t) ≡ z0 S t
  unfolding z0
  tape-z0 = part 5 (4 * n + m) (lit< tt) (omega arith)

  pub tape-r0 : take (2 * m) (drop (4 * n + 2 * m) t) ≡ r0 S t
  unfolding r0
  tape-r0 = part 6 (4 * n + 2 * m) (lit< tt) (omega arith)
