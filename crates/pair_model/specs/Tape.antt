-- The tape, when it is accepted, and the deal that it makes for each unit.
use Rattle.std.specs.Prelude.{ℕ, ◌*◌, List, [], ◌∷◌, Bool, not, T}
use Rattle.linear_model.specs.Bits.{Bytes, add_bits}
use Rattle.linear_model.specs.Trits.{fit_trits, subtract_trits}
use Rattle.pair_model.specs.Scheme.{Files, Scheme, product_with, Side, side0, side1, total, layout_bytes, field, concat}

module _ (S : Scheme) where
  -- a tape: K̃0, K̃1, x̃0, x̃1, w̃, z0, then the trit vector r0
  abbrev pub tape_layout : List ℕ
  tape_layout =
      S.key_bytes ∷ S.key_bytes ∷ S.key_bytes ∷ S.key_bytes ∷ S.inner_bytes ∷ S.inner_bytes ∷ 2 * S.inner_bytes ∷ []

  abbrev pub tape_bytes : ℕ
  tape_bytes = layout_bytes tape_layout

  unfoldable pub K̃ : List ℕ → Side → List ℕ
  K̃ tape side0 = field tape_layout 0 tape
  K̃ tape side1 = field tape_layout 1 tape

  unfoldable pub x̃ : List ℕ → Side → List ℕ
  x̃ tape side0 = field tape_layout 2 tape
  x̃ tape side1 = field tape_layout 3 tape

  unfoldable pub w̃ : List ℕ → List ℕ
  w̃ tape = field tape_layout 4 tape

  unfoldable pub z0 : List ℕ → List ℕ
  z0 tape = field tape_layout 5 tape

  unfoldable pub r0 : List ℕ → List ℕ
  r0 tape = field tape_layout 6 tape

  -- a tape is accepted when it has the stated length and no trit of its r0 has both bits set
  pub record Accepted (tape : List ℕ) : Type 0 where
    pub bytes : Bytes tape_bytes tape
    pub fit : T (fit_trits S.inner_bytes (8 * S.inner_bytes) (r0 tape))

  -- whether a trit of its r0 has both bits set
  abbrev pub unfit_tape : List ℕ → Bool
  unfit_tape tape = not (fit_trits S.inner_bytes (8 * S.inner_bytes) (r0 tape))

  -- z1 = z0 + K̃ × x̃ + w̃ modulo 2
  unfoldable pub z : Files → List ℕ → Side → List ℕ
  z lent tape side0 = z0 tape
  z lent tape side1 =
      add_bits S.inner_bytes
      (add_bits S.inner_bytes (z0 tape) (product_with S lent (total S.key_bytes (K̃ tape)) (total S.key_bytes (x̃ tape)))) (w̃ tape)

  -- r1 = w̃ − r0 modulo 3
  unfoldable pub r : List ℕ → Side → List ℕ
  r tape side0 = r0 tape
  r tape side1 = subtract_trits S.inner_bytes (w̃ tape) (r0 tape)

  -- the deal of unit i: K̃i, x̃i, zi, ri
  abbrev pub deal_layout : List ℕ
  deal_layout = S.key_bytes ∷ S.key_bytes ∷ S.inner_bytes ∷ 2 * S.inner_bytes ∷ []

  unfoldable pub deal : Files → List ℕ → Side → List ℕ
  deal lent tape i = concat (K̃ tape i ∷ x̃ tape i ∷ z lent tape i ∷ r tape i ∷ [])
