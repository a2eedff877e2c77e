-- The counter's join: two share frames, side 0's first, and the code.
use Rattle.std.specs.Prelude.{ℕ, List, [], ◌∷◌, ◌++◌, Bool, not, ◌||◌, ltb, eqb}
use Rattle.linear_model.specs.Trits.{fit_trits, zero_trits, add_trits}
use Rattle.linear_model.specs.Products.{plane_bytes}
use Rattle.numbers.specs.Number.{Condition, ◌when◌, first}
use Rattle.pair_model.specs.Scheme.{Scheme}
use Rattle.pair_model.specs.Frame.{share_kind, line_of, body_of, code_bytes}
use Rattle.pair_model.specs.Header.{read_header, refused_with, side_read, session_read, line_conditions}

module _ (S : Scheme) where
  -- a digit with both bits set, and an unused bit that is set
  abbrev pub unfit_share : List ℕ → Bool
  unfit_share f = not (fit_trits (plane_bytes S.digits) S.digits (body_of f))

  abbrev pub spare_set : List ℕ → Bool
  spare_set f = not (zero_trits (plane_bytes S.digits) S.digits (body_of f))

  -- the table's conditions in its order: what both headers are read to
  abbrev pub join_header_conditions : List ℕ → List ℕ → List Condition
  join_header_conditions f g =
      let p = read_header S share_kind share_kind f in
      let q = read_header S share_kind share_kind g in
      3 when (refused_with 3 p || refused_with 3 q)
      ∷ 4 when (refused_with 4 p || refused_with 4 q)
      ∷ 5 when not (eqb (session_read p) (session_read q))
      ∷ 6 when (not (eqb (side_read p) 0) || not (eqb (side_read q) 1))
      ∷ []

  -- what both shares are
  abbrev pub share_conditions : List ℕ → List ℕ → List Condition
  share_conditions f g = 10 when (unfit_share f || unfit_share g) ∷ 11 when (spare_set f || spare_set g) ∷ []

  -- the lines come last
  unfoldable pub join_conditions : List ℕ → List ℕ → ℕ → List Condition
  join_conditions f g output_length =
      1 when ltb output_length (code_bytes S) ∷ join_header_conditions f g ++ share_conditions f g ++ line_conditions (line_of g) f

  abbrev pub join_number : List ℕ → List ℕ → ℕ → ℕ
  join_number f g output_length = first (join_conditions f g output_length)

  -- the code: the two shares added modulo 3
  unfoldable pub joined : List ℕ → List ℕ → List ℕ
  joined f g = add_trits (plane_bytes S.digits) (body_of f) (body_of g)
