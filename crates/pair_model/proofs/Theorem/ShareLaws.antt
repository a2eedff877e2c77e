-- The counter's join takes the two share frames of a run, and gives the run's own code.
use Prim.Native.Nat.{ℕ, ◌+◌, ◌-◌, ◌*◌, ◌<◌}
use mathlib.Core.Path.{◌≡◌, refl, ap, ◌∙◌}
use mathlib.Core.List.{List}
use mathlib.Core.Bool.{Bool, true, cond}
use native.Mathlib.Omega.{arith}
use native.Mathlib.Nat.{le_refl}
use lib.Dec.{T, lit≤}
use lib.ListN.{length}
use Rattle.linear_model.specs.Bits.{Bytes}
use Rattle.linear_model.specs.Trits.{trit, fit_trits, zero_trit, zero_trits}
use Rattle.linear_model.specs.Products.{plane_bytes, row_digit}
use Rattle.linear_model.proofs.Tables.{every_of}
use Rattle.linear_model.proofs.Linearity.{trit-matrix, bytes_matrix, fit_matrix}
use Rattle.numbers.specs.Number.{first}
use Rattle.pair_model.specs.Scheme.{Files, Scheme, rows_with, Linear, Side, side0, side1, total}
use Rattle.pair_model.specs.Frame.{share_kind, header, frame, header_bytes, side_of, session_of, line_of, code_bytes}
use Rattle.pair_model.specs.Header.{fields}
use Rattle.pair_model.specs.Evaluator.{code_of, code}
use Rattle.pair_model.specs.Unit.{share_of}
use Rattle.pair_model.specs.Join.{join_conditions, join_number, joined}
use Rattle.pair_model.specs.Run.{Inputs}
use Rattle.numbers.proofs.Numbers.{is_true, at_least, equal}
use Rattle.pair_model.proofs.Theorem.HeaderLaws.{header_read, read_whole}
use Rattle.pair_model.proofs.Theorem.MaskLaws.{share, shares_add}
use Rattle.pair_model.proofs.Theorem.Stages.{parameters_at}

-- ---- a code share is fit

module _ (S : Scheme) (lent : Files) (v : List ℕ) where
  -- it has the length of a code
  pub bytes_code : Bytes (code_bytes S) (code_of S lent v)
  unfolding code_of
  bytes_code =
      let e : plane_bytes S.digits + plane_bytes S.digits ≡ 2 * plane_bytes S.digits = omega arith in
      rw e at (bytes_matrix (plane_bytes S.digits) S.inner_bytes S.digits (rows_with S lent) v)

  -- no digit has both bits set
  pub fit_code : T (fit_trits (plane_bytes S.digits) S.digits (code_of S lent v))
  unfolding code_of
  fit_code = fit_matrix (plane_bytes S.digits) S.inner_bytes S.digits (rows_with S lent) S.digits v (omega arith)

  -- the spare bits of both planes are zero
  pub spare_code : T (zero_trits (plane_bytes S.digits) S.digits (code_of S lent v))
  unfolding code_of zero_trits
  spare_code =
      every_of (8 * plane_bytes S.digits - S.digits) (zero_trit (plane_bytes S.digits) S.digits (code_of S lent v))
      (λ k l. rw (spare k l) tt)
    where
      spare : (k : ℕ) → k < 8 * plane_bytes S.digits - S.digits → trit (plane_bytes S.digits) (code_of S lent v) (S.digits + k) ≡ 0
      spare k l =
          trit-matrix (plane_bytes S.digits) S.inner_bytes S.digits (rows_with S lent) v (S.digits + k) (omega arith)
          ∙ ap (λ (b : Bool). cond b (row_digit S.inner_bytes (rows_with S lent) v (S.digits + k)) 0) (at_least (S.digits + k) S.digits (omega arith))

-- ---- join

module _ (S : Scheme) (a : Inputs) (tape : List ℕ) where
  -- the share frame of side i
  abbrev pub share_frame_of : Side → List ℕ
  share_frame_of i = frame share_kind (parameters_at S a tape i) (share S a tape i)

  bytes_share : (i : Side) → Bytes (code_bytes S) (share S a tape i)
  unfolding share share_of
  bytes_share i = bytes_code S a.files _

  fit_share : (i : Side) → fit_trits (plane_bytes S.digits) S.digits (share S a tape i) ≡ true
  unfolding share share_of
  fit_share i = is_true (fit_trits (plane_bytes S.digits) S.digits (share S a tape i)) (fit_code S a.files _)

  spare_share : (i : Side) → zero_trits (plane_bytes S.digits) S.digits (share S a tape i) ≡ true
  unfolding share share_of
  spare_share i = is_true (zero_trits (plane_bytes S.digits) S.digits (share S a tape i)) (spare_code S a.files _)

  -- it is read
  reads : (i : Side) → let f = share_frame_of i in header_read S share_kind share_kind f ≡ fields share_kind (side_of f) (session_of f) (line_of f) (length f - header_bytes)
  unfolding frame header
  reads i = read_whole S share_kind share_kind (share_frame_of i) (record { low = lit≤ tt; high = lit≤ tt; long = omega (arith, (bytes_share i).size) })

  -- it takes both share frames
  pub joins_shares : join_number S (share_frame_of side0) (share_frame_of side1) (code_bytes S) ≡ 0
  unfolding join_conditions first frame header
  joins_shares =
      rw (
        at_least (code_bytes S) (code_bytes S) (le_refl (code_bytes S)),
        reads side0,
        reads side1,
        equal (session_of (share_frame_of side0)) (session_of (share_frame_of side1)) refl,
        fit_share side0,
        fit_share side1,
        spare_share side0,
        spare_share side1,
        equal (line_of (share_frame_of side0)) (line_of (share_frame_of side1)) refl,
      )

  -- and gives the code
  pub joins_to_code : Linear S
      → joined S (share_frame_of side0) (share_frame_of side1) ≡ code S (total S.key_bytes a.key) (total S.key_bytes a.label) a.files
  unfolding joined frame header
  joins_to_code L = shares_add S L a tape
