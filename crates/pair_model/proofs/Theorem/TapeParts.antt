-- A tape by its parts: how parts make a tape, and how a tape gives them back.
use Prim.Native.Nat.{ℕ, ◌*◌}
use mathlib.Core.Path.{◌≡◌, sym, subst}
use mathlib.Core.List.{List, [], ◌∷◌}
use lib.Dec.{T}
use lib.ListN.{get_or}
use Rattle.linear_model.specs.Bits.{Bytes}
use Rattle.linear_model.specs.Trits.{fit_trits}
use Rattle.pair_model.specs.Scheme.{Scheme, Side, side0, side1, field, concat}
use Rattle.pair_model.specs.Tape.{tape_layout, K̃, x̃, w̃, z0, r0, Accepted}
use Rattle.pair_model.proofs.Theorem.Layouts.{Laid, fields_of, field-concat, concat_fields, bytes_concat, laid_fields}

-- K̃, x̃ by side, w̃, z0 and r0
pub record Parts : Type 0 where
  pub key_mask : Side → List ℕ
  pub label_mask : Side → List ℕ
  pub innermask : List ℕ
  pub z0 : List ℕ
  pub r0 : List ℕ

-- the parts in the order of the tape
abbrev pub in_tape_order : Parts → List (List ℕ)
in_tape_order p =
    p.key_mask side0 ∷ p.key_mask side1 ∷ p.label_mask side0 ∷ p.label_mask side1 ∷ p.innermask ∷ p.z0 ∷ p.r0 ∷ []

-- the tape of these parts
unfoldable pub tape_of : Parts → List ℕ
tape_of p = concat (in_tape_order p)

module _ (S : Scheme) where
  -- parts of the right sizes, with a fit r0
  pub record Whole (p : Parts) : Type 0 where
    pub key_mask : (i : Side) → Bytes S.key_bytes (p.key_mask i)
    pub label_mask : (i : Side) → Bytes S.key_bytes (p.label_mask i)
    pub innermask : Bytes S.inner_bytes p.innermask
    pub z0 : Bytes S.inner_bytes p.z0
    pub r0 : Bytes (2 * S.inner_bytes) p.r0
    pub fit : T (fit_trits S.inner_bytes (8 * S.inner_bytes) p.r0)

  -- ---- a tape made of parts

  module _ (p : Parts) (h : Whole p) where
    laid : Laid (tape_layout S) (in_tape_order p)
    laid = (h.key_mask side0, (h.key_mask side1, (h.label_mask side0, (h.label_mask side1, (h.innermask, (h.z0, (h.r0, tt)))))))

    at : (i : ℕ) → field (tape_layout S) i (concat (in_tape_order p)) ≡ get_or (in_tape_order p) i []
    at = field-concat (tape_layout S) (in_tape_order p) laid

    -- it is accepted
    pub accepted_of : Accepted S (tape_of p)
    unfolding tape_of r0
    accepted_of =
        record {
          bytes = bytes_concat (tape_layout S) (in_tape_order p) laid;
          fit = subst (λ (v : List ℕ). T (fit_trits S.inner_bytes (8 * S.inner_bytes) v)) (sym (at 6)) h.fit;
        }

  -- ---- a tape's parts

  -- what the tape holds
  abbrev pub parts_of : List ℕ → Parts
  parts_of tape = record { key_mask = K̃ S tape; label_mask = x̃ S tape; innermask = w̃ S tape; z0 = z0 S tape; r0 = r0 S tape }

  -- the parts of a tape made of parts
  pub parts-tape : (p : Parts) → Whole p → parts_of (tape_of p) ≡ p
  unfolding K̃ x̃ w̃ z0 r0 tape_of
  parts-tape p h =
      λ j.
      record {
        key_mask = λ i. key i j;
        label_mask = λ i. label i j;
        innermask = at p h 4 j;
        z0 = at p h 5 j;
        r0 = at p h 6 j;
      }
    where
      key : (i : Side) → K̃ S (tape_of p) i ≡ p.key_mask i
      key side0 = at p h 0
      key side1 = at p h 1

      label : (i : Side) → x̃ S (tape_of p) i ≡ p.label_mask i
      label side0 = at p h 2
      label side1 = at p h 3

  module _ (tape : List ℕ) (h : Accepted S tape) where
    cut : Laid (tape_layout S) (fields_of (tape_layout S) tape)
    cut = laid_fields (tape_layout S) tape h.bytes

    -- they have the right sizes
    pub whole_parts : Whole (parts_of tape)
    unfolding K̃ x̃ w̃ z0 r0 field fields_of
    whole_parts =
        record {
          key_mask = λ i. elim i as (λ j. Bytes S.key_bytes ((parts_of tape).key_mask j)) [ side0 ↦ cut.0 | side1 ↦ cut.1.0 ];
          label_mask = λ i. elim i as (λ j. Bytes S.key_bytes ((parts_of tape).label_mask j)) [ side0 ↦ cut.1.1.0 | side1 ↦ cut.1.1.1.0 ];
          innermask = cut.1.1.1.1.0;
          z0 = cut.1.1.1.1.1.0;
          r0 = cut.1.1.1.1.1.1.0;
          fit = h.fit;
        }

    -- the tape of a tape's parts
    pub tape-parts : tape_of (parts_of tape) ≡ tape
    unfolding K̃ x̃ w̃ z0 r0 field fields_of tape_of
    tape-parts = concat_fields (tape_layout S) tape h.bytes.size
