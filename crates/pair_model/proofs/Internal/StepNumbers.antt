-- The number of a step by its parts, and what their tests tell.
use mathlib.Core.Path.{◌≡◌, sym, ◌∙◌, subst}
use mathlib.Core.List.{List, ◌++◌}
use Prim.Native.Nat.{ℕ, ◌≤◌}
use native.Mathlib.Omega.{arith}
use lib.Dec.{lit<}
use lib.ListN.{length}
use Rattle.numbers.specs.Number.{Condition, first}
use Rattle.numbers.proofs.Numbers.{Positive, NoneHolds, none_holds, first_before, first-after, is_equal}
use Rattle.pair_model.specs.Scheme.{Files, Scheme}
use Rattle.pair_model.specs.Frame.{Parameters, deal_kind, mask_kind, header_bytes, kind_of, frame_bytes}
use Rattle.pair_model.specs.Header.{line_conditions}
use Rattle.pair_model.specs.Unit.{step_reading, length_conditions, header_conditions, content_conditions, step_conditions, step_number}
use Rattle.pair_model.proofs.Theorem.HeaderLaws.{whole_read}

module _ (S : Scheme) (t : Parameters) (stage : ℕ) (f : List ℕ) (lent : Files) (n : ℕ) where
  abbrev lengths : List Condition
  lengths = length_conditions S f lent n

  abbrev headers : List Condition
  headers = header_conditions S t stage f

  abbrev content : List Condition
  content = content_conditions S f lent

  abbrev lines : List Condition
  lines = line_conditions t.shared.line f

  lengths_positive : Positive lengths
  lengths_positive = (lit< tt, (lit< tt, tt))

  headers_positive : Positive headers
  headers_positive = (lit< tt, (lit< tt, (lit< tt, (lit< tt, (lit< tt, tt)))))

  -- the first part that has a number decides
  pub number_of-lengths : (first lengths ≡ 0 → ⊥) → first lengths ≡ step_number S t stage f lent n
  unfolding step_conditions
  number_of-lengths h = sym (first_before lengths (headers ++ content ++ lines) h)

  pub number_of-headers : first lengths ≡ 0 → (first headers ≡ 0 → ⊥) → first headers ≡ step_number S t stage f lent n
  unfolding step_conditions
  number_of-headers e h = sym (first-after lengths (headers ++ content ++ lines) lengths_positive e ∙ first_before headers (content ++ lines) h)

  module _ (e : first lengths ≡ 0) (g : first headers ≡ 0) where
    after-headers : step_number S t stage f lent n ≡ first (content ++ lines)
    unfolding step_conditions
    after-headers = first-after lengths (headers ++ content ++ lines) lengths_positive e ∙ first-after headers (content ++ lines) headers_positive g

    pub number_of-content : (first content ≡ 0 → ⊥) → first content ≡ step_number S t stage f lent n
    number_of-content h = sym (after-headers ∙ first_before content lines h)

    pub number_of_line : Positive content → first content ≡ 0 → first lines ≡ step_number S t stage f lent n
    number_of_line p h = sym (after-headers ∙ first-after content lines p h)

  -- ---- once lengths and header fit

  module _ (e : first lengths ≡ 0) where
    length_tests : NoneHolds lengths
    length_tests = none_holds lengths lengths_positive e

    -- what is read for the rows has its length
    pub rows_long : kind_of f ≡ mask_kind → length (S.rows_reading.content lent) ≡ S.rows_reading.bytes
    rows_long k = subst (λ (kind : ℕ). length ((step_reading S kind).content lent) ≡ (step_reading S kind).bytes) k (is_equal _ _ length_tests.1.0)

  module _ (g : first headers ≡ 0) where
    header_tests : NoneHolds headers
    header_tests = none_holds headers headers_positive g

    -- the frame is as long as its kind says
    pub frame_long : length f ≡ frame_bytes S (kind_of f)
    frame_long = (whole_read S deal_kind mask_kind f header_tests.0 header_tests.1.0).long

    -- so it has a header
    pub frame_headed : header_bytes ≤ length f
    frame_headed = omega (arith, frame_long)
