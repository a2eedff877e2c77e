-- A frame is read to its fields exactly if its kind may come and its length is its kind's; else it is refused with 3 or 4.
use Prim.Native.Nat.{ℕ, ◌-◌, ◌≤◌}
use mathlib.Core.Path.{◌≡◌, refl, sym, ap, ◌∙◌, subst}
use mathlib.Core.List.{List}
use mathlib.Core.Bool.{Bool, true, false, not}
use native.Mathlib.Omega.{arith}
use lib.Dec.{T, ltb, eqb}
use lib.ListN.{length}
use Rattle.pair_model.specs.Scheme.{Scheme}
use Rattle.pair_model.specs.Frame.{header_bytes, kind_of, side_of, session_of, line_of, frame_bytes}
use Rattle.pair_model.specs.Header.{Header, fields, refusal, read_header, refused_with}
use Rattle.numbers.proofs.Numbers.{equal, at_least, is_equal, is_at_least}

module _ (S : Scheme) (lowest highest : ℕ) (f : List ℕ) where
  -- what the frame is read to
  abbrev pub header_read : Header
  header_read = read_header S lowest highest f

  -- a frame of a kind that may come, and of its kind's length
  pub record Whole : Type 0 where
    pub low : lowest ≤ kind_of f
    pub high : kind_of f ≤ highest
    pub long : length f ≡ frame_bytes S (kind_of f)

  -- it is read to its fields
  pub read_whole : Whole → header_read ≡ fields (kind_of f) (side_of f) (session_of f) (line_of f) (length f - header_bytes)
  unfolding read_header
  read_whole w =
      simp (
        at_least (length f) header_bytes (omega arith),
        at_least (kind_of f) lowest w.low,
        at_least highest (kind_of f) w.high,
        equal (length f) (frame_bytes S (kind_of f)) w.long,
      )

  -- and any other is refused with one of two numbers
  pub data Outcome : Type 0 where
    is_whole : Whole → Outcome
    is_refused3 : header_read ≡ refusal 3 → Outcome
    is_refused4 : header_read ≡ refusal 4 → Outcome

  pub outcome : Outcome
  unfolding read_header
  outcome =
      pick (ltb (length f) header_bytes) (ltb (kind_of f) lowest) (ltb highest (kind_of f)) (not (eqb (length f) (frame_bytes S (kind_of f)))) refl refl refl refl
    where
      pick : (a b c d : Bool) → ltb (length f) header_bytes ≡ a → ltb (kind_of f) lowest ≡ b → ltb highest (kind_of f) ≡ c
          → not (eqb (length f) (frame_bytes S (kind_of f))) ≡ d → Outcome
      pick true b c d ea eb ec ed = is_refused3 (simp ea)
      pick false true c d ea eb ec ed = is_refused3 (simp (ea, eb))
      pick false false true d ea eb ec ed = is_refused3 (simp (ea, eb, ec))
      pick false false false true ea eb ec ed = is_refused4 (simp (ea, eb, ec, ed))
      pick false false false false ea eb ec ed =
          is_whole (record {
            low = is_at_least (kind_of f) lowest eb;
            high = is_at_least highest (kind_of f) ec;
            long = is_equal (length f) (frame_bytes S (kind_of f)) ed;
          })

  -- so a frame that is refused with neither is whole
  pub whole_read : refused_with 3 header_read ≡ false → refused_with 4 header_read ≡ false → Whole
  whole_read a b = pick outcome
    where
      pick : Outcome → Whole
      pick (is_whole w) = w
      pick (is_refused3 e) = absurd (subst T (ap (refused_with 3) (sym e) ∙ a) tt)
      pick (is_refused4 e) = absurd (subst T (ap (refused_with 4) (sym e) ∙ b) tt)
