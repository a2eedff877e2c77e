-- The number of a header that was read.
use mathlib.Core.Path.{◌≡◌, sym}
use mathlib.Core.List.{List, ◌∷◌}
use Prim.Native.Nat.{ℕ}
use native.Mathlib.Omega.{arith}
use Rattle.numbers.specs.Number.{Condition, ◌when◌, first}
use Rattle.pair_model.specs.Scheme.{Scheme}
use Rattle.pair_model.specs.Header.{Header, refusal, header_number, refused_with}
use Rattle.pair_model.proofs.Theorem.HeaderLaws.{header_read, Whole, read_whole, Outcome, is_whole, is_refused3, is_refused4, outcome}

module _ (S : Scheme) (lowest highest : ℕ) (f : List ℕ) where
  abbrev h : Header
  h = header_read S lowest highest f

  -- 3 and 4 come first in it, and what comes after must have none for a whole frame
  pub header-number : (cs : List Condition) → (Whole S lowest highest f → first cs ≡ 0) → header_number h ≡ first (3 when refused_with 3 h ∷ 4 when refused_with 4 h ∷ cs)
  unfolding first
  header-number cs none = pick (outcome S lowest highest f)
    where
      pick : Outcome S lowest highest f → header_number h ≡ first (3 when refused_with 3 h ∷ 4 when refused_with 4 h ∷ cs)
      pick (is_whole w) = rw (read_whole S lowest highest f w) (sym (none w))
      pick (is_refused3 e) = rw e
      pick (is_refused4 e) = rw e

  -- one that is refused is not
  pub not_whole : {number : ℕ} → h ≡ refusal number → Whole S lowest highest f → ⊥
  not_whole e w = let r = read_whole S lowest highest f w in let z : ◌≡◌ {A = ℕ} 0 1 = cc in omega arith

  -- so nothing that comes after matters
  pub header_refused : {number : ℕ} → h ≡ refusal number → (cs : List Condition) → header_number h ≡ first (3 when refused_with 3 h ∷ 4 when refused_with 4 h ∷ cs)
  header_refused e cs = header-number cs (λ w. absurd (not_whole e w))
