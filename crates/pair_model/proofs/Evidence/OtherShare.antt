-- Where paired runs have the same code, the other unit's share frame is the same too: whoever sees the code as well learns nothing more.
use Prim.Native.Nat.{ℕ, ◌+◌, ◌*◌, ◌%◌, ◌<◌}
use mathlib.Core.Path.{◌≡◌, refl, sym, ap, ap₂, ◌∙◌}
use mathlib.Core.List.{List, [], ◌∷◌}
use native.Mathlib.Omega.{arith}
use Rattle.linear_model.specs.Trits.{trit, add_trits, inner_share}
use Rattle.linear_model.specs.Products.{plane_bytes}
use Rattle.linear_model.specs.Bits.{add_bits}
use Rattle.linear_model.proofs.Vectors.{vector_ext, trit_add, add_trits_comm}
use Rattle.linear_model.proofs.Linearity.{trit-matrix, bytes_matrix, digit-below}
use Rattle.pair_model.specs.Scheme.{Files, Scheme, rows_with, Linear, Side, side0, side1, side_byte, other, total}
use Rattle.pair_model.specs.Tape.{Accepted, r}
use Rattle.pair_model.specs.Evaluator.{code_of}
use Rattle.pair_model.specs.Unit.{share_of}
use Rattle.pair_model.specs.Frame.{parameters_of, share_kind, frame}
use Rattle.pair_model.specs.Run.{Protocol, protocol, Inputs, WellFormed, Run, run_of, Configuration, SharedEntry, same, differ, start, next, final, ListOf, first_of, second_of, Comparable}
use Rattle.pair_model.specs.Theorem.{SameForFixed, Done, share_frame, own_code}
use Rattle.pair_model.proofs.Theorem.Pairing.{pairing, paired_tape, paired_accepted, kept}
use Rattle.pair_model.proofs.Theorem.MaskLaws.{mask, share, InCommon, in_common, shares_add}
use Rattle.pair_model.proofs.Theorem.Correct.{share-sent}
use Rattle.pair_model.proofs.Theorem.Main.{private}

-- a comparable list, as the first run has it, is a list of the first run
pub first_list : (P : Protocol) (fixed : Side) (run₁ run₂ : Run) (c₁ c₂ : Configuration) (es : List SharedEntry)
    → Comparable P fixed run₁ run₂ c₁ c₂ es → ListOf P run₁ c₁ (first_of fixed es)
first_list P fixed run₁ run₂ c₁ c₂ [] v = tt
first_list P fixed run₁ run₂ c₁ c₂ (same e ∷ es) v = (v.0, first_list P fixed run₁ run₂ (next P run₁ c₁ e) (next P run₂ c₂ e) es v.1)
first_list P fixed run₁ run₂ c₁ c₂ (differ l₁ l₂ ∷ es) v = (v.0, first_list P fixed run₁ run₂ _ _ es v.2)

-- digits below 3 that add to the same with the same are equal
same_digit : (x y z : ℕ) → y < 3 → z < 3 → (x + y) % 3 ≡ (x + z) % 3 → y ≡ z
same_digit x y z hy hz e = omega arith

-- codes that add to the same with the same are equal
same_code : (S : Scheme) (lent : Files) (v u₁ u₂ : List ℕ) → let p = plane_bytes S.digits in
    add_trits p (code_of S lent v) (code_of S lent u₁) ≡ add_trits p (code_of S lent v) (code_of S lent u₂) → code_of S lent u₁ ≡ code_of S lent u₂
unfolding code_of
same_code S lent v u₁ u₂ e =
    vector_ext p (code_of S lent u₁) (code_of S lent u₂) (bytes_matrix p m t rows u₁) (bytes_matrix p m t rows u₂)
    (λ j l. same_digit (trit p (code_of S lent v) j) (trit p (code_of S lent u₁) j) (trit p (code_of S lent u₂) j) (fit u₁ j l) (fit u₂ j l)
    (sym (trit_add p (code_of S lent v) (code_of S lent u₁) j l) ∙ ap (λ (s : List ℕ). trit p s j) e ∙ trit_add p (code_of S lent v) (code_of S lent u₂) j l))
  where
    p : ℕ
    p = plane_bytes S.digits

    m : ℕ
    m = S.inner_bytes

    t : ℕ
    t = S.digits

    rows : List ℕ
    rows = rows_with S lent

    fit : (u : List ℕ) (j : ℕ) → j < 8 * p → trit p (code_of S lent u) j < 3
    fit u j l = rw (trit-matrix p m t rows u j l) (digit-below t m rows u j)

-- the sum of both shares, taken from either side
from_side : (p : ℕ) (f : Side → List ℕ) (i : Side) → add_trits p (f i) (f (other i)) ≡ add_trits p (f side0) (f side1)
from_side p f side0 = refl
from_side p f side1 = add_trits_comm p (f side1) (f side0)

module _ (S : Scheme) (L : Linear S) (fixed : Side) (a b : Inputs) (t u : List ℕ) (c : InCommon S fixed a b t u) where
  abbrev inner : Inputs → List ℕ → Side → List ℕ
  inner a t i = inner_share S.inner_bytes (side_byte i) (total S.inner_bytes (mask S a t)) (r S t i)

  -- the fixed unit's share is the same in any case
  own-share : share S a t fixed ≡ share S b u fixed
  unfolding share
  own-share = λ i. share_of S (c.inputs.files i) (side_byte fixed) (add_bits S.inner_bytes (c.mask side0 i) (c.mask side1 i)) (c.r i)

  -- with the same code the other's is too
  pub other-share : own_code (protocol S) (run_of a t) ≡ own_code (protocol S) (run_of b u) → share S a t (other fixed) ≡ share S b u (other fixed)
  unfolding share share_of
  other-share e =
      same_code S a.files (inner a t fixed) (inner a t (other fixed)) (inner b u (other fixed)) (codes ∙ ap₂ (add_trits p) (sym own-share) same_files)
      ∙ sym same_files
    where
      p : ℕ
      p = plane_bytes S.digits

      same_files : share S b u (other fixed) ≡ code_of S a.files (inner b u (other fixed))
      same_files = ap (λ (f : Files). code_of S f (inner b u (other fixed))) (sym c.inputs.files)

      codes : add_trits p (share S a t fixed) (share S a t (other fixed)) ≡ add_trits p (share S b u fixed) (share S b u (other fixed))
      codes = from_side p (share S a t) fixed ∙ shares_add S L a t ∙ e ∙ sym (shares_add S L b u) ∙ sym (from_side p (share S b u) fixed)

-- over every comparable list after which both units are done in both runs
pub other-share_frame : (S : Scheme) (L : Linear S) (fixed : Side) (a b : Inputs) (well₁ : WellFormed S a) (well₂ : WellFormed S b)
    (g : SameForFixed fixed a b) (tape : List ℕ) → Accepted S tape → (es : List SharedEntry)
    → let P = protocol S in let R₁ = run_of a tape in let R₂ = run_of b ((private S L fixed a b well₁ well₂ g).pairing.forth tape) in
    let c₁ = final P R₁ (start P R₁) (first_of fixed es) in let c₂ = final P R₂ (start P R₂) (second_of fixed es) in
    Comparable P fixed R₁ R₂ (start P R₁) (start P R₂) es → Done P c₁ → Done P c₂ → own_code P R₁ ≡ own_code P R₂
    → share_frame P c₁ (other fixed) ≡ share_frame P c₂ (other fixed)
unfolding private pairing
other-share_frame S L fixed a b well₁ well₂ g tape h es v d₁ d₂ e =
    share-sent S L a tape well₁ h (first_of fixed es) (first_list (protocol S) fixed (run_of a tape) (run_of b u) _ _ es v) d₁ (other fixed)
    ∙ (λ i. frame share_kind (parameters_of (other fixed) (g.shared i)) (other-share S L fixed a b tape u c e i))
    ∙ sym (share-sent S L b u well₂ (paired_accepted S fixed a b tape h) (second_of fixed es) second d₂ (other fixed))
  where
    u : List ℕ
    u = paired_tape S fixed a b tape

    c : InCommon S fixed a b tape u
    c = in_common S L fixed a b tape u g (kept S fixed a b tape h)

    second : ListOf (protocol S) (run_of b u) (start (protocol S) (run_of b u)) (second_of fixed es)
    second = ((private S L fixed a b well₁ well₂ g).same_view tape h es v).list
