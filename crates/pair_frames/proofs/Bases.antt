-- The scheme of sizes that fit is linear. The sizes of each set fit, and stand for its scheme.
use mathlib.Core.Path.{◌≡◌, refl, sym, ap, subst, ◌∙◌}
use mathlib.Core.Bool.{true}
use Prim.Native.Nat.{ℕ}
use lib.Dec.{lit≤}
use Rattle.linear_model.specs.Products.{circulant_product, Bilinear}
use Rattle.linear_model.proofs.Linearity.{circulant_bilinear}
use Rattle.numbers.specs.Sets.{is_set, counted}
use Rattle.numbers.proofs.Sets.{each, counted-set}
use Rattle.matrix_model.proofs.Layouts.{first_fits, second_fits, third_fits}
use Rattle.matrix_model.proofs.Internal.TiedRows.{first_eliminable, second_eliminable, third_eliminable}
use Rattle.pair_model.specs.Scheme.{Linear}
use Rattle.pair_model.specs.Base.{scheme_of}
use Rattle.pair_frames.specs.Numbers.{Numbers, scheme_by, set_sizes, Fits}

pub scheme_linear : (z : Numbers) → Fits z → Linear (scheme_by z)
scheme_linear z h =
    let m = z.inner_bytes in
    record {
      bilinear = λ content. subst (λ (n : ℕ). Bilinear m n (circulant_product m)) h.circulant (circulant_bilinear m);
    }

pub set_is : (set : ℕ) → is_set set ≡ true → scheme_by (set_sizes set) ≡ scheme_of set
set_is = each (λ set. scheme_by (set_sizes set) ≡ scheme_of set) refl refl refl

pub fits_1 : Fits (set_sizes 1)
fits_1 = record { key = lit≤ tt; inner = lit≤ tt; circulant = refl; share = lit≤ tt; file = first_fits; rows = first_eliminable }

fits_2 : Fits (set_sizes 2)
fits_2 = record { key = lit≤ tt; inner = lit≤ tt; circulant = refl; share = lit≤ tt; file = second_fits; rows = second_eliminable }

fits_3 : Fits (set_sizes 3)
fits_3 = record { key = lit≤ tt; inner = lit≤ tt; circulant = refl; share = lit≤ tt; file = third_fits; rows = third_eliminable }

-- so the numbers that `sizes_of` and `named_sizes` give are those of sizes that fit
pub set_fits : (set : ℕ) → is_set set ≡ true → Fits (set_sizes set)
set_fits = each (λ set. Fits (set_sizes set)) fits_1 fits_2 fits_3

pub counted_fits : (set : ℕ) {z : Numbers} → z ≡ set_sizes (counted set) → Fits z
counted_fits set e = subst Fits (sym e) (set_fits (counted set) (counted-set set))

-- the numbers z of a set that a call names stand for its scheme
pub named_scheme : (set : ℕ) {z : Numbers} → (is_set set ≡ true) × (z ≡ set_sizes set) → scheme_by z ≡ scheme_of set
named_scheme set h = ap scheme_by h.1 ∙ set_is set h.0

-- and those that are counted for a number, for that of the set that is counted
pub counted_scheme : (set : ℕ) {z : Numbers} → z ≡ set_sizes (counted set) → scheme_by z ≡ scheme_of (counted set)
counted_scheme set e = ap scheme_by e ∙ set_is (counted set) (counted-set set)
