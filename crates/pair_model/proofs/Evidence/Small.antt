-- Inputs and a tape of the small scheme, in which protocols are refuted.
use Prim.Native.Nat.{ℕ, ◌<◌}
use mathlib.Core.Path.{◌≡◌, refl, ap}
use mathlib.Core.Logic.{◌≢◌}
use native.Mathlib.Omega.{arith}
use mathlib.Core.List.{List, [], ◌∷◌}
use lib.Dec.{lit<}
use lib.ListN.{get_or}
use Rattle.linear_model.specs.Bits.{Bytes, zeros, bit}
use Rattle.linear_model.specs.Tables.{every}
use Rattle.linear_model.specs.Trits.{trit, fit_trits}
use Rattle.linear_model.proofs.Strings.{bytes_zeros}
use Rattle.numbers.specs.Number.{first}
use Rattle.pair_model.specs.Scheme.{Linear, side0, side1, files, reading_number, field}
use Rattle.pair_model.specs.Tape.{r0, Accepted}
use Rattle.pair_model.specs.Frame.{shared_parameters}
use Rattle.pair_model.specs.Run.{Inputs, WellFormed}
use Rattle.pair_model.specs.Theorem.{SameForFixed}
use Rattle.pair_model.specs.Sample.{of_sides}
use Rattle.pair_model.specs.Leaky.{small}
use Rattle.pair_model.proofs.Theorem.Layouts.{bytes_one}
use Rattle.pair_model.proofs.Theorem.Main.{circulant_linear}

-- its product is linear on both sides
pub small_linear : Linear small
small_linear = circulant_linear 1 1 1 _

-- both key halves, both label halves, session 1, line 0 and a file whose one row has trit 1 in column 0
abbrev pub small_inputs : (key0 key1 label0 label1 : ℕ) → Inputs
small_inputs key0 key1 label0 label1 =
    record { key = of_sides (key0 ∷ []) (key1 ∷ []); label = of_sides (label0 ∷ []) (label1 ∷ []); shared = shared_parameters 1 0; files = files (1 ∷ 0 ∷ []) }

-- they are well-formed where all halves are bytes
pub small_well : (key0 key1 label0 label1 : ℕ) → key0 < 256 → key1 < 256 → label0 < 256 → label1 < 256
    → WellFormed small (small_inputs key0 key1 label0 label1)
unfolding reading_number first
small_well key0 key1 label0 label1 h0 h1 h2 h3 =
    record {
      key = λ i. elim i as (λ j. Bytes small.key_bytes ((small_inputs key0 key1 label0 label1).key j)) [ side0 ↦ bytes_one key0 h0 | side1 ↦ bytes_one key1 h1 ];
      label = λ i. elim i as (λ j. Bytes small.key_bytes ((small_inputs key0 key1 label0 label1).label j)) [ side0 ↦ bytes_one label0 h2 | side1 ↦ bytes_one label1 h3 ];
      shared = record { session = lit< tt; line = lit< tt };
      product = refl;
      rows = refl;
    }

-- the tape of zeros is accepted
pub zero-tape : Accepted small (zeros 8)
unfolding r0 field fit_trits every trit bit
zero-tape = record { bytes = bytes_zeros 8; fit = tt }

-- strings that begin with 0 and with 1 differ
pub zero_one : (s t : List ℕ) → (0 ∷ s) ≢ (1 ∷ t)
zero_one s t e = number (ap (λ (v : List ℕ). get_or v 0 0) e)
  where
    number : ¬ (◌≡◌ {A = ℕ} 0 1)
    number q = omega arith

-- two inputs that differ in the key half of side 1, 0 and 1, and so in the inner vector
abbrev pub a : Inputs
a = small_inputs 0 0 1 0

-- the second
abbrev pub b : Inputs
b = small_inputs 0 1 1 0

-- both are well formed
pub well₁ : WellFormed small a
well₁ = small_well 0 0 1 0 (lit< tt) (lit< tt) (lit< tt) (lit< tt)

-- the second too
pub well₂ : WellFormed small b
well₂ = small_well 0 1 1 0 (lit< tt) (lit< tt) (lit< tt) (lit< tt)

-- and the same for side 0
pub same_for : SameForFixed side0 a b
same_for = record { key = refl; label = refl; shared = refl; files = refl }
