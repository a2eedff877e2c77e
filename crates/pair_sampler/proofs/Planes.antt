-- A law of planes of trits, byte by byte.
use mathlib.Core.Path.{◌≡◌, ◌∙◌}
use mathlib.Core.List.{List}
use Prim.Native.Nat.{ℕ, ◌+◌, ◌*◌, ◌<◌}
use native.Mathlib.Omega.{arith}
use lib.ListN.{get_or}
use Rattle.linear_model.specs.Tables.{from}
use Rattle.linear_model.specs.Bits.{byte_of}
use Rattle.linear_model.specs.Trits.{low, high}
use Rattle.linear_model.specs.Internal.Planes.{PlaneBits}
use Rattle.linear_model.proofs.NumberBits.{from_bits_ext}
use Rattle.source_model.specs.Draw.{trit_of}
use Rattle.pair_sampler.specs.Planes.{plane_bit}

-- the planes of trits below 4, byte by byte
pub planes_of : (t : List ℕ) → ((j : ℕ) → get_or t j 0 < 4) → (i x y : ℕ) → x ≡ byte_of (plane_bit t 0) i → y ≡ byte_of (plane_bit t 1) i → PlaneBits 8 (trit_of t) i x y
planes_of t h i x y p q =
    record {
      low_is = p ∙ from_bits_ext 8 (from (8 * i) (plane_bit t 0)) (from (8 * i) (low (trit_of t))) (λ k l. omega arith);
      high_is = q ∙ from_bits_ext 8 (from (8 * i) (plane_bit t 1)) (from (8 * i) (high (trit_of t))) (λ k l. omega (arith, h (8 * i + k)));
    }
