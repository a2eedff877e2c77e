-- `pair_sampler::packing::gathered` meets its contract. The product is below 2^50, so it does not wrap.
use native.Mathlib.Omega.{arith}
use lib.Bits.{bit_or, and_le_r}
use Prim.Native.Nat.{◌/◌, ◌^◌}
use Rattle.pair_sampler.proofs.Gathering.{gathered_is}
use Rattle.pair_sampler.proofs.packing.gathered.Goals as goal

pub overflow_mul-result : goal.overflow_mul-result
overflow_mul-result c = record { fits = omega (arith, and_le_r (bit_or c.args.x (c.args.x / 2 ^ 28) / 2 ^ c.args.h) 0x11111111) }

pub returns : goal.returns
returns c = gathered_is c.args.x c.args.h c.requires.0 c.requires.1
