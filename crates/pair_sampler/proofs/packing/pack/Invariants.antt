-- The invariant of the loop of `pair_sampler::packing::pack`: the first i bytes of each plane are packed.
use Rattle.linear_model.proofs.Filling.{Planes}
use Rattle.source_model.specs.Draw.{trit_of}
use Rattle.pair_sampler.proofs.packing.pack.Given as goal

abbrev pub invariant-loop-i : goal.invariant-loop-i
invariant-loop-i l = Planes l.m (trit_of l.trits) l.i l.initial.out l.out
