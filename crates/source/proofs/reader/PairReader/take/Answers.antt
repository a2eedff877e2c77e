-- `source::reader::PairReader::take` meets its contract: it does what `pair_from` does at the reader's place, whose pair is one of a byte.
use mathlib.Core.Path.{◌≡◌}
use Prim.Native.Nat.{◌%◌}
use native.Mathlib.Omega.{arith}
use Rattle.source.proofs.reader.PairReader.take.Goals as goal

pub returns-clause-read : goal.returns-clause-read
returns-clause-read c =
    let e : c.args.self.now.pair % 4 ≡ c.args.self.now.pair = omega arith in
    rw e at c.pair_from-read.ensures
