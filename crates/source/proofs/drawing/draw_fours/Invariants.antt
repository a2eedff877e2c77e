-- `source::drawing::draw_fours` meets its contract. The invariant of its loop: what the reader has found so far.
use mathlib.Core.Path.{◌≡◌}
use Prim.Native.Nat.{◌+◌, ◌-◌, ◌*◌}
use lib.ListN.{length}
use Rattle.source_model.specs.Internal.Drawing.{Reading}
use Rattle.source.proofs.drawing.draw_fours.Given as goal

abbrev pub invariant-loop-found : goal.invariant-loop-found
invariant-loop-found l =
    record {
      source : l.reader.source ≡ l.initial.reader.source;
      reading : Reading l.reader.source.now (length l.initial.trits) (4 * l.initial.reader.byte + l.initial.reader.pair) l.trits l.found (4 * l.reader.byte + l.reader.pair);
    }

abbrev pub decreases-loop-found : goal.decreases-loop-found
decreases-loop-found l = length l.reader.source.now - l.reader.byte
