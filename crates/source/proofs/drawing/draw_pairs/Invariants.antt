-- `source::drawing::draw_pairs` meets its contract. The invariant of its loop: whatever was read before, it is `Reading` on.
use mathlib.Core.Path.{◌≡◌}
use Prim.Native.Nat.{ℕ, ◌+◌, ◌-◌, ◌*◌, ◌≤◌}
use lib.ListN.{length}
use Rattle.source_model.specs.Internal.Drawing.{Reading}
use Rattle.source.proofs.drawing.draw_pairs.Given as goal

abbrev pub invariant-loop-found : goal.invariant-loop-found
invariant-loop-found l =
    record {
      source : l.reader.source ≡ l.initial.reader.source;
      some : l.found ≤ length l.initial.trits;
      within : 4 * l.reader.byte + l.reader.pair ≤ 4 * length l.reader.source.now;
      long : length l.trits ≡ length l.initial.trits;
      reading : (start : ℕ) → Reading l.reader.source.now (length l.initial.trits) start l.initial.trits l.initial.found (4 * l.initial.reader.byte + l.initial.reader.pair)
          → Reading l.reader.source.now (length l.initial.trits) start l.trits l.found (4 * l.reader.byte + l.reader.pair);
    }

abbrev pub decreases-loop-found : goal.decreases-loop-found
decreases-loop-found l = 4 * length l.reader.source.now - (4 * l.reader.byte + l.reader.pair)
