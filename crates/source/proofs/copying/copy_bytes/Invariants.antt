-- `source::copying::copy_bytes` meets its contract. The invariant of its loop: the bytes so far are copied, and the reader stands after them.
use mathlib.Core.Path.{◌≡◌}
use Prim.Native.Nat.{◌+◌, ◌*◌}
use Rattle.linear_model.proofs.Filling.{Filling}
use Rattle.source_model.specs.Draw.{copied_byte}
use Rattle.source.proofs.copying.copy_bytes.Given as goal

abbrev pub invariant-loop-byte : goal.invariant-loop-byte
invariant-loop-byte l =
    record {
      source : l.reader.source ≡ l.initial.reader.source;
      place : 4 * l.reader.byte + l.reader.pair ≡ 4 * l.initial.reader.byte + l.initial.reader.pair + 4 * l.byte-index;
      filling : Filling (copied_byte l.initial.reader.source.now (4 * l.initial.reader.byte + l.initial.reader.pair)) l.byte-index l.initial.out l.out;
    }
