-- `source::reader::four_from` meets its contract: four pairs on, but none where no place could name that.
use native.Mathlib.Omega.{arith}
use Rattle.source_model.proofs.Pairs.{after-pairs, after_none}
use Rattle.source.proofs.reader.four_from.Goals as goal

pub returns-then-byte-lt18446744073709551615 : goal.returns-then-byte-lt18446744073709551615
returns-then-byte-lt18446744073709551615 c =
    let e = c.at.ensures in
    record { value_is = rw (e.0, e.1, e.2) at c.peek-value.ensures; place = omega arith; next = after-pairs _ _ _ (omega arith) (omega arith) }

pub returns : goal.returns
returns c =
    let e = c.at.ensures in
    record { value_is = rw (e.0, e.1, e.2) at c.peek-value.ensures; place = omega arith; next = after_none _ _ _ (omega arith) (omega arith) }
