-- `source::copying::shifted_word` meets its contract. A word and the byte after it, shifted together.
use Prim.Native.Nat.{◌+◌, ◌%◌}
use mathlib.Core.Path.{◌≡◌}
use native.Mathlib.Omega.{arith}
use Rattle.linear_model.proofs.WordBits.{window_at}
use Rattle.source.proofs.copying.shifted_word.Goals as goal

pub returns : goal.returns
returns c =
    let a = c.args in
    let e : a.q % 8 ≡ a.q = omega arith in
    rw e
    (window_at a.source.now a.i a.q _ _ (omega arith) c.word.ensures c.from.ensures
    (omega (arith, c.from.ensures, (c.shared_slice_known-2-1.given (a.i + 8)).fits)))
