-- `linear_circulant::circulant::window` meets its contract. A word and the byte after it, shifted together.
use mathlib.Core.Path.{◌≡◌, ◌∙◌}
use Prim.Native.Nat.{◌+◌, ◌*◌}
use native.Mathlib.Omega.{arith}
use Rattle.linear_model.proofs.WordBits.{window_at}
use Rattle.linear_circulant.proofs.circulant.window.Goals as goal

pub returns-then-q-eq0 : goal.returns-then-q-eq0
returns-then-q-eq0 c =
    let a = c.args in
    let e : 8 * a.i ≡ 8 * a.i + a.q = omega arith in
    rw e at c.word_at-low.ensures

pub returns : goal.returns
returns c =
    let a = c.args in
    window_at a.s.now a.i a.q _ _ (omega arith) c.word_at-low.ensures (c.from.ensures ∙ c.byte_at.ensures)
    (omega (arith, c.byte_at.type_inv, c.from.ensures))
