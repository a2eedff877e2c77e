-- `source::copying::copy_pairs` meets its contract: whole bytes are copied as they are.
use mathlib.Core.Path.{◌≡◌, refl}
use Prim.Native.Nat.{◌/◌}
use native.Mathlib.Omega.{arith}
use lib.ListN.{length}
use Rattle.source_model.proofs.Copied.{copied_put}
use Rattle.source.proofs.copying.copy_pairs.Goals as goal

pub returns-then-reader-eq0 : goal.returns-then-reader-eq0
returns-then-reader-eq0 c =
    let a = c.args in
    let b : c.at_pair-reader.result.byte ≡ a.start / 4 = omega arith in
    copied_put a.source.now a.out.now _ a.start (length a.out.now) (λ j. (c.type_inv.source j).fits) (omega arith) refl
    (omega arith) (rw b at c.put.ensures)
