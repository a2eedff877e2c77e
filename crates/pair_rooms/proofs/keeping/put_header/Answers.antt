-- `pair_rooms::keeping::put_header` meets its contract: the set stands right after a frame's header.
use mathlib.Core.Path.{◌≡◌, refl, ap, ◌∙◌}
use mathlib.Core.List.{List, [], ◌∷◌, ◌++◌}
use Prim.Native.Nat.{ℕ, ◌<◌}
use native.Mathlib.Omega.{arith}
use lib.ListN.{length, set, drop, length-drop}
use lib.Seq.{drop-drop}
use Rattle.linear_model.proofs.Copies.{pasted}
use Rattle.pair_model.specs.Frame.{Parameters, header, header_bytes}
use Rattle.pair_model.specs.StateSlice.{state_header, state_header_bytes}
use Rattle.std.proofs.lemmas.Grind.{common_steps}
use Rattle.pair_rooms.proofs.keeping.put_header.Goals as goal

-- the first byte exchanged
set_first : (t : List ℕ) (x : ℕ) → 0 < length t → set t 0 x ≡ x ∷ drop 1 t
set_first [] x h = absurd (omega arith)
set_first (y ∷ t) x h = refl

headed : (x stage : ℕ) (p : Parameters) (head s o : List ℕ) → header_bytes < length s → head ≡ header stage p → o ≡ pasted 0 head s
    → set o header_bytes x ≡ state_header x p stage ++ drop state_header_bytes s
unfolding header state_header
headed x stage p head s o h e q =
    ap (λ (t : List ℕ). set t header_bytes x) (q ∙ ap (λ (t : List ℕ). pasted 0 t s) e)
    ∙ ap (λ (t : List ℕ). header stage p ++ t) (set_first (drop header_bytes s) x (rw length-drop (omega arith)) ∙ ap (λ (t : List ℕ). x ∷ t) (drop-drop 1 header_bytes s))

pub returns : goal.returns
returns c =
    let a = c.args in
    headed a.set a.stage _ _ a.s.now _ (omega (arith, c.requires)) c.header_bytes.ensures (grind (arith, common_steps))
