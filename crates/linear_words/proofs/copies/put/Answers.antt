use mathlib.Core.Path.{◌≡◌, ap, ◌∙◌}
use mathlib.Core.List.{List, ◌++◌}
use Prim.Native.Nat.{ℕ, ◌+◌, ◌*◌, ◌/◌}
use native.Mathlib.Omega.{arith}
use lib.ListN.{length, get_or, set, take, drop}
use lib.Seq.{paste-zero, take-length}
use Rattle.std.proofs.lemmas.List.Edits.{paste_more}
use Rattle.linear_model.specs.Internal.Words.{set_word}
use Rattle.linear_model.proofs.Internal.Stores.{paste_word}
use Rattle.linear_words.proofs.copies.put.Goals as goal

pub loop-k-init : goal.loop-k-init
loop-k-init c = paste-zero c.args.out.now c.args.at c.args.s.now

pub loop-k-preserved : goal.loop-k-preserved
loop-k-preserved c =
    let a = c.args in
    let i = 8 * c.loop-k.k in
    let e : 8 * (c.loop-k.k + 1) ≡ i + 8 = omega arith in
    rw e
    (c.put_word.ensures ∙ ap (λ (o : List ℕ). set_word o (a.at + i) c.word.result) c.loop-k.invariant
    ∙ paste_word a.out.now a.at a.s.now (omega arith) i _ (λ k. (c.type_inv.s k).fits) (omega arith) c.word.ensures)

pub loop-i-init : goal.loop-i-init
loop-i-init c =
    let e : length c.args.s.now / 8 ≡ c.loop-k.k = omega arith in
    rw e c.loop-k.invariant

pub loop-i-preserved : goal.loop-i-preserved
loop-i-preserved c =
    let a = c.args in
    let i = c.loop-i.i in
    ap (λ (o : List ℕ). set o (a.at + i) (get_or a.s.now i 0)) c.loop-i.invariant ∙ paste_more a.out.now a.at a.s.now i 0 (omega arith) (omega arith)

pub returns : goal.returns
returns c =
    let a = c.args in
    let o = a.out.now in
    let s = a.s.now in
    let e : c.loop-i.i ≡ length s = omega arith in
    rw e at c.loop-i.invariant ∙ ap (λ (t : List ℕ). take a.at o ++ t ++ drop (a.at + length s) o) (take-length s)
