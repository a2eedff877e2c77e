-- `elimination_ties::any_size::tie_of_rows` meets its contract: where there is room the rows are loaded, and what is written is their tie.
use mathlib.Core.Path.{refl, ap, ◌∙◌}
use mathlib.Core.List.{List}
use Prim.Native.Nat.{ℕ}
use native.Mathlib.Nat.{zero-add}
use native.Mathlib.Omega.{arith}
use Rattle.numbers.specs.Number.{at_front}
use Rattle.elimination_model.specs.Tie.{entry_count}
use Rattle.elimination_ties.proofs.AnySize.{rows_carrying, rows_tie}
use Rattle.elimination_ties.proofs.any_size.tie_of_rows.Goals as goal

pub returns-in_default : goal.returns-in_default
returns-in_default c = record { tie = λ x. absurd (c.in_default.ensures.no_room refl x); no_room = λ x. (refl, refl, refl) }

pub load_rows_by_size-requires : goal.load_rows_by_size-requires
load_rows_by_size-requires c =
    let x = c.in-Some.ensures.room in
    (omega (arith, x.0.whole), x.0.all_rows, rw (x.1, zero-add) x.0.in_words, omega (arith, x.0.few_rows))

pub put_tie-requires : goal.put_tie-requires
put_tie-requires c =
    let x = c.in-Some.ensures.room in
    rw x.1 (rows_carrying _ _ _ _ _ _ x.0 (rw x.1 at c.load_rows_by_size.ensures), x.0.few_words, x.0.few_rows, x.0.list)

pub returns : goal.returns
returns c =
    let a = c.args in
    let x = c.in-Some.ensures.room in
    let e = rows_tie a.bytes a.t _ a.rows.now _ _ x.0 (rw x.1 at c.load_rows_by_size.ensures) in
    let p = rw x.1 at c.put_tie.ensures in
    record { tie = λ _. (p.count ∙ ap entry_count e, p.output ∙ ap (λ (list : List ℕ). at_front list a.out.now) e); no_room = λ z. absurd (z x.0) }
