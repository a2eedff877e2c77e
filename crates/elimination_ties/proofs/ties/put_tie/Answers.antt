-- `elimination_ties::ties::put_tie` meets its contract: the first tied row carries the tie, and without one the tie is empty.
use mathlib.Core.Path.{ap, ◌∙◌}
use mathlib.Core.List.{List}
use Prim.Native.Nat.{ℕ, ◌*◌}
use native.Mathlib.Omega.{arith}
use Rattle.numbers.specs.Number.{at_front}
use Rattle.elimination_model.specs.Tie.{entry_count}
use Rattle.elimination_model.specs.Internal.Words.{digit_at}
use Rattle.elimination_model.proofs.TieBytes.{untied_empty}
use Rattle.elimination_ties.proofs.Entries.{leading_small, tied_row, tied-own, tied-entries}
use Rattle.elimination_ties.proofs.ties.put_tie.Goals as goal

pub returns-in_default : goal.returns-in_default
returns-in_default c =
    let a = c.args in
    let e = untied_empty (64 * a.f) a.t (digit_at a.w a.words.now) c.in_default.ensures.tied.before in
    record { count = rw e; output = rw e }

pub leading_digit-lead-requires : goal.leading_digit-lead-requires
leading_digit-lead-requires c =
    let y = c.in-Some.ensures.tied in
    let l = c.in-Some.ensures.row in
    (tied_row _ _ _ _ _ _ c.requires.0 y l, tied-own _ _ _ _ _ _ c.requires.0 y l)

pub put_entries-requires : goal.put_entries-requires
put_entries-requires c =
    let y = c.in-Some.ensures.tied in
    let l = c.in-Some.ensures.row in
    let row = tied_row _ _ _ _ _ _ c.requires.0 y l in (
      row,
      omega (arith, c.leading_digit-lead.ensures, leading_small _ _ _ _ row (tied-own _ _ _ _ _ _ c.requires.0 y l)),
      omega (arith, l),
      omega (arith, l),
    )

pub returns : goal.returns
returns c =
    let y = c.in-Some.ensures.tied in
    let l = c.in-Some.ensures.row in
    let e = tied-entries _ _ _ _ _ _ c.requires.0 y l _ c.leading_digit-lead.ensures in
    let p = c.put_entries.ensures in
    record { count = p.count ∙ ap entry_count e; output = p.output ∙ ap (λ (list : List ℕ). at_front list c.args.out.now) e }
