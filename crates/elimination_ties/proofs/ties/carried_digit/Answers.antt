-- `elimination_ties::ties::carried_digit` meets its contract.
use mathlib.Core.Path.{◌∙◌}
use Rattle.elimination_ties.proofs.Entries.{carried_column, carried_small}
use Rattle.elimination_ties.proofs.ties.carried_digit.Goals as goal

pub returns : goal.returns
returns c =
    let a = c.args in
    let e = c.digit_in.ensures ∙ carried_column a.w a.f a.words.now a.r a.k in
    (e, rw e (carried_small a.w a.f a.r a.k a.words.now c.requires.0 c.requires.1))
