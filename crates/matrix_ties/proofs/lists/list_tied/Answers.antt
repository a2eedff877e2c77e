-- `matrix_ties::lists::list_tied` meets its contract: there is room in the words that are taken.
use mathlib.Core.Path.{sym}
use native.Mathlib.Omega.{arith}
use Rattle.matrix_ties.proofs.lists.list_tied.Goals as goal

pub carrying_words-requires : goal.carrying_words-requires
carrying_words-requires c = c.requires.1

pub overflow_mul-n-2 : goal.overflow_mul-n-2
overflow_mul-n-2 c = rw c.carrying_words.ensures (omega (arith, c.requires.2))

pub list_in_words-requires : goal.list_in_words-requires
list_in_words-requires c =
    let p = c.requires in
    ((p.0, p.1, rw (sym c.carrying_words.ensures) (omega arith), p.3), omega arith)

pub list_in_words-requires-then-n-le-WORDS_1 : goal.list_in_words-requires-then-n-le-WORDS_1
list_in_words-requires-then-n-le-WORDS_1 c =
    let p = c.requires in
    ((p.0, p.1, rw (sym c.carrying_words.ensures) (omega arith), p.3), omega arith)
