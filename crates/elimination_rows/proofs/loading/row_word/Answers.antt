-- `elimination_rows::loading::row_word` meets its contract.
use mathlib.Core.Path.{refl}
use native.Mathlib.Omega.{arith}
use Rattle.elimination_model.specs.Independence.{trit_at}
use Rattle.elimination_model.proofs.Internal.Loading.{loaded_front, loaded_behind}
use Rattle.elimination_rows.proofs.loading.row_word.Goals as goal

pub returns-then-f-m : goal.returns-then-f-m
returns-then-f-m c =
    let s = c.args in
    loaded_behind s.f (λ _. trit_at s.bytes s.rows.now s.i) s.r s.m _ (omega arith) c.diagonal_word.ensures

pub returns : goal.returns
returns c =
    let s = c.args in
    loaded_front s.bytes s.rows.now s.i s.f s.r s.m _ _ _ _ _ (omega arith) refl c.word.ensures c.word-2.ensures c.fit.ensures
