-- `elimination_rows::loading::diagonal_word` meets its contract.
use mathlib.Core.Path.{◌∙◌}
use Prim.Native.Nat.{◌%◌, ◌^◌}
use native.Mathlib.Nat.{one-mul}
use native.Mathlib.Omega.{arith}
use lib.Dec.{lit<}
use lib.Pow.{shl_exact}
use Rattle.elimination_model.proofs.Internal.Loading.{diagonal_bit, diagonal_none}
use Rattle.elimination_rows.proofs.loading.diagonal_word.Goals as goal

pub returns-then-r-m : goal.returns-then-r-m
returns-then-r-m c = λ k l. diagonal_none _ _ k c.if-r-m.true l

pub returns : goal.returns
returns c =
    let s = c.args in
    diagonal_bit s.r s.m _ (omega arith) (shl_exact 1 (s.r % 64) 64 (lit< tt) (omega arith) ∙ one-mul (2 ^ (s.r % 64)))
