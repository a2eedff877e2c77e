use mathlib.Core.Path.{◌≡◌}
use Prim.Native.Nat.{◌+◌, ◌*◌}
use native.Mathlib.Omega.{arith}
use Rattle.matrix_model.proofs.Internal.Lanes.{columns_none, columns_more, room}
use Rattle.matrix_sums.proofs.sums.in_columns.Goals as goal

pub loop-k-init : goal.loop-k-init
loop-k-init c =
    let l = c.default-left.ensures in
    let r = c.default-right.ensures in
    rw (l.0, l.1.0, l.1.1, r.0, r.1.0, r.1.1) columns_none

pub add_word-left-requires : goal.add_word-left-requires
add_word-left-requires c = room c.loop-k.invariant.left_small (omega arith)

pub add_word-right-requires : goal.add_word-right-requires
add_word-right-requires c = room c.loop-k.invariant.right_small (omega arith)

-- the second row finds the first one added
pub add_word-left-requires-in-loop-k : goal.add_word-left-requires-in-loop-k
add_word-left-requires-in-loop-k c =
    let row = columns_more (λ k. omega (arith, c.type_inv.part k)) c.word_at.ensures c.word_at-in-loop-k.ensures
    c.add_word-left.ensures c.add_word-right.ensures c.loop-k.invariant in
    room row.left_small (omega arith)

pub add_word-right-requires-in-loop-k : goal.add_word-right-requires-in-loop-k
add_word-right-requires-in-loop-k c =
    let row = columns_more (λ k. omega (arith, c.type_inv.part k)) c.word_at.ensures c.word_at-in-loop-k.ensures
    c.add_word-left.ensures c.add_word-right.ensures c.loop-k.invariant in
    room row.right_small (omega arith)

pub loop-k-preserved : goal.loop-k-preserved
loop-k-preserved c =
    let e : 32 * (c.loop-k.k + 1) ≡ 32 * c.loop-k.k + 16 + 16 = omega arith in
    let row = columns_more (λ k. omega (arith, c.type_inv.part k)) c.word_at.ensures c.word_at-in-loop-k.ensures
    c.add_word-left.ensures c.add_word-right.ensures c.loop-k.invariant in
    rw e (columns_more (λ k. omega (arith, c.type_inv.part k)) c.word_at-in-loop-k-2.ensures c.word_at-in-loop-k-3.ensures c.add_word-left-in-loop-k.ensures c.add_word-right-in-loop-k.ensures row)

pub returns : goal.returns
returns c =
    let e : c.loop-k.k ≡ 8 = omega arith in
    rw e at c.loop-k.invariant
