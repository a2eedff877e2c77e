-- `pair_whole::run::run_units` meets its contract: its steps are those of a run in order, and its sum the join's.
use mathlib.Core.Path.{ap, ◌∙◌}
use mathlib.Core.List.{List}
use Prim.Native.Nat.{ℕ}
use native.Mathlib.Omega.{arith}
use native.Mathlib.Nat.{le_refl}
use lib.Dec.{lit<}
use lib.ListN.{length}
use Rattle.numbers.specs.Number.{output}
use Rattle.pair_model.specs.Scheme.{side0, side1}
use Rattle.pair_model.specs.Base.{base}
use Rattle.pair_model.specs.Frame.{code_bytes}
use Rattle.pair_model.proofs.Internal.Runs.{file_is}
use Rattle.pair_model.proofs.Internal.Rounds.{sends, begun_is, deal_is, open_is, open_accepted, mask_is, share_is, join_is}
use Rattle.pair_whole.proofs.run.run_units.Goals as goal

pub first_round-requires : goal.first_round-requires
first_round-requires c =
    let f = c.requires in
    record {
      long = f.long;
      room_is = le_refl (code_bytes base);
      file = f.file;
      tape = f.tape;
    }

pub exchange-requires : goal.exchange-requires
exchange-requires c =
    let x = c.args.input.now in
    let n = length c.args.out.now in
    let f = c.requires in
    let k : (i : ℕ) → _ = λ i. (c.type_inv.input i).fits in
    let a0 = sends x n f k side0 0 (lit< tt) _ _ (begun_is x n f k side0) (deal_is x n f k side0) c.first_round.ensures.first in
    let a1 = sends x n f k side1 0 (lit< tt) _ _ (begun_is x n f k side1) (deal_is x n f k side1) c.first_round.ensures.second in (
      open_accepted x n f k side0 _ _ _ a0.next_is (open_is x n f k side0 _ a1.sent_is) (file_is x),
      open_accepted x n f k side1 _ _ _ a1.next_is (open_is x n f k side1 _ a0.sent_is) (file_is x),
    )

pub add_shares-requires : goal.add_shares-requires
add_shares-requires c =
    let s0 = c.share_frame-share0 in
    let s1 = c.share_frame-share1 in
    (s0.type_inv.1.0.1, s1.type_inv.1.0.1, c.requires.room_is)

pub shape_of-out : goal.shape_of-out
shape_of-out c = omega arith

pub returns : goal.returns
returns c =
    let x = c.args.input.now in
    let n = length c.args.out.now in
    let f = c.requires in
    let k : (i : ℕ) → _ = λ i. (c.type_inv.input i).fits in
    let a0 = sends x n f k side0 0 (lit< tt) _ _ (begun_is x n f k side0) (deal_is x n f k side0) c.first_round.ensures.first in
    let a1 = sends x n f k side1 0 (lit< tt) _ _ (begun_is x n f k side1) (deal_is x n f k side1) c.first_round.ensures.second in
    let b0 = sends x n f k side0 1 (lit< tt) _ _ a0.next_is (open_is x n f k side0 _ a1.sent_is) (rw (file_is x) at c.exchange.ensures.first) in
    let b1 = sends x n f k side1 1 (lit< tt) _ _ a1.next_is (open_is x n f k side1 _ a0.sent_is) (rw (file_is x) at c.exchange.ensures.second) in
    let d0 = share_is x n f k side0 _ _ _ _ b0.next_is (mask_is x n f k side0 _ b1.sent_is) (file_is x) c.share_frame-share0.ensures in
    let d1 = share_is x n f k side1 _ _ _ _ b1.next_is (mask_is x n f k side1 _ b0.sent_is) (file_is x) c.share_frame-share1.ensures in
    c.add_shares.ensures ∙ ap (λ (y : List ℕ). output 0 y c.args.out.now) (join_is x n f k _ _ d0 d1)
