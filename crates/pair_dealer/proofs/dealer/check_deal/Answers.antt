-- `pair_dealer::dealer::check_deal` meets its contract: each return rewrites with the tests that led there.
use mathlib.Core.Path.{◌≡◌}
use Prim.Native.Nat.{◌≤◌}
use native.Mathlib.Omega.{arith}
use borrow.Author.Tests.{lt-ltb, le-ltb, eq-eqb, ne_eqb}
use lib.ListN.{length}
use Rattle.numbers.specs.Number.{first, merge}
use Rattle.pair_model.specs.Tape.{tape_bytes}
use Rattle.pair_model.specs.Dealer.{dealt_bytes, deal_conditions}
use Rattle.pair_frames.specs.Schemes.{scheme_in}
use Rattle.pair_deals.proofs.Parts.{fit_part}
use Rattle.pair_dealer.proofs.dealer.check_deal.Goals as goal

pub returns-then-tape-end : goal.returns-then-tape-end
unfolding first deal_conditions
returns-then-tape-end c =
    let a = c.args in
    let S = scheme_in a.sizes in
    simp (ne_eqb (length a.tape.now) (tape_bytes S) (λ e. c.if-tape-end.true (omega arith)))

pub returns-then-room-frame_bytes : goal.returns-then-room-frame_bytes
unfolding first deal_conditions
returns-then-room-frame_bytes c =
    let a = c.args in
    let S = scheme_in a.sizes in
    simp (eq-eqb (length a.tape.now) (tape_bytes S) (omega arith), lt-ltb a.room (dealt_bytes S) (omega arith))

pub returns-then-trits_fit : goal.returns-then-trits_fit
unfolding first merge deal_conditions
returns-then-trits_fit c =
    let a = c.args in
    let S = scheme_in a.sizes in
    let l : length a.tape.now ≡ tape_bytes S = omega arith in
    let h : dealt_bytes S ≤ a.room = omega arith in
    simp (eq-eqb _ _ l, le-ltb _ _ h, fit_part a.sizes a.tape.now l c.trits_fit.ensures, c.if-trits_fit.true)

pub returns-else-trits_fit : goal.returns-else-trits_fit
unfolding first merge deal_conditions
returns-else-trits_fit c =
    let a = c.args in
    let S = scheme_in a.sizes in
    let l : length a.tape.now ≡ tape_bytes S = omega arith in
    let h : dealt_bytes S ≤ a.room = omega arith in
    simp (eq-eqb _ _ l, le-ltb _ _ h, fit_part a.sizes a.tape.now l c.trits_fit.ensures, c.if-trits_fit.false)
