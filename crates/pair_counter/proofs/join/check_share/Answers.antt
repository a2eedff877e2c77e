-- `pair_counter::join::check_share` meets its contract: each return rewrites with the tests that led there.
use mathlib.Core.Path.{◌≡◌, sym, ap, ◌∙◌}
use mathlib.Core.List.{List}
use mathlib.Core.Bool.{not}
use Prim.Native.Nat.{ℕ}
use native.Mathlib.Omega.{arith}
use lib.ListN.{length, take, drop, length-drop}
use lib.Seq.{length-take-le}
use Rattle.linear_model.specs.Trits.{fit_trits, zero_trits}
use Rattle.linear_model.specs.Products.{plane_bytes}
use Rattle.numbers.specs.Number.{first}
use Rattle.pair_frames.specs.Schemes.{scheme_in}
use Rattle.pair_model.specs.Frame.{share_kind, code_bytes, frame_bytes, header_bytes}
use Rattle.pair_model.specs.Scheme.{Scheme}
use Rattle.pair_model.proofs.Internal.Joins.{share_fit, share_clear}
use Rattle.pair_counter.proofs.join.check_share.Goals as goal
use Rattle.pair_counter.proofs.join.check_share.Goals.{After-spare_bits_clear-clear}

-- a frame's share has the length of a code
long : (S : Scheme) (f v : List ℕ) → length f ≡ frame_bytes S share_kind → v ≡ take (code_bytes S) (drop header_bytes f) → length v ≡ code_bytes S
long S f v l e = ap length e ∙ length-take-le (code_bytes S) (drop header_bytes f) (rw length-drop (omega arith))

-- both tests, as those of the frame's share
unfit : (c : After-spare_bits_clear-clear) → let a = c.args in
    not (fit_trits (plane_bytes a.sizes.digits) a.sizes.digits (take (code_bytes (scheme_in a.sizes)) (drop header_bytes a.f.now))) ≡ not c.trits_fit-fit.result
unfit c =
    let S = scheme_in c.args.sizes in
    let e = c.share_of-v.ensures in
    ap (λ (v : List ℕ). not (fit_trits (plane_bytes S.digits) S.digits v)) (sym e)
    ∙ share_fit S _ (long S c.args.f.now _ c.requires e) c.trits_fit-fit.ensures

spare : (c : After-spare_bits_clear-clear) → let a = c.args in
    not (zero_trits (plane_bytes a.sizes.digits) a.sizes.digits (take (code_bytes (scheme_in a.sizes)) (drop header_bytes a.f.now))) ≡ not c.spare_bits_clear-clear.result
spare c =
    let S = scheme_in c.args.sizes in
    let e = c.share_of-v.ensures in
    ap (λ (v : List ℕ). not (zero_trits (plane_bytes S.digits) S.digits v)) (sym e)
    ∙ share_clear S _ (long S c.args.f.now _ c.requires e) c.spare_bits_clear-clear.ensures

pub returns-then-not-fit : goal.returns-then-not-fit
unfolding first
returns-then-not-fit c = simp (unfit (goal.at.returns-then-not-fit c).After-spare_bits_clear-clear ∙ ap not c.if-not-fit.true)

pub returns-then-clear : goal.returns-then-clear
unfolding first
returns-then-clear c = simp (unfit (goal.at.returns-then-clear c).After-spare_bits_clear-clear ∙ ap not c.if-not-fit.false, spare (goal.at.returns-then-clear c).After-spare_bits_clear-clear ∙ ap not c.if-clear.true)

pub returns-else-clear : goal.returns-else-clear
unfolding first
returns-else-clear c = simp (unfit (goal.at.returns-else-clear c).After-spare_bits_clear-clear ∙ ap not c.if-not-fit.false, spare (goal.at.returns-else-clear c).After-spare_bits_clear-clear ∙ ap not c.if-clear.false)
