-- `pair_dealer::dealer::deal_source_sized` meets its contract: the sampler's number and place, and the deal of its tape.
use mathlib.Core.Path.{◌≡◌, refl, ap, ◌∙◌}
use Prim.Native.Nat.{ℕ, ◌+◌, ◌*◌, ◌≤◌}
use native.Mathlib.Omega.{arith}
use lib.ListN.{length, take}
use lib.Seq.{length-take-le}
use Rattle.linear_model.specs.Bits.{zeros}
use Rattle.numbers.specs.Number.{output}
use Rattle.pair_frames.specs.Schemes.{scheme_in}
use Rattle.pair_frames.proofs.Fronts.{zeros-front}
use Rattle.numbers.proofs.Refusals.{passed_on}
use Rattle.pair_frames.proofs.Refusals.{output_kept}
use Rattle.pair_model.specs.Scheme.{no_files}
use Rattle.pair_model.specs.Tape.{tape_bytes}
use Rattle.pair_model.specs.Frame.{shared_parameters}
use Rattle.pair_model.specs.Sampler.{sampled, sample_number}
use Rattle.pair_model.specs.Dealer.{dealt}
use Rattle.pair_model.specs.StateSlice.{string_room}
use Rattle.pair_model.proofs.Internal.Deals.{source_room, source_number_lem, sampled_whole}
use Rattle.pair_dealer.proofs.dealer.deal_source_sized.Goals as goal

pub returns-then-out-frame_bytes-clause-result : goal.returns-then-out-frame_bytes-clause-result
returns-then-out-frame_bytes-clause-result c = source_room (scheme_in c.args.sizes) _ _ _ _ (omega arith)

pub returns-then-out-frame_bytes-clause-output : goal.returns-then-out-frame_bytes-clause-output
unfolding output
returns-then-out-frame_bytes-clause-output c = refl

pub returns-in_err-next-clause-result : goal.returns-in_err-next-clause-result
returns-in_err-next-clause-result c =
    let a = c.args in
    let S = scheme_in a.sizes in
    let k : ℕ = 4 * a.sizes.key_bytes + 4 * a.sizes.inner_bytes in
    let long : length (take k (zeros (8 * string_room))) ≡ tape_bytes S = length-take-le k (zeros (8 * string_room)) (omega (arith, a.sizes.fits.key, a.sizes.fits.inner)) ∙ omega arith in
    passed_on _ _ c.from_residual.ensures ∙ c.in_err-next.ensures.result ∙ ap (sample_number S a.source.now a.start) long ∙ source_number_lem S _ _ _ _ refl tt (omega arith)

pub returns-in_err-next-clause-output : goal.returns-in_err-next-clause-output
returns-in_err-next-clause-output c = output_kept _ _ c.from_residual.ensures _ _

pub returns : goal.returns
returns c =
    let a = c.args in
    let S = scheme_in a.sizes in
    let k : ℕ = 4 * a.sizes.key_bytes + 4 * a.sizes.inner_bytes in
    let h : k ≤ 8 * string_room = omega (arith, a.sizes.fits.key, a.sizes.fits.inner) in
    let is : k ≡ tape_bytes S = omega arith in
    let long : length (take k (zeros (8 * string_room))) ≡ tape_bytes S = length-take-le k (zeros (8 * string_room)) h ∙ is in
    let n = c.in_ok-next.ensures in
    let front : take k (zeros (8 * string_room)) ≡ zeros (tape_bytes S) = zeros-front k (8 * string_room) h ∙ ap zeros is in
    let tape = n.output ∙ ap (output 0 (sampled S a.source.now a.start)) front ∙ sampled_whole S a.source.now a.start in
    record {
      result = n.result ∙ ap (sample_number S a.source.now a.start) long ∙ source_number_lem S _ _ _ _ refl tt (omega arith);
      next = n.next;
      output = c.write_deal.ensures ∙ (λ i. output 0 (dealt S (shared_parameters a.session a.line) no_files (tape i)) a.out.now);
    }
