-- `pair_sampler::sampler::sample_sized` meets its contract: the draw's number and place, and the tape in two parts.
use mathlib.Core.Path.{refl, ◌∙◌}
use Prim.Native.Nat.{◌+◌, ◌*◌, ◌≤◌}
use native.Mathlib.Omega.{arith}
use lib.ListN.{length, take}
use lib.Seq.{length-take-le}
use Rattle.pair_model.specs.StateSlice.{string_room}
use Rattle.linear_model.specs.Bits.{zeros}
use Rattle.numbers.specs.Number.{output}
use Rattle.source_model.proofs.Draws.{drawn-small}
use Rattle.pair_frames.specs.Schemes.{scheme_in}
use Rattle.pair_frames.proofs.Fronts.{lent_front, lent_long}
use Rattle.numbers.proofs.Refusals.{passed_on, refused}
use Rattle.pair_sampler.proofs.Samples.{part_long, sample_output, sample_number_lem, sample_next, sample_refused, sample_written}
use Rattle.pair_sampler.proofs.sampler.sample_sized.Goals as goal

pub returns-then-out-tape-clause-result : goal.returns-then-out-tape-clause-result
returns-then-out-tape-clause-result c = sample_output (scheme_in c.args.sizes) _ _ _ (omega arith)

pub returns-then-out-tape-clause-output : goal.returns-then-out-tape-clause-output
unfolding output
returns-then-out-tape-clause-output c = refl

pub returns-in_err-next-clause-result : goal.returns-in_err-next-clause-result
returns-in_err-next-clause-result c =
    let z = c.args.sizes in
    let ec = length-take-le (4 * z.key_bytes + 2 * z.inner_bytes) c.args.out.now (omega arith) in
    let ew = length-take-le (8 * z.inner_bytes) (zeros (8 * string_room)) (omega (arith, z.fits.inner)) in
    sample_number_lem (scheme_in z) _ _ (ec ∙ omega arith) ew _ _ (omega arith) (passed_on _ _ c.from_residual.ensures ∙ c.in_err-next.ensures.result)

pub returns-in_err-next-clause-output : goal.returns-in_err-next-clause-output
returns-in_err-next-clause-output c =
    let z = c.args.sizes in
    let k = 4 * z.key_bytes + 2 * z.inner_bytes in
    let ec = length-take-le k c.args.out.now (omega arith) in
    let ew = length-take-le (8 * z.inner_bytes) (zeros (8 * string_room)) (omega (arith, z.fits.inner)) in
    rw (passed_on _ _ c.from_residual.ensures)
    (sample_refused (scheme_in z) _ _ (ec ∙ omega arith) ew k _ c.args.out.now _ (refused _ refl) c.in_err-next.ensures.bytes)

pub pack-requires : goal.pack-requires
pack-requires c =
    let d = c.draw_from in
    let z = c.args.sizes in
    let k = 4 * z.key_bytes + 2 * z.inner_bytes in
    let w = 8 * z.inner_bytes in
    let h : w ≤ 8 * string_room = omega (arith, z.fits.inner) in
    let kept = d.auto.trits in
    let e = c.in_ok-next.ensures.trits refl in (
      omega (arith, lent_long w (zeros (8 * string_room)) d.new.trits h kept),
      part_long _ _ _ (omega arith),
      λ j. rw (lent_front w (zeros (8 * string_room)) d.new.trits h kept, e) (omega (arith, drawn-small (length (take k c.args.out.now)) (length (take w (zeros (8 * string_room)))) c.args.source.now c.args.start j)),
    )

pub returns : goal.returns
returns c =
    let d = c.draw_from in
    let a = c.args in
    let S = scheme_in a.sizes in
    let k = 4 * a.sizes.key_bytes + 2 * a.sizes.inner_bytes in
    let w = 8 * a.sizes.inner_bytes in
    let h : w ≤ 8 * string_room = omega (arith, a.sizes.fits.inner) in
    let ec = length-take-le k a.out.now (omega arith) in
    let ew = length-take-le w (zeros (8 * string_room)) h in
    let e = c.in_ok-next.ensures in
    record {
      result = sample_number_lem S _ _ (ec ∙ omega arith) ew _ _ (omega arith) e.result;
      next = sample_next S _ _ (ec ∙ omega arith) ew _ e.next;
      output = sample_written S _ _ (ec ∙ omega arith) ew k _ ec refl a.out.now c.if-out-tape.false _ _ _ _ refl e.bytes (lent_front w (zeros (8 * string_room)) _ h d.auto.trits ∙ e.trits refl) c.pack.ensures;
    }
