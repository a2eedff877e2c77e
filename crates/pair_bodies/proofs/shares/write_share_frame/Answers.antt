-- `pair_bodies::shares::write_share_frame` meets its contract: the sum, the inner share and the product are the definition's.
use mathlib.Core.Path.{◌≡◌, sym, ap, ◌∙◌}
use mathlib.Core.List.{List, [], ◌∷◌, ◌++◌, append-nil}
use Prim.Native.Nat.{ℕ, ◌+◌, ◌-◌, ◌*◌, ◌≤◌}
use native.Mathlib.Omega.{arith}
use lib.ListN.{length, take, drop}
use lib.Seq.{length-take-le}
use Rattle.linear_model.specs.Bits.{zeros, add_bits}
use Rattle.linear_model.specs.Trits.{inner_share}
use Rattle.linear_model.specs.Products.{plane_bytes}
use Rattle.numbers.specs.Number.{at_front}
use Rattle.pair_frames.specs.Headers.{parameters_in}
use Rattle.pair_frames.specs.Schemes.{scheme_in}
use Rattle.pair_frames.proofs.Fronts.{lent_front, lent_share, filled}
use Rattle.pair_frames.proofs.Parts.{header-first, behind_long, fields_part}
use Rattle.pair_model.specs.Scheme.{files, concat}
use Rattle.pair_model.proofs.Internal.Lengths.{length-frame}
use Rattle.pair_model.specs.Frame.{Parameters, share_kind, header, frame, header_bytes}
use Rattle.pair_model.specs.Evaluator.{code_of}
use Rattle.pair_model.specs.Unit.{share_of}
use Rattle.pair_model.specs.StateSlice.{string_room, trits_room}
use Rattle.pair_model.proofs.Theorem.ShareLaws.{bytes_code}
use Rattle.pair_model.proofs.Internal.FieldCopies.{FieldsCopied, fields_front}
use Rattle.pair_bodies.proofs.shares.write_share_frame.Goals as goal

-- the frame, by its body, which was written behind its header
written : (kind n end : ℕ) (t : Parameters) (d o body w : List ℕ) → FieldsCopied header_bytes (header kind t ∷ []) d o → end ≡ header_bytes + n → length body ≡ n → header_bytes + n ≤ length d
    → w ≡ at_front body (take (end - header_bytes) (drop header_bytes o)) → take header_bytes o ++ (w ++ drop (end - header_bytes) (drop header_bytes o)) ≡ at_front (frame kind t body) d
unfolding frame concat
written kind n end t d o body w f e l room ew =
    let b : w ≡ body = filled (take (header_bytes + n - header_bytes) (drop header_bytes o)) w body (behind_long f n room) l (ew ∙ ap (λ (k : ℕ). at_front body (take (k - header_bytes) (drop header_bytes o))) e) in
    (λ i. take header_bytes o ++ (b i ++ drop (e i - header_bytes) (drop header_bytes o)))
    ∙ fields_front (fields_part f n room body l)
    ∙ (λ i. (header kind t ++ append-nil body i) ++ drop (header_bytes + sym l i) d)
    ∙ ap (λ (k : ℕ). frame kind t body ++ drop k d) (sym (length-frame kind t body))

pub returns : goal.returns
unfolding share_of
returns c =
    let a = c.args in
    let m = a.sizes.inner_bytes in
    let S = scheme_in a.sizes in
    let lent = files a.file.now in
    let sum = c.add_bits in
    let part = c.inner_share in
    let code = c.write_code in
    let front = length-take-le m (zeros string_room) a.sizes.fits.inner in
    let ŵ = lent_front m (zeros string_room) sum.new.out a.sizes.fits.inner sum.auto.out ∙ sum.ensures
    ∙ ap (λ (k : ℕ). add_bits k a.own_mask.now a.other_mask.now) front in
    let v = lent_front (2 * m) (zeros trits_room) part.new.out (omega (arith, a.sizes.fits.inner)) part.auto.out
    ∙ lent_share m trits_room a.parameters.side _ a.r.now part.new.out (omega (arith, a.sizes.fits.inner)) part.ensures
    ∙ ap (λ (x : List ℕ). inner_share m a.parameters.side x a.r.now) ŵ in
    let head = header-first c.header_bytes.result _ share_kind (parameters_in a.parameters) c.header_bytes.ensures c.put.ensures (omega (arith, c.requires.1)) in
    written share_kind (2 * plane_bytes a.sizes.digits) _ (parameters_in a.parameters) a.out.now _ (code_of S lent (inner_share m a.parameters.side _ a.r.now)) _
    head c.frame_bytes-end.ensures (bytes_code S lent _).size c.requires.1
    (code.ensures ∙ ap (λ (x : List ℕ). at_front (code_of S lent x) (take (c.frame_bytes-end.result - header_bytes) (drop header_bytes c.put.new.out))) v)
