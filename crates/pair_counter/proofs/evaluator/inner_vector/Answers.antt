-- `pair_counter::evaluator::inner_vector` meets its contract: the product is the low plane.
use mathlib.Core.Path.{◌≡◌, sym, ap, ◌∙◌}
use mathlib.Core.List.{List, ◌++◌, append_assoc}
use Prim.Native.Nat.{ℕ, ◌+◌, ◌-◌, ◌*◌, ◌≤◌}
use native.Mathlib.Omega.{arith}
use lib.ListN.{length, take, drop, length-append, replicate-append-replicate}
use lib.Seq.{take_at, drop_at, length-take-le}
use Rattle.pair_model.specs.StateSlice.{trits_room}
use Rattle.linear_model.specs.Bits.{zeros}
use Rattle.linear_model.specs.Products.{circulant, circulant_product}
use Rattle.linear_model.proofs.Linearity.{bytes_product}
use Rattle.linear_model.proofs.Strings.{length-zeros}
use Rattle.pair_model.proofs.Internal.Evaluations.{bits_as_trits}
use Rattle.pair_counter.proofs.evaluator.inner_vector.Goals as goal

-- behind m bytes over the front of zeros, the next m are zeros
low-plane : (m room : ℕ) (w : List ℕ) → length w ≡ m → 2 * m ≤ room → take (2 * m) (w ++ drop m (zeros room)) ≡ w ++ zeros m
low-plane m room w l h =
    let k : m + (m + (room - 2 * m)) ≡ room = omega arith in
    let z : zeros room ≡ zeros m ++ (zeros m ++ zeros (room - 2 * m)) =
    sym (ap (λ (t : List ℕ). zeros m ++ t) (replicate-append-replicate m (room - 2 * m) 0) ∙ replicate-append-replicate m (m + (room - 2 * m)) 0 ∙ ap zeros k) in
    let d : drop m (zeros room) ≡ zeros m ++ zeros (room - 2 * m) = ap (drop m) z ∙ drop_at (zeros m) (zeros m ++ zeros (room - 2 * m)) m (length-zeros m) in
    ap (λ (t : List ℕ). take (2 * m) (w ++ t)) d ∙ ap (take (2 * m)) (sym (append_assoc w (zeros m) (zeros (room - 2 * m))))
    ∙ take_at (w ++ zeros m) (zeros (room - 2 * m)) (2 * m) (length-append w (zeros m) ∙ omega (arith, length-zeros m))

pub returns : goal.returns
returns c =
    let m = c.args.sizes.inner_bytes in
    let key = c.args.key.now in
    let label = c.args.label.now in
    let h : 2 * m ≤ trits_room = omega (arith, c.args.sizes.fits.inner) in
    let is = c.circulant_product.ensures ∙ ap (λ (n : ℕ). circulant_product n key label) (length-take-le m (zeros trits_room) (omega (arith, h))) in
    let b = bytes_product m m (circulant m key) label in
    ap (λ (w : List ℕ). take (2 * m) (w ++ drop m (zeros trits_room))) is
    ∙ low-plane m trits_room (circulant_product m key label) b.size h
    ∙ bits_as_trits m (circulant_product m key label) b
