use mathlib.Core.Path.{◌≡◌, ap, ◌∙◌}
use mathlib.Core.List.{List}
use Prim.Native.Nat.{ℕ, ◌+◌, ◌-◌, ◌*◌, ◌/◌, ◌%◌, ◌<◌, ◌≤◌}
use native.Mathlib.Nat.{zero-add}
use native.Mathlib.Omega.{arith}
use Rattle.std.proofs.lemmas.List.{length-drop, take_rest}
use Rattle.linear_model.specs.Bits.{from_bits}
use Rattle.linear_model.specs.Trits.{low, high}
use Rattle.linear_model.specs.Products.{row_digit}
use Rattle.linear_model.proofs.Tables.{below_past}
use Rattle.linear_model.proofs.Internal.Matrix.{row_at, row_back, bits_more, bits_all, bits_small, bits_byte}
use Rattle.linear_model.proofs.Linearity.{digit-below}
use Rattle.linear_rows.proofs.rows.some_rows.Goals as goal
use Rattle.linear_rows.proofs.rows.some_rows.Invariants.{digits, Held}

module _ {rows v : List ℕ} {m t all hi q : ℕ} (h : Held rows v m t all hi q) (small : t ≤ 8) where
  high_bit : (i : ℕ) → high (digits rows v m t) i < 2
  high_bit i = omega (arith, digit-below t m rows v i)

  -- before the last row, seven bits at most
  seven : 0 < q → (all - 2 * hi < 128) × (hi < 128)
  seven l = (
    bits_small t (low (digits rows v m t)) q _ (λ i. omega arith) small l h.low_is,
    bits_small t (high (digits rows v m t)) q _ high_bit small l h.high_is,
  )

  -- after it, a byte
  byte : q ≡ 0 → (all - 2 * hi < 256) × (hi < 256)
  byte z =
      let n : t - 0 ≡ t = omega arith in (
        bits_byte t (low (digits rows v m t)) _ (λ i. omega arith) small (rw (z, n) at h.low_is),
        bits_byte t (high (digits rows v m t)) _ high_bit small (rw (z, n) at h.high_is),
      )

  -- one row before
  more : {d : ℕ} → 0 < q → d ≡ digits rows v m t (q - 1) → Held rows v m t (2 * all + d) (2 * hi + d / 2) (q - 1)
  more {d} l e =
      let s : 2 * all + d - 2 * (2 * hi + d / 2) ≡ 2 * (all - 2 * hi) + d % 2 = omega (arith, h.twice) in
      record {
        inside = omega (arith, h.inside);
        twice = omega (arith, h.twice);
        low_is = s ∙ bits_more t (low (digits rows v m t)) q _ _ l h.inside h.low_is (ap (λ (x : ℕ). x % 2) e);
        high_is = bits_more t (high (digits rows v m t)) q _ _ l h.inside h.high_is (ap (λ (x : ℕ). x / 2) e);
      }

pub loop-init : goal.loop-init
unfolding from_bits
loop-init c =
    let e : c.args.t - c.args.t ≡ 0 = omega arith in
    let z : c.args.t - 0 ≡ c.args.t = omega arith in
    rw z (omega arith, omega arith, record { inside = omega arith; twice = omega arith; low_is = rw e; high_is = rw e })

pub overflow_sub-place : goal.overflow_sub-place
overflow_sub-place c =
    omega (arith, row_back (2 * c.args.m) (c.args.t - c.loop.counter) (omega arith))

pub row_digit-d-requires : goal.row_digit-d-requires
row_digit-d-requires c =
    (rw (take_rest, length-drop) (omega (arith, row_back (2 * c.args.m) (c.args.t - c.loop.counter) (omega arith))), omega arith, omega arith)

pub overflow_mul-all : goal.overflow_mul-all
overflow_mul-all c = let b = seven c.loop.invariant.2 (omega arith) (omega arith) in omega (arith, c.row_digit-d.ensures, b.0, b.1)

pub overflow_add-all : goal.overflow_add-all
overflow_add-all c =
    let b = seven c.loop.invariant.2 (omega arith) (omega arith) in
    omega (arith, c.row_digit-d.ensures, b.0, b.1)

pub overflow_mul-hi : goal.overflow_mul-hi
overflow_mul-hi c = let b = seven c.loop.invariant.2 (omega arith) (omega arith) in omega (arith, c.row_digit-d.ensures, b.1)

pub overflow_add-hi : goal.overflow_add-hi
overflow_add-hi c = let b = seven c.loop.invariant.2 (omega arith) (omega arith) in omega (arith, c.row_digit-d.ensures, b.1)

pub loop-preserved : goal.loop-preserved
loop-preserved c =
    let a = c.args in
    let q = a.t - c.loop.counter in
    let back = row_back (2 * a.m) q (omega arith) in
    let place : c.loop.place - 2 * a.m ≡ 2 * a.m * (q - 1) = omega (arith, back) in
    let o : a.t - (c.loop.counter + 1) ≡ q - 1 = omega arith in
    rw o (
      place,
      omega arith,
      more c.loop.invariant.2 (omega arith) (omega arith) (c.row_digit-d.ensures ∙ rw (take_rest, place) (rw zero-add at (row_at a.m a.t 0 a.rows.now a.v.now (q - 1) (omega arith)))),
    )

pub overflow_mul-result : goal.overflow_mul-result
overflow_mul-result c = omega (arith, (byte c.loop.invariant.2 (omega arith) (omega arith)).1)

pub overflow_cast-result : goal.overflow_cast-result
overflow_cast-result c = omega (arith, (byte c.loop.invariant.2 (omega arith) (omega arith)).0)

pub overflow_cast-result-2 : goal.overflow_cast-result-2
overflow_cast-result-2 c = omega (arith, (byte c.loop.invariant.2 (omega arith) (omega arith)).1)

pub returns : goal.returns
returns c =
    let a = c.args in
    let f = digits a.rows.now a.v.now a.m a.t in
    let past : (i : ℕ) → f (a.t + i) ≡ 0 = below_past a.t (row_digit a.m a.rows.now a.v.now) in
    let q : a.t - c.loop.counter ≡ 0 = omega arith in
    let n : a.t - 0 ≡ a.t = omega arith in
    record {
      low_is = bits_all a.t (low f) _ (λ i. ap (λ (d : ℕ). d % 2) (past i)) (omega arith) (rw (q, n) at c.loop.invariant.2.low_is);
      high_is = bits_all a.t (high f) _ (λ i. ap (λ (d : ℕ). d / 2) (past i)) (omega arith) (rw (q, n) at c.loop.invariant.2.high_is);
    }
