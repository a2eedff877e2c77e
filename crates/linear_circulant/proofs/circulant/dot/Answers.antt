use mathlib.Core.Path.{◌≡◌, ap, ◌∙◌}
use mathlib.Core.List.{List}
use Prim.Native.Nat.{ℕ, ◌+◌, ◌-◌, ◌*◌, ◌%◌, ◌^◌, ◌<◌, ◌≤◌}
use native.Mathlib.Omega.{arith}
use lib.Bits.{bit_xor, bit_and, xor_lt, and_lt}
use lib.Count.{ones}
use lib.ListN.{length}
use Rattle.linear_model.specs.Tables.{sum, from}
use Rattle.linear_model.specs.Bits.{bit_at, bit, from_bits}
use Rattle.linear_model.specs.Internal.Words.{shift_term}
use Rattle.linear_model.proofs.NumberBits.{bit_at_zero}
use Rattle.linear_model.proofs.Sums.{sum_zeros}
use Rattle.linear_model.proofs.WordBits.{ones_sum}
use Rattle.linear_model.proofs.Internal.Circulant.{dot_more, dot_ends}
use Rattle.linear_circulant.proofs.circulant.dot.Goals as goal
use Rattle.linear_circulant.proofs.circulant.dot.Goals.{else-loop-w-test, then-loop-w-test+else-w-end-w-gt8}

module _ (a b : List ℕ) (p q n : ℕ) where
  -- the set bits of a word count the terms of the first w bytes, modulo 2
  abbrev Counts : ℕ → ℕ → Type 0
  Counts w z = (z < 2 ^ 64) × (sum 64 (bit_at z) % 2 ≡ sum (8 * w) (shift_term a b (8 * p + q)) % 2)

  more : (w z : ℕ) {x y : ℕ} → Counts w z → x < 2 ^ 64 → y < 2 ^ 64 → x ≡ from_bits 64 (from (8 * w) (bit a)) → y ≡ from_bits 64 (from (8 * (p + w) + q) (bit b))
      → Counts (w + 8) (bit_xor z (bit_and x y))
  more w z {x} {y} h hx hy ex ey =
      (xor_lt 64 z (bit_and x y) h.0 (and_lt 64 x y hx hy), dot_more a b (8 * p + q) w (8 * (p + w) + q) _ _ _ (omega arith) h.1 ex ey)

  ends : (w z : ℕ) → Counts w z → p ≤ n → length b ≤ n → n - p ≤ w → ones z % 2 ≡ sum (8 * n) (shift_term a b (8 * p + q)) % 2
  ends w z h hp hb hw = ap (λ (x : ℕ). x % 2) (ones_sum 64 z h.0) ∙ h.1 ∙ ap (λ (x : ℕ). x % 2) (dot_ends a b p q n w hp hb hw)

pub loop-w-init : goal.loop-w-init
loop-w-init c = unfold sum in (omega arith, ap (λ (x : ℕ). x % 2) (sum_zeros 0 64 (bit_at 0) (λ i. bit_at_zero (0 + i))))

pub loop-w-preserved : goal.loop-w-preserved
loop-w-preserved c =
    let a = c.args in
    more a.a.now a.b.now a.p a.q a.n c.loop-w.w c.loop-w.acc c.loop-w.invariant c.word_at.type_inv c.window.type_inv c.word_at.ensures c.window.ensures

pub returns : goal.returns
returns c =
    let a = c.args in
    let l = c.loop-w in
    let ended = ends a.a.now a.b.now a.p a.q a.n in
    elim c.loop-w-test.branch [
      | else-loop-w-test w ↦ rw w.acc-is (ended l.w l.acc l.invariant (omega arith) (omega arith) (omega arith))
      | then-loop-w-test+else-w-end-w-gt8 w ↦
          rw w.acc-is (ended (l.w + 8) _ (more a.a.now a.b.now a.p a.q a.n l.w l.acc l.invariant w.word_at.type_inv w.window.type_inv w.word_at.ensures w.window.ensures)
          (omega arith) (omega arith) (omega arith))
    ]
