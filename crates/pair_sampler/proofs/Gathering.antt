-- The law of packing: one bit of each of a word's bytes, which are below 4, brought together in a byte.
use mathlib.Core.Path.{◌≡◌, refl, sym, ap, ◌∙◌}
use mathlib.Core.Bool.{Bool, true, false, cond}
use Prim.Native.Nat.{ℕ, zero, suc, ◌+◌, ◌*◌, ◌/◌, ◌%◌, ◌^◌, ◌<◌, ◌≤◌}
use native.Mathlib.Nat.{mod-lt, mul-zero, mul-one, lt_of_le_of_lt, lt_of_lt_of_le, div-eq_of_lt}
use native.Mathlib.Omega.{arith}
use lib.Bits.{bit_and, bit_or, and_le_r}
use lib.Dec.{eqb, eqb→eq, lit<}
use lib.Pow.{shr-shr, pow_mono}
use Rattle.linear_model.specs.Tables.{every}
use Rattle.linear_model.specs.Bits.{bit_at, from_bits}
use Rattle.linear_model.proofs.Tables.{same₁}
use Rattle.linear_model.proofs.NumberBits.{from_bits_lt, from_bits_of, bit_at_lt, bit_at-from_bits, or-bit_at, bit_at_and}

-- the bit of a byte that stands at place j of 32 bits: those of its lower half at every eighth place, those of its upper half between them
abbrev spread_place : ℕ → ℕ
spread_place j = j / 8 + 4 * (j / 4 % 2)

-- bit j of 32 bits that hold the bits of v at every fourth place
abbrev spread : ℕ → ℕ → ℕ
spread v j = cond (eqb (j % 4) 0) (bit_at v (spread_place j)) 0

-- the product brings them together, for each of the 256 bytes
together_spread : (v : ℕ) → v < 256 → from_bits 32 (spread v) * 0x204081 / 2 ^ 21 % 256 ≡ v
unfolding every from_bits
together_spread v h = same₁ 256 (λ v. from_bits 32 (spread v) * 0x204081 / 2 ^ 21 % 256) (λ v. v) tt v h

fourths_bit_at : (j : ℕ) → j < 32 → bit_at 0x11111111 j ≡ cond (eqb (j % 4) 0) 1 0
unfolding every
fourths_bit_at j h = same₁ 32 (bit_at 0x11111111) (λ j. cond (eqb (j % 4) 0) 1 0) tt j h

or-none_right : (a b : ℕ) → a < 2 → b ≡ 0 → bit_or a b ≡ a
unfolding every
or-none_right a b h e = ap (bit_or a) e ∙ same₁ 2 (λ a. bit_or a 0) (λ a. a) tt a h

or-none_left : (a b : ℕ) → b < 2 → a ≡ 0 → bit_or a b ≡ b
unfolding every
or-none_left a b h e = ap (λ (x : ℕ). bit_or x b) e ∙ same₁ 2 (λ b. bit_or 0 b) (λ b. b) tt b h

-- a number below 4 has two bits
pub small-bit : (x k : ℕ) → x < 4 → 2 ≤ k → bit_at x k ≡ 0
small-bit x k h l = ap (λ (y : ℕ). y % 2) (div-eq_of_lt (lt_of_lt_of_le h (pow_mono l)))

module _ (x h : ℕ) (l : h < 2) (small : (j : ℕ) → j < 64 → 2 ≤ j % 8 → bit_at x j ≡ 0) where
  -- bit h of each byte
  abbrev chosen : ℕ → ℕ
  chosen k = bit_at x (8 * k + h)

  abbrev laid : ℕ
  laid = bit_and (bit_or x (x / 2 ^ 28) / 2 ^ h) 0x11111111

  -- a place of the word with its upper half laid over the lower one
  over : (j : ℕ) → bit_at (bit_or x (x / 2 ^ 28) / 2 ^ h) j ≡ bit_or (bit_at x (h + j)) (bit_at x (28 + (h + j)))
  over j =
      ap (λ (y : ℕ). y % 2) (shr-shr (bit_or x (x / 2 ^ 28)) h j) ∙ or-bit_at x (x / 2 ^ 28) (h + j)
      ∙ ap (λ (y : ℕ). bit_or (bit_at x (h + j)) (y % 2)) (shr-shr x 28 (h + j))

  -- of the two bits that meet there the one of the other half is 0
  at_eighth : (b j : ℕ) → b < 4 → j ≡ 8 * b → bit_or (bit_at x (h + j)) (bit_at x (28 + (h + j))) ≡ chosen b
  at_eighth b j m e =
      or-none_right (bit_at x (h + j)) (bit_at x (28 + (h + j))) (bit_at_lt x (h + j)) (small (28 + (h + j)) (omega arith) (omega arith))
      ∙ ap (bit_at x) (omega arith)

  at_fourth : (b j : ℕ) → b < 4 → j ≡ 8 * b + 4 → bit_or (bit_at x (h + j)) (bit_at x (28 + (h + j))) ≡ chosen (b + 4)
  at_fourth b j m e =
      or-none_left (bit_at x (h + j)) (bit_at x (28 + (h + j))) (bit_at_lt x (28 + (h + j))) (small (h + j) (omega arith) (omega arith))
      ∙ ap (bit_at x) (omega arith)

  fourth : (j : ℕ) → j < 32 → j % 4 ≡ 0 → bit_at (bit_or x (x / 2 ^ 28) / 2 ^ h) j ≡ chosen (spread_place j)
  fourth j m z = over j ∙ pick (j / 4) (j / 8) (j / 4 % 2) (omega arith) (mod-lt (j / 4) (lit< tt)) (omega arith)
    where
      pick : (a b q : ℕ) → j ≡ 4 * a → q < 2 → a ≡ 2 * b + q → bit_or (bit_at x (h + j)) (bit_at x (28 + (h + j))) ≡ chosen (b + 4 * q)
      pick a b zero ea n eb = at_eighth b j (omega arith) (omega arith) ∙ ap chosen (omega arith)
      pick a b (suc zero) ea n eb = at_fourth b j (omega arith) (omega arith)
      pick a b (suc (suc q)) ea n eb = absurd (omega arith)

  pub gathered_is : laid * 0x204081 / 2 ^ 21 % 256 ≡ from_bits 8 chosen
  gathered_is =
      let v = from_bits 8 chosen in
      let e : laid ≡ from_bits 32 (spread v) =
      from_bits_of 32 laid (spread v) (lt_of_le_of_lt (and_le_r (bit_or x (x / 2 ^ 28) / 2 ^ h) 0x11111111) (lit< tt))
      (λ j m. bit_at_and (bit_or x (x / 2 ^ 28) / 2 ^ h) 0x11111111 j
      ∙ ap (λ (b : ℕ). bit_at (bit_or x (x / 2 ^ 28) / 2 ^ h) j * b) (fourths_bit_at j m) ∙ place j m (eqb (j % 4) 0) refl)
      in
      ap (λ (y : ℕ). y * 0x204081 / 2 ^ 21 % 256) e ∙ together_spread v (from_bits_lt 8 chosen (λ k. bit_at_lt x (8 * k + h)))
    where
      place : (j : ℕ) → j < 32 → (b : Bool) → eqb (j % 4) 0 ≡ b
          → bit_at (bit_or x (x / 2 ^ 28) / 2 ^ h) j * cond b 1 0 ≡ cond b (bit_at (from_bits 8 chosen) (spread_place j)) 0
      place j m false e = mul-zero (bit_at (bit_or x (x / 2 ^ 28) / 2 ^ h) j)
      place j m true e =
          mul-one (bit_at (bit_or x (x / 2 ^ 28) / 2 ^ h) j) ∙ fourth j m (eqb→eq (j % 4) 0 (rw e tt))
          ∙ sym (bit_at-from_bits 8 chosen (λ k. bit_at_lt x (8 * k + h)) (spread_place j) (omega arith))
