-- The twelve examples of document 01, as one table over the definitions.
use Rattle.std.specs.Prelude.{ℕ, ◌+◌, ◌%◌, ◌<◌, ◌≡◌, List, [], ◌∷◌, ◌++◌, true, length, replicate}
use Rattle.linear_model.specs.Bits.{Bytes, zeros, bit}
use Rattle.linear_model.specs.Trits.{trit, inner_share}
use Rattle.matrix_model.specs.Block.{check, check_holds}
use Rattle.matrix_model.specs.File.{file_bytes, check_number}
use Rattle.source_model.specs.Draw.{draw}
use Rattle.pair_model.specs.Sampler.{sample_number, next_pair}
use Rattle.pair_model.specs.Base.{base}

-- where ŵ, r0 and r1 have these digits, the inner shares have those, and add to w modulo 3
abbrev pub Shares : (ŵ r0 r1 s0 s1 w : ℕ) → Type 0
Shares ŵ r0 r1 s0 s1 w =
    (v a b : List ℕ) (j : ℕ) → j < 256 → bit v j ≡ ŵ → trit 32 a j ≡ r0 → trit 32 b j ≡ r1
    → (trit 32 (inner_share 32 0 v a) j ≡ s0) × (trit 32 (inner_share 32 1 v b) j ≡ s1) × ((s0 + s1) % 3 ≡ w)

-- the trits that one source byte gives
abbrev pub trits_of : ℕ → List ℕ
trits_of x = (draw (x ∷ []) 256 4 0).trits

-- any 192 bytes, then n of E4
abbrev pub bytes_e4 : List ℕ → ℕ → List ℕ
bytes_e4 front n = front ++ replicate n 0xE4

pub record TwelveExamples : Type 0 where
  -- key bit 0 alone: w is the label
  pub example1 : (file label : List ℕ) → Bytes 32 label → base.product file (1 ∷ zeros 31) label ≡ label
  -- key bit 1 alone: bit i of w is label bit (i + 1) mod 256
  pub example2 : (file label : List ℕ) (i : ℕ) → i < 256 → bit (base.product file (2 ∷ zeros 31) label) i ≡ bit label ((i + 1) % 256)
  pub example3 : Shares 1 2 2 2 1 0
  pub example4 : Shares 1 1 2 0 1 1
  pub example5 : Shares 0 0 1 0 1 1
  pub example6 : Shares 0 1 2 1 2 0
  pub example7 : trits_of 0xE4 ≡ 0 ∷ 1 ∷ 2 ∷ []
  pub example8 : trits_of 0xFF ≡ []
  -- from pair 0 on; W-201 reports the next pair, in byte 277, in place of 278 bytes
  pub example9 : (front : List ℕ) → length front ≡ 192 → (next_pair base (bytes_e4 front 86) 0 ≡ 1109) × (sample_number base (bytes_e4 front 86) 0 256 ≡ 0)
  pub example10 : (front : List ℕ) → length front ≡ 192 → sample_number base (bytes_e4 front 85) 0 256 ≡ 13
  pub example11 : check (1 ∷ zeros 509) ≡ 1 ∷ 0 ∷ []
  -- its check holds, and a file of such blocks gets 9
  pub example12 : (check_holds (zeros 512) ≡ true) × (check_number 1 (zeros file_bytes) ≡ 9)
