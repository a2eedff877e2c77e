-- The twelve examples of document 01 hold.
use Prim.Native.Nat.{ℕ, ◌+◌, ◌-◌, ◌*◌, ◌%◌, ◌<◌}
use mathlib.Core.Path.{◌≡◌, refl, sym, ap, ap₂, ◌∙◌}
use mathlib.Core.Logic.{◌≢◌}
use mathlib.Core.List.{List, [], ◌∷◌}
use mathlib.Core.Bool.{Bool, true, false, cond}
use native.Mathlib.Omega.{arith}
use lib.Dec.{T, ltb, eqb, eqb→eq, lit<}
use lib.ListN.{length, get_or, replicate, get_or-replicate, length-append, length-replicate}
use lib.Seq.{get_or-append-add}
use Rattle.linear_model.specs.Bits.{Bytes, zeros, bit}
use Rattle.linear_model.specs.Tables.{sum}
use Rattle.linear_model.specs.Products.{bit_term, bit_row, bit_product, circulant, circulant_product}
use Rattle.linear_model.proofs.Sums.{sum_one, term_zero}
use Rattle.linear_model.proofs.Strings.{bit_lt, pack_ext, pack_bits}
use Rattle.linear_model.proofs.Linearity.{bit_product_lem, trit-inner}
use Rattle.numbers.proofs.Numbers.{first_pass}
use Rattle.matrix_model.proofs.Examples.{example_11, example_12}
use Rattle.source_model.specs.Pair.{pair}
use Rattle.source_model.specs.Draw.{draw, drawn}
use Rattle.source_model.proofs.Conditions.{is_enough, too_few}
use Rattle.source_model.proofs.BytesE4.{Many, many, many_and_one}
use Rattle.pair_model.specs.Sampler.{sample_conditions, sample_number, next_pair}
use Rattle.pair_model.specs.Base.{base}
use Rattle.pair_model.specs.Examples.{Shares, trits_of, bytes_e4, TwelveExamples}

-- ---- 1 and 2: a key of one bit moves the label

-- a key that has bit k, and, by one computed sum, no other
pub record OneBit (key : List ℕ) (k : ℕ) : Type 0 where
  pub place : k < 256
  pub one : bit key k ≡ 1
  pub others : sum 256 (λ p. cond (eqb p k) 0 (bit key p)) ≡ 0

module _ (key : List ℕ) (k : ℕ) (h : OneBit key k) where
  alone : (p : ℕ) → p < 256 → p ≢ k → bit key p ≡ 0
  alone p l n = pick (eqb p k) (λ t. n (eqb→eq p k t)) (term_zero 256 (λ p. cond (eqb p k) 0 (bit key p)) h.others p l)
    where
      pick : (b : Bool) → (T b → ⊥) → cond b 0 (bit key p) ≡ 0 → bit key p ≡ 0
      pick true n e = absurd (n tt)
      pick false n e = e

  row : (x : List ℕ) (i : ℕ) → i < 256 → bit_row 32 (circulant 32 key) x i ≡ bit x ((i + k) % 256)
  row x i li =
      ap (λ (s : ℕ). s % 2)
      (sum_one 256 (bit_term (circulant 32 key) x i) ((i + k) % 256) (omega arith)
      (λ j l n. ap (λ (c : ℕ). c * bit x j) (alone ((j + 256 - i) % 256) (omega arith) (omega (arith, h.place))) ∙ omega arith))
      ∙ ap (λ (c : ℕ). c * bit x ((i + k) % 256) % 2) (ap (bit key) (omega (arith, h.place)) ∙ h.one)
      ∙ omega (arith, bit_lt x ((i + k) % 256))

  -- bit i of the product is label bit (i + k) mod 256
  moves : (x : List ℕ) (i : ℕ) → i < 256 → bit (circulant_product 32 key x) i ≡ bit x ((i + k) % 256)
  moves x i l = bit_product_lem 32 32 (circulant 32 key) x i l ∙ row x i l

  pub keeps : k ≡ 0 → (x : List ℕ) → Bytes 32 x → circulant_product 32 key x ≡ x
  unfolding bit_product
  keeps e x b = pack_ext 32 (bit_row 32 (circulant 32 key) x) (bit x) (λ i l. row x i l ∙ ap (bit x) (omega arith)) ∙ pack_bits 32 x b

pub bit0 : OneBit (1 ∷ zeros 31) 0
unfolding bit sum
bit0 = record { place = lit< tt; one = refl; others = refl }

bit1 : OneBit (2 ∷ zeros 31) 1
unfolding bit sum
bit1 = record { place = lit< tt; one = refl; others = refl }

-- ---- 3 to 6: digits of the inner shares

shares : (ŵ r0 r1 : ℕ) → Shares ŵ r0 r1 ((r0 + ŵ * r0 + ŵ) % 3) ((r1 + ŵ * r1 + 0) % 3) (((r0 + ŵ * r0 + ŵ) % 3 + (r1 + ŵ * r1 + 0) % 3) % 3)
shares ŵ r0 r1 v a b j l e p q =
    (trit-inner 32 0 v a j l ∙ (λ i. (p i + e i * p i + e i) % 3), trit-inner 32 1 v b j l ∙ (λ i. (q i + e i * q i + 0) % 3), refl)

-- ---- 7 to 10: the sampler

one_byte_E4 : trits_of 0xE4 ≡ 0 ∷ 1 ∷ 2 ∷ []
unfolding draw pair
one_byte_E4 = refl

one_byte_FF : trits_of 0xFF ≡ []
unfolding draw pair
one_byte_FF = refl

module _ (front : List ℕ) (h : length front ≡ 192) where
  byte_at : (n i : ℕ) → i < n → get_or (bytes_e4 front n) (192 + i) 0 ≡ 0xE4
  byte_at n i l =
      ap (λ (k : ℕ). get_or (bytes_e4 front n) (k + i) 0) (sym h) ∙ get_or-append-add front (replicate n 0xE4) i 0 ∙ get_or-replicate n i 0xE4 0 l

  long : (n : ℕ) → length (bytes_e4 front n) ≡ 192 + n
  long n = length-append front (replicate n 0xE4) ∙ ap₂ (λ (x y : ℕ). x + y) h (length-replicate n 0xE4)

  -- 85 of 86 bytes and one pair more give all trits
  drawn_86 : Many 85 (drawn 192 256 (bytes_e4 front 86) 0) (record { trits = 0 ∷ []; next = 1109 })
  unfolding drawn
  drawn_86 = rw (long 86) (many_and_one (bytes_e4 front 86) 85 192 3 (byte_at 86))

  -- after 85 of 85 bytes one trit is wanted, and no pair is left
  drawn_85 : Many 85 (drawn 192 256 (bytes_e4 front 85) 0) (record { trits = []; next = 1108 })
  unfolding drawn draw
  drawn_85 = rw (long 85) (many (bytes_e4 front 85) 85 192 0 0 (byte_at 85))

  -- the next pair after 86 bytes
  next_1109 : next_pair base (bytes_e4 front 86) 0 ≡ 1109
  unfolding next_pair
  next_1109 = drawn_86.next

  -- with 86 bytes the source is enough, and with 85 it has too few trits
  number_0 : sample_number base (bytes_e4 front 86) 0 256 ≡ 0
  unfolding sample_conditions
  number_0 =
      first_pass 1 (ltb 256 256) _ refl
      ∙ is_enough 192 256 (bytes_e4 front 86) 0
      (record { counted = omega (arith, long 86); copies = omega (arith, long 86); all = omega (arith, drawn_86.trits) })

  number_13 : sample_number base (bytes_e4 front 85) 0 256 ≡ 13
  unfolding sample_conditions
  number_13 = first_pass 1 (ltb 256 256) _ refl ∙ too_few 192 256 (bytes_e4 front 85) 0 (omega (arith, drawn_85.trits))

-- ---- all twelve

-- they hold
pub twelve_examples : TwelveExamples
twelve_examples =
    record {
      example1 = λ file. keeps (1 ∷ zeros 31) 0 bit0 refl;
      example2 = λ file. moves (2 ∷ zeros 31) 1 bit1;
      example3 = shares 1 2 2;
      example4 = shares 1 1 2;
      example5 = shares 0 0 1;
      example6 = shares 0 1 2;
      example7 = one_byte_E4;
      example8 = one_byte_FF;
      example9 = λ front h. (next_1109 front h, number_0 front h);
      example10 = number_13;
      example11 = example_11;
      example12 = example_12;
    }
