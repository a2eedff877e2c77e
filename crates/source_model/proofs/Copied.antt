-- Laws of the copied bytes: their pairs, their bits, and which pairs they do not look at.
use mathlib.Core.Path.{◌≡◌, refl, sym, ap, ◌∙◌}
use mathlib.Core.List.{List}
use Prim.Native.Nat.{ℕ, zero, suc, ◌+◌, ◌-◌, ◌*◌, ◌/◌, ◌%◌, ◌^◌, ◌<◌, ◌≤◌}
use native.Mathlib.Numerals.{add-one}
use native.Mathlib.Nat.{add-zero}
use native.Mathlib.Omega.{arith}
use lib.ListN.{length, get_or, take, drop, length-drop}
use lib.Seq.{length-take-le}
use Rattle.linear_model.specs.Tables.{from}
use Rattle.linear_model.specs.Bits.{Bytes, bit_at, from_bits, bit, byte_of, pack}
use Rattle.linear_model.proofs.Tables.{tabulate_ext}
use Rattle.linear_model.proofs.Copies.{pasted, copied-first, copied_all}
use Rattle.linear_model.proofs.Strings.{bit-at, bit_lt, bit-take, bit-drop, bit-pack, length-pack, bytes_pack, pack_ext, pack_bits, bytes_slice}
use Rattle.source_model.specs.Pair.{pair}
use Rattle.source_model.specs.Draw.{copied_byte, copied}
use Rattle.source_model.specs.Internal.Reading.{pairs}

-- only the pairs that are copied are looked at
pub copied_local : (c : ℕ) (s t : List ℕ) (k : ℕ) → ((j : ℕ) → k ≤ j → j < k + 4 * c → pair t j ≡ pair s j) → copied c t k ≡ copied c s k
unfolding copied
copied_local c s t k same =
    tabulate_ext c (copied_byte t k) (copied_byte s k)
    (λ i l. omega (
      arith,
      same (k + 4 * i + 0) (omega arith) (omega arith),
      same (k + 4 * i + 1) (omega arith) (omega arith),
      same (k + 4 * i + 2) (omega arith) (omega arith),
      same (k + 4 * i + 3) (omega arith) (omega arith),
    ))

-- a copied byte is the number of four pairs
pub copied-pairs : (s : List ℕ) (k i : ℕ) → copied_byte s k i ≡ pairs s (k + 4 * i) 4
unfolding pairs
copied-pairs s k i =
    let e₂ : k + 4 * i + 2 ≡ suc (suc (k + 4 * i)) = omega arith in
    let e₃ : k + 4 * i + 3 ≡ suc (suc (suc (k + 4 * i))) = omega arith in
    rw (add-zero (k + 4 * i), add-one (k + 4 * i), e₂, e₃) (omega arith)

-- a pair is two bits
pub pair_bits : (s : List ℕ) (k : ℕ) → pair s k ≡ bit s (2 * k) + 2 * bit s (2 * k + 1)
unfolding pair
pair_bits s k =
    let q = k % 4 in
    let low : 2 * k ≡ 8 * (k / 4) + 2 * q = omega arith in
    let high : 2 * k + 1 ≡ 8 * (k / 4) + (2 * q + 1) = omega arith in
    two (get_or s (k / 4) 0) q (omega arith)
    ∙ sym ((λ i. bit s (low i) + 2 * bit s (high i)) ∙ (λ i. bit-at s (k / 4) (2 * q) (omega arith) i + 2 * bit-at s (k / 4) (2 * q + 1) (omega arith) i))
  where
    two : (x q : ℕ) → q < 4 → x / 4 ^ q % 4 ≡ bit_at x (2 * q) + 2 * bit_at x (2 * q + 1)
    two x zero h = omega arith
    two x (suc zero) h = omega arith
    two x (suc (suc zero)) h = omega arith
    two x (suc (suc (suc zero))) h = omega arith
    two x (suc (suc (suc (suc q)))) h = absurd (omega arith)

-- copied byte i has the source's bits from bit 2k + 8i on
pub copied_byte_lem : (s : List ℕ) (k i : ℕ) → copied_byte s k i ≡ byte_of (from (2 * k) (bit s)) i
unfolding from_bits
copied_byte_lem s k i = omega (arith, two 0, two 1, two 2, two 3)
  where
    two : (m : ℕ) → pair s (k + 4 * i + m) ≡ bit s (2 * k + (8 * i + 2 * m)) + 2 * bit s (2 * k + (8 * i + (2 * m + 1)))
    two m =
        let low : 2 * (k + 4 * i + m) ≡ 2 * k + (8 * i + 2 * m) = omega arith in
        let high : 2 * (k + 4 * i + m) + 1 ≡ 2 * k + (8 * i + (2 * m + 1)) = omega arith in
        pair_bits s (k + 4 * i + m) ∙ (λ j. bit s (low j) + 2 * bit s (high j))

-- so they are the string of these bits
pub copied-pack : (c : ℕ) (s : List ℕ) (k : ℕ) → copied c s k ≡ pack c (from (2 * k) (bit s))
unfolding copied pack
copied-pack c s k = tabulate_ext c (copied_byte s k) (byte_of (from (2 * k) (bit s))) (λ i l. copied_byte_lem s k i)

-- bit j of them is the source's bit 2k + j
pub bit-copied : (c : ℕ) (s : List ℕ) (k j : ℕ) → j < 8 * c → bit (copied c s k) j ≡ bit s (2 * k + j)
bit-copied c s k j l = ap (λ (x : List ℕ). bit x j) (copied-pack c s k) ∙ bit-pack c (from (2 * k) (bit s)) (λ i. bit_lt s (2 * k + i)) j l

pub length-copied : (c : ℕ) (s : List ℕ) (k : ℕ) → length (copied c s k) ≡ c
length-copied c s k = ap length (copied-pack c s k) ∙ length-pack c (from (2 * k) (bit s))

pub bytes_copied : (c : ℕ) (s : List ℕ) (k : ℕ) → Bytes c (copied c s k)
bytes_copied c s k = rw (copied-pack c s k) (bytes_pack c (from (2 * k) (bit s)) (λ i. bit_lt s (2 * k + i)))

-- from the first pair of a byte on they are the source's bytes
pub copied_whole : (c : ℕ) (s : List ℕ) (b : ℕ) → ((i : ℕ) → get_or s i 0 < 256) → b + c ≤ length s → copied c s (4 * b) ≡ take c (drop b s)
copied_whole c s b small h =
    copied-pack c s (4 * b)
    ∙ pack_ext c (from (2 * (4 * b)) (bit s)) (bit (take c (drop b s)))
    (λ j l. let e : 2 * (4 * b) + j ≡ 8 * b + j = omega arith in ap (bit s) e ∙ sym (bit-drop b s j) ∙ sym (bit-take c (drop b s) j l))
    ∙ pack_bits c (take c (drop b s)) (bytes_slice (length s) b c s (record { size = refl; small = small }) h)

-- so a copy of them fills a string
pub copied_put : (s d o : List ℕ) (k n : ℕ) → ((i : ℕ) → get_or s i 0 < 256) → k % 4 ≡ 0 → n ≡ length d → k / 4 + n ≤ length s
    → o ≡ pasted 0 (take (k / 4 + n - k / 4) (drop (k / 4) s)) d → o ≡ copied (length d) s k
copied_put s d o k n small z e h q =
    let b = k / 4 in
    let m : b + n - b ≡ length d = omega arith in
    let long : length (take (length d) (drop b s)) ≡ length d = length-take-le (length d) (drop b s) (rw length-drop (omega arith)) in
    let whole = copied-first {d = d} (take (length d) (drop b s)) o (omega arith) (q ∙ ap (λ (x : ℕ). pasted 0 (take x (drop b s)) d) m) in
    copied_all (take (length d) (drop b s)) o whole (omega arith) ∙ sym (copied_whole (length d) s b small (omega arith)) ∙ ap (copied (length d) s) (omega arith)
