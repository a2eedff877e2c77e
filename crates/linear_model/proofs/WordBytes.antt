-- Laws of the bytes of a word: those of a string that it holds, and those that a mask keeps.
use mathlib.Core.Path.{◌≡◌, refl, sym, ap, ◌∙◌}
use mathlib.Core.List.{List}
use Prim.Native.Nat.{ℕ, zero, suc, ◌+◌, ◌*◌, ◌<◌}
use native.Mathlib.Omega.{arith}
use lib.Bits.{bit_and, and_block, and_mask, and_zero_r}
use lib.ListN.{get_or}
use Rattle.linear_model.specs.Tables.{from}
use Rattle.linear_model.specs.Bits.{from_bits, bit}
use Rattle.linear_model.proofs.NumberBits.{from_bits_ext, from_bits_of}
use Rattle.linear_model.proofs.Strings.{bit-at}
use Rattle.linear_model.proofs.WordBits.{from_bits_add}

-- k bytes of a string from place i on as one number, lowest byte first
unfoldable pub value : List ℕ → ℕ → ℕ → ℕ
value s i zero = 0
value s i (suc k) = get_or s i 0 + 256 * value s (suc i) k

-- that is the number of their bits
pub value_is : (s : List ℕ) → ((i : ℕ) → get_or s i 0 < 256) → (k i : ℕ) → from_bits (8 * k) (from (8 * i) (bit s)) ≡ value s i k
unfolding value from_bits
value_is s small zero i = refl
value_is s small (suc k) i =
    let f = from (8 * i) (bit s) in
    let byte : get_or s i 0 ≡ from_bits 8 f = from_bits_of 8 (get_or s i 0) f (small i) (λ j l. sym (bit-at s i j l)) in
    let rest : from_bits (8 * k) (from 8 f) ≡ value s (suc i) k =
    from_bits_ext (8 * k) (from 8 f) (from (8 * suc i) (bit s)) (λ j _. ap (bit s) (omega arith)) ∙ value_is s small k (suc i)
    in
    let long : 8 * suc k ≡ 8 + 8 * k = omega arith in
    ap (λ (n : ℕ). from_bits n f) long ∙ from_bits_add 8 (8 * k) f ∙ rw (rest, ← byte) (omega arith)

-- a mask of every second byte, byte by byte
and_lane : (a b y m : ℕ) → a < 256 → b < 256 → bit_and (a + 256 * (b + 256 * y)) (0xff + 0x10000 * m) ≡ a + 0x10000 * bit_and y m
and_lane a b y m ha hb =
    let r = a + 256 * b in
    let low : bit_and r 0xff ≡ a = and_mask r 8 ∙ omega arith in
    let x : a + 256 * (b + 256 * y) ≡ y * 0x10000 + r = omega arith in
    let k : 0xff + 0x10000 * m ≡ m * 0x10000 + 0xff = omega arith in
    rw (x, k, and_block 16 y m r 0xff (omega arith) (omega arith), low) (omega arith)

-- every second byte of eight, in lanes of 16 bits
pub and_lanes : {a b c d e f g h : ℕ} → a < 256 → b < 256 → c < 256 → d < 256 → e < 256 → f < 256 → g < 256 → h < 256
    → bit_and (a + 256 * (b + 256 * (c + 256 * (d + 256 * (e + 256 * (f + 256 * (g + 256 * (h + 256 * 0)))))))) 0x00ff00ff00ff00ff
    ≡ a + 0x10000 * (c + 0x10000 * (e + 0x10000 * g))
and_lanes {a} {b} {c} {d} {e} {f} {g} {h} ha hb hc hd he hf hg hh =
    and_lane a b _ 0x00ff00ff00ff ha hb
    ∙ ap (λ (y : ℕ). a + 0x10000 * y) (and_lane c d _ 0x00ff00ff hc hd
    ∙ ap (λ (y : ℕ). c + 0x10000 * y) (and_lane e f _ 0xff he hf
    ∙ ap (λ (y : ℕ). e + 0x10000 * y) (and_lane g h 0 0 hg hh ∙ rw (and_zero_r 0) (omega arith))))
