-- Laws of `u64::from_le_bytes` and `to_le_bytes`: eight bytes of a string as one number, and a number stored as eight bytes.
use mathlib.Core.Path.{◌≡◌, refl, sym, ap, ◌∙◌}
use mathlib.Core.List.{List}
use Prim.Native.Nat.{ℕ, zero, suc, ◌+◌, ◌*◌, ◌^◌, ◌<◌, ◌≤◌}
use native.Mathlib.Nat.{add-zero}
use native.Mathlib.Omega.{arith}
use lib.ListN.{length, get_or}
use lib.Seq.{paste, paste-zero}
use Rattle.std.specs.Int.{w64, to_le_bytes, bytes_low_first}
use Rattle.std.proofs.lemmas.Nat.{from_le_bytes-to_le_bytes_8}
use Rattle.linear_model.specs.Tables.{from}
use Rattle.linear_model.specs.Bits.{from_bits, bit}
use Rattle.linear_model.specs.Internal.Words.{set_word}
use Rattle.linear_model.proofs.WordBytes.{value, value_is}
use Rattle.linear_model.proofs.Internal.Stores.{paste_word}

same_byte : (s : List ℕ) (k : ℕ) {y j : ℕ} → y ≡ get_or s j 0 → j ≡ k → get_or s k 0 ≡ y
same_byte s k p q = sym (p ∙ ap (λ (n : ℕ). get_or s n 0) q)

-- eight bytes of a string are its bits there
pub eight_bytes : (s : List ℕ) (i x : ℕ) {b c d e f g h : ℕ} → ((k : ℕ) → get_or s k 0 < 256) → b ≡ get_or s (i + 1) 0 → c ≡ get_or s (i + 2) 0 → d ≡ get_or s (i + 3) 0
    → e ≡ get_or s (i + 4) 0 → f ≡ get_or s (i + 5) 0 → g ≡ get_or s (i + 6) 0 → h ≡ get_or s (i + 7) 0
    → x ≡ get_or s i 0 + b * 256 + c * 65536 + d * 16777216 + e * 4294967296 + f * 1099511627776 + g * 281474976710656 + h * 72057594037927936
    → x ≡ from_bits 64 (from (8 * i) (bit s))
unfolding value
eight_bytes s i x small pb pc pd pe pf pg ph px =
    rw (value_is s small 8 i, same_byte s (suc i) pb (omega arith), same_byte s (suc (suc i)) pc (omega arith), same_byte s (suc (suc (suc i))) pd (omega arith), same_byte s (suc (suc (suc (suc i)))) pe (omega arith), same_byte s (suc (suc (suc (suc (suc i))))) pf (omega arith), same_byte s (suc (suc (suc (suc (suc (suc i)))))) pg (omega arith), same_byte s (suc (suc (suc (suc (suc (suc (suc i))))))) ph (omega arith)) (omega arith)

-- each element is a byte
small : (i k n j : ℕ) → get_or (bytes_low_first i k n) j 0 < 256
small i zero n j = omega arith
small zero (suc k) n zero = omega arith
small (suc i) (suc k) n zero = omega arith
small i (suc k) n (suc j) = small (suc i) k n j

-- the bytes of a number, copied to place i
pub stored_bytes : (o : List ℕ) (i x : ℕ) → x < 2 ^ 64 → i + 8 ≤ length o → paste o i (to_le_bytes w64 x) 8 ≡ set_word o i x
stored_bytes o i x l h =
    let s = to_le_bytes w64 x in
    let is : x ≡ from_bits 64 (from (8 * 0) (bit s)) = eight_bytes s 0 x (small 0 8 x) refl refl refl refl refl refl refl (sym (from_le_bytes-to_le_bytes_8 x l)) in
    sym (ap (λ (t : List ℕ). set_word t i x) (paste-zero o i s) ∙ ap (λ (n : ℕ). set_word (paste o i s 0) n x) (sym (add-zero i))
    ∙ paste_word o i s h 0 x (small 0 8 x) (omega arith) is)
