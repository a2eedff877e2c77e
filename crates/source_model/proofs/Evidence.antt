-- Two draws that follow one another, and samplings for which the theorem fails.
use Prim.Native.Nat.{ℕ, suc, ◌+◌, ◌-◌, ◌/◌, ◌<◌, ◌≤◌}
use mathlib.Core.Path.{◌≡◌, refl, ap, ◌∙◌}
use mathlib.Core.Logic.{◌≢◌}
use mathlib.Core.List.{List, [], ◌∷◌}
use native.Mathlib.Omega.{arith}
use lib.Dec.{lit<, lit≤}
use lib.ListN.{length, get_or}
use Rattle.numbers.specs.Number.{first}
use Rattle.linear_model.specs.Tables.{tabulate, every}
use Rattle.linear_model.specs.Bits.{from_bits, pack}
use Rattle.linear_model.specs.Trits.{pack_trits}
use Rattle.linear_model.proofs.Tables.{same₁}
use Rattle.source_model.specs.Pair.{pair}
use Rattle.source_model.specs.Draw.{Drawn, found, copied, draw, drawn, tape_from, source_conditions, source_number}
use Rattle.source_model.specs.Disjoint.{sampling, Disjoint}
use Rattle.source_model.specs.Evidence.{twice, copies_from_first, DrawEvidence}
use Rattle.source_model.proofs.Conditions.{is_enough}
use Rattle.source_model.proofs.BytesE4.{Many, many_and_one, one-trit}

-- ---- two draws

-- a draw of 256 trits is accepted
accepted : (s : ℕ) → s ≤ 1109 → length (drawn 192 256 twice s).trits ≡ 256 → source_number 192 256 twice s ≡ 0
accepted s h e = is_enough 192 256 twice s (record { counted = lit< tt; copies = omega arith; all = omega arith })

-- the first: 85 bytes E4, and the first pair of one more
first-trits : Many 85 (drawn 192 256 twice 0) (record { trits = 0 ∷ []; next = 1109 })
unfolding drawn every
first-trits = many_and_one twice 85 192 1155 (same₁ 86 (λ i. get_or twice (192 + i) 0) (λ i. 0xE4) tt)

-- the second begins in a zero byte that has three pairs left
three-zeros : drawn 192 256 twice 1109 ≡ found 0 (found 0 (found 0 (draw twice 253 384 1880)))
unfolding drawn pair
three-zeros =
    one-trit twice 255 386 1877 0 refl (lit< tt)
    ∙ ap (found 0) (one-trit twice 254 385 1878 0 refl (lit< tt) ∙ ap (found 0) (one-trit twice 253 384 1879 0 refl (lit< tt)))

-- and goes on with 84 bytes E4 and the first pair of one more
second-trits : Many 84 (draw twice 253 384 1880) (record { trits = 0 ∷ []; next = 2217 })
unfolding every
second-trits = many_and_one twice 84 470 47 (same₁ 85 (λ i. get_or twice (470 + i) 0) (λ i. 0xE4) tt)

-- ---- samplings that read a pair twice

-- lists that begin otherwise are not equal
begins_otherwise : (s t : List ℕ) → get_or s 0 0 ≢ get_or t 0 0 → s ≢ t
begins_otherwise s t n e = n (ap (λ (x : List ℕ). get_or x 0 0) e)

-- the pairs of the first byte depend on no other byte
first-pairs : (x : ℕ) (s t : List ℕ) (k : ℕ) → k < 4 → pair (x ∷ s) k ≡ pair (x ∷ t) k
unfolding pair
first-pairs x s t k l = let e : k / 4 ≡ 0 = omega arith in rw e

-- and the pairs after it not on the first
later_pairs : (x y : ℕ) (s : List ℕ) (k : ℕ) → 4 ≤ k → pair (x ∷ s) k ≡ pair (y ∷ s) k
unfolding pair
later_pairs x y s k l = let e : k / 4 ≡ suc (k / 4 - 1) = omega arith in rw e

-- of bytes FF and 1 the trit is pair 4; a sampling that goes on there fails, since that pair was read
pair_4_again : (next : List ℕ → ℕ → ℕ) → next (0xFF ∷ 1 ∷ []) 0 ≡ 4
    → ¬ Disjoint (record { number = source_number 0 1; tape = tape_from 0 1 1; next = next }) 0 1
unfolding first source_conditions tape_from drawn draw pair copied tabulate pack_trits pack from_bits
pair_4_again next e h =
    begins_otherwise _ _ (λ q. omega arith)
    ((h (0xFF ∷ 1 ∷ []) 0 refl).reads (0xFF ∷ 2 ∷ []) (lit< tt) (omega arith) (λ k a b. first-pairs 0xFF (2 ∷ []) (1 ∷ []) k (omega arith))).tape

-- of bytes 0 and 0 the next pair is 4, and with another first byte another byte is copied
first_byte_again : ¬ Disjoint (copies_from_first 1 (sampling 1 0 0)) 1 0
unfolding first source_conditions drawn draw pair copied tabulate
first_byte_again h =
    begins_otherwise _ _ (λ q. omega arith) ((h (0 ∷ 0 ∷ []) 0 refl).next_reads (1 ∷ 0 ∷ []) refl (later_pairs 1 0 (0 ∷ []))).tape

-- ---- all of it

-- it holds
pub draw_evidence : DrawEvidence
draw_evidence =
    record {
      first = (accepted 0 (lit≤ tt) first-trits.trits, first-trits.next);
      second = (
        accepted 1109 (lit≤ tt) (ap (λ (d : Drawn). length d.trits) three-zeros ∙ omega (arith, second-trits.trits)),
        ap (λ (d : Drawn). d.next) three-zeros ∙ second-trits.next,
      );
      last_pair_again = unfold drawn draw pair in pair_4_again _ refl;
      whole_byte_again = unfold drawn draw pair in pair_4_again _ refl;
      copies_from_first = first_byte_again;
    }
