-- What shows that the theorem on draws is neither empty nor too weak.
use Rattle.std.specs.Prelude.{ℕ, ◌-◌, ◌*◌, ◌/◌, ◌≡◌, List, ◌++◌, replicate}
use Rattle.linear_model.specs.Bits.{zeros}
use Rattle.source_model.specs.Draw.{drawn, source_number, copied}
use Rattle.source_model.specs.Disjoint.{Sampling, sampling, Disjoint}

-- 192 zero bytes and 86 of E4, the same again, and ten bytes E4 more
abbrev pub twice : List ℕ
twice = zeros 192 ++ replicate 86 0xE4 ++ zeros 192 ++ replicate 96 0xE4

-- goes on at the pair of the last trit
abbrev pub last_pair_again : Sampling → Sampling
last_pair_again A = record { number = A.number; tape = A.tape; next = λ source s. A.next source s - 1 }

-- goes on at the beginning of the byte of the next pair
abbrev pub whole_byte_again : Sampling → Sampling
whole_byte_again A = record { number = A.number; tape = A.tape; next = λ source s. 4 * (A.next source s / 4) }

-- copies from the first pair on whatever the start
abbrev pub copies_from_first : ℕ → Sampling → Sampling
copies_from_first c A = record { number = A.number; tape = λ source s. copied c source 0; next = A.next }

pub record DrawEvidence : Type 0 where
  -- a draw is accepted, and so is the one that goes on where it ended
  pub first : (source_number 192 256 twice 0 ≡ 0) × ((drawn 192 256 twice 0).next ≡ 1109)
  pub second : (source_number 192 256 twice 1109 ≡ 0) × ((drawn 192 256 twice 1109).next ≡ 2217)
  -- samplings that read a pair twice do not pass, for these numbers of copied bytes and trits
  pub last_pair_again : ¬ Disjoint (last_pair_again (sampling 0 1 1)) 0 1
  pub whole_byte_again : ¬ Disjoint (whole_byte_again (sampling 0 1 1)) 0 1
  pub copies_from_first : ¬ Disjoint (copies_from_first 1 (sampling 1 0 0)) 1 0
