-- Demand 3, for every scheme with a product that is linear on both sides, among them the circulant ones and those of the sets.
use Prim.Native.Nat.{ℕ, ◌/◌}
use mathlib.Core.Path.{ap}
use Rattle.linear_model.proofs.Linearity.{circulant_bilinear}
use Rattle.numbers.specs.Sets.{set_bits, set_digits}
use Rattle.matrix_model.specs.File.{layout_of}
use Rattle.pair_model.specs.Scheme.{Scheme, Linear}
use Rattle.pair_model.specs.Base.{Format, circulant_scheme, block_format, scheme_of}
use Rattle.pair_model.specs.Run.{protocol}
use Rattle.pair_model.specs.Unit.{Beginning}
use Rattle.pair_model.specs.Theorem.{Privacy, Begins, Demand3}
use Rattle.pair_model.proofs.Theorem.Pairing.{pairing, paired_tape, paired_accepted, kept}
use Rattle.pair_model.proofs.Theorem.MaskLaws.{in_common}
use Rattle.pair_model.proofs.Theorem.Configurations.{begins_as}
use Rattle.pair_model.proofs.Theorem.Correct.{correct}
use Rattle.pair_model.proofs.Theorem.Private.{same_view_lem}
use Rattle.pair_model.proofs.Theorem.Counting.{three-frames}

-- the tapes are paired by `paired_tape`
unfoldable pub private : (S : Scheme) → Linear S → Privacy (protocol S)
unfolding pairing
private S L fixed a b well₁ well₂ g =
    record {
      pairing = pairing S fixed a b;
      same_view =
          λ tape h.
          let u = paired_tape S fixed a b tape in
          same_view_lem S fixed a b tape u (in_common S L fixed a b tape u g (kept S fixed a b tape h)) L well₁ well₂ h
          (paired_accepted S fixed a b tape h);
    }

-- demand 3, whole
pub demand3 : (S : Scheme) → Linear S → Demand3 (protocol S)
demand3 S L =
    record {
      correctness = λ run well h. correct S L run.inputs run.tape well h;
      privacy = private S L;
      three_frames = three-frames S;
    }

-- the beginnings by themselves
pub begins : (S : Scheme) → Begins (protocol S)
begins S a well i = ap (λ (b : Beginning). b.result) (begins_as S a well i)

-- the circulant product is linear on both sides
pub circulant_linear : (set n t : ℕ) (F : Format) → Linear (circulant_scheme set n t F)
circulant_linear set n t F = record { bilinear = λ content. circulant_bilinear n }

-- so demand 3 holds at every number of bytes and digits, whatever a matrix file is
pub circulant_demand3 : (set n t : ℕ) (F : Format) → Demand3 (protocol (circulant_scheme set n t F))
circulant_demand3 set n t F = demand3 (circulant_scheme set n t F) (circulant_linear set n t F)

-- of which sets are instances
pub set_linear : (set : ℕ) → Linear (scheme_of set)
set_linear set = circulant_linear set (set_bits set / 8) (set_digits set) (block_format (layout_of set))

pub set_demand3 : (set : ℕ) → Demand3 (protocol (scheme_of set))
set_demand3 set = circulant_demand3 set (set_bits set / 8) (set_digits set) (block_format (layout_of set))
