-- `linear_rotations::rotations::store` meets its contract. The invariant of its loop: i words are stored.
use Prim.Native.Nat.{ℕ, ◌*◌}
use Rattle.linear_model.specs.Bits.{byte_of}
use Rattle.linear_model.specs.Internal.Rotations.{Bits, Words}
use Rattle.linear_model.proofs.Filling.{Filling}
use Rattle.linear_rotations.proofs.rotations.store.Given as goal

abbrev pub invariant-loop-i : goal.invariant-loop-i
invariant-loop-i l = (f : ℕ → ℕ) → Bits f → Words f l.w l.acc → Filling (byte_of f) (8 * l.i) l.initial.out l.out
