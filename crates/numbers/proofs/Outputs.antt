-- What a call that decides a number and then writes must show: at a refusal, and when done.
use mathlib.Core.Path.{◌≡◌, ap, ◌∙◌}
use mathlib.Core.List.{List, ◌++◌, append-nil}
use Prim.Native.Nat.{ℕ, ◌≤◌}
use borrow.Author.Tests.{eq-eqb, ne_eqb}
use lib.ListN.{length, drop, drop_of_length-le}
use Rattle.numbers.specs.Number.{output}

-- an output slice after a refusal, and after success
pub output-refused : (r : ℕ) (bytes old : List ℕ) → (r ≡ 0 → ⊥) → old ≡ output r bytes old
unfolding output
output-refused r bytes old z = rw (ne_eqb r 0 z)

pub output-done : (r : ℕ) (bytes old : List ℕ) → r ≡ 0 → bytes ++ drop (length bytes) old ≡ output r bytes old
unfolding output
output-done r bytes old z = rw (eq-eqb r 0 z)

-- where the bytes fill the slice
pub output_whole : (bytes old : List ℕ) → length old ≤ length bytes → output 0 bytes old ≡ bytes
unfolding output
output_whole bytes old h = ap (λ (x : List ℕ). bytes ++ x) (drop_of_length-le old h) ∙ append-nil bytes

module _ {r n : ℕ} {P : Type 0} (bytes old : List ℕ) (e : r ≡ n) where
  -- a refusal leaves all, and owes nothing of what success gives
  pub refusal : (r ≡ 0 → ⊥) → (r ≡ n) × ((old ≡ output n bytes old) × (r ≡ 0 → P))
  unfolding output
  refusal z = (e, (rw (← e) (output-refused r bytes old z), λ q. absurd (z q)))

  -- success leaves what is past the bytes written
  pub success : {new : List ℕ} → r ≡ 0 → new ≡ bytes ++ drop (length bytes) old → P → (r ≡ n) × ((new ≡ output n bytes old) × (r ≡ 0 → P))
  unfolding output
  success z w p = (e, (w ∙ rw (← e) (output-done r bytes old z), λ q. p))
