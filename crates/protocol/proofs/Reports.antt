-- What C gets of an answer with a count or a place: that, or 0 where it is refused.
use mathlib.Core.Path.{◌≡◌, sym, ap, subst}
use mathlib.Core.List.{List, []}
use Prim.Native.Nat.{ℕ}
use borrow.Author.Tests.{eq-eqb, ne_eqb}
use lib.ListN.{length}
use Rattle.std.proofs.Common.{Result, Ok, Err}
use Rattle.std.specs.Result.{IfOk, OnErr, result_unwrap_or}
use Rattle.numbers.specs.Number.{reported}
use Rattle.numbers.specs.Refusals.{answer_number}
use Rattle.numbers.specs.declared.refusal.Refusal.{Refusal}
use Rattle.numbers.proofs.Refusals.{refused}

pub is_reported : (r : Result ℕ Refusal) (n : ℕ) {number : ℕ} → IfOk r (λ m. m ≡ n) → number ≡ answer_number r → result_unwrap_or r 0 ≡ reported number n
unfolding reported
is_reported (Ok m) n {number} e h = rw (eq-eqb number 0 h) e
is_reported (Err why) n {number} e h = rw (ne_eqb number 0 (refused why (sym h)))

-- of what a call that is done has written, and a refused one has written nothing
pub is_counted : (r : Result ℕ Refusal) (written : List ℕ) → IfOk r (λ n. n ≡ length written) → OnErr r (written ≡ []) → result_unwrap_or r 0 ≡ length written
is_counted (Ok n) written e z = e
is_counted (Err why) written e z = sym (ap length z)

-- what holds of it where the call is done
pub holds_done : (P : ℕ → Type 0) (r : Result ℕ Refusal) {value number : ℕ} → IfOk r P → number ≡ answer_number r → value ≡ result_unwrap_or r 0 → number ≡ 0 → P value
holds_done P (Ok n) e h v z = subst P (sym v) e
holds_done P (Err why) e h v z = absurd (refused why (sym h) z)
