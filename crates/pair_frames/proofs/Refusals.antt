-- What a call leaves that `?` ends, and its number where it names no set.
use mathlib.Core.Path.{◌≡◌, sym, ap, ◌∙◌}
use mathlib.Core.List.{List}
use mathlib.Core.Bool.{false}
use Prim.Native.Nat.{ℕ}
use Rattle.std.specs.Prelude.{Result}
use Rattle.std.specs.Result.{IsErr, IsErrAnd}
use Rattle.numbers.specs.Number.{Condition, output}
use Rattle.numbers.specs.Sets.{is_set, number_in}
use Rattle.numbers.specs.Refusals.{number_of, answer_number}
use Rattle.numbers.specs.declared.refusal.Refusal.{Refusal}
use Rattle.numbers.specs.declared.refusal.Refusal.TheVariants.{NoSet}
use Rattle.numbers.proofs.Sets.{number-none}
use Rattle.numbers.proofs.Outputs.{output-refused}
pub use Rattle.numbers.proofs.Refusals.{refused, passed_on}

module _ {A : Type 0} (r : Result A Refusal) (e : Refusal) (h : IsErr r × IsErrAnd r (λ d. d ≡ e)) where
  -- an output slice stays as it was
  pub output_kept : (bytes old : List ℕ) → old ≡ output (answer_number r) bytes old
  output_kept bytes old = output-refused (answer_number r) bytes old (λ z. refused e (sym (passed_on r e h)) z)

  -- a call that names no set is refused before all else
  pub none_named : (set : ℕ) → (is_set set ≡ false) × (e ≡ NoSet) → (cs : List Condition) → answer_number r ≡ number_in set cs
  none_named set n cs = passed_on r e h ∙ ap number_of n.1 ∙ sym (number-none set cs n.0)
