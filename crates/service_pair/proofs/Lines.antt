-- Laws of what is printed: the line of a number, of the digits that `itoa` writes, and the line of a code behind it.
use mathlib.Core.Path.{◌≡◌, refl, sym, ap, ◌∙◌}
use mathlib.Core.Logic.{◌≢◌}
use mathlib.Core.List.{List, [], ◌∷◌, ◌++◌, append_assoc, append-nil}
use Prim.Native.Nat.{ℕ, zero, suc, ◌+◌, ◌/◌, ◌%◌, ◌^◌, ◌<◌, ◌≤◌}
use borrow.Author.Tests.{lt-ltb, le-ltb, eq-eqb, ne_eqb}
use native.Mathlib.Omega.{arith}
use lib.ListN.{length, length-append}
use Rattle.std.specs.Fmt.{decimal as std_decimal}
use Rattle.std.proofs.Common.{add-one}
use Rattle.std.proofs.lemmas.Fmt.{decimal_by_steps, length-decimal-le}
use Rattle.linear_model.specs.Tables.{tabulate}
use Rattle.linear_model.specs.Bits.{zeros}
use Rattle.linear_model.specs.Products.{plane_bytes, matrix_product}
use Rattle.linear_model.proofs.Copies.{copied_all}
use Rattle.linear_model.proofs.Tables.{length-tabulate}
use Rattle.linear_model.proofs.Vectors.{length-pack_trits}
use Rattle.numbers.specs.Number.{output}
use Rattle.numbers.proofs.Outputs.{output-done}
use Rattle.pair_model.specs.Base.{base}
use Rattle.pair_model.specs.Evaluator.{code_of, code}
use Rattle.pair_model.specs.Frame.{code_bytes}
use Rattle.pair_model.specs.WholeRun.{run_number, run_code}
use Rattle.service_pair.specs.Printed.{last_places, decimal, result_word, line_feed, result_line, digit, code_line, printed}

-- digits are the last ones of a number, for any number of places that is above it
abbrev LastPlaces : ℕ → List ℕ → Type 0
LastPlaces number ds = (k : ℕ) → number < k → ds ≡ last_places k number

one_place : (n : ℕ) → n < 10 → LastPlaces n ((48 + n) ∷ [])
unfolding last_places
one_place n h zero l = absurd (omega arith)
one_place n h (suc k) l = let small : n % 10 ≡ n = omega arith in simp (lt-ltb n 10 h, small)

more_places : (n : ℕ) (ds : List ℕ) → 10 ≤ n → LastPlaces (n / 10) ds → LastPlaces n (ds ++ ((48 + n % 10) ∷ []))
unfolding last_places
more_places n ds h e zero l = absurd (omega arith)
more_places n ds h e (suc k) l = simp (le-ltb n 10 h) (ap (λ (t : List ℕ). t ++ ((48 + n % 10) ∷ [])) (e k (omega arith)))

-- the decimal digits of the library are those of a line
same_decimal : {number : ℕ} → number < 2 ^ 32 → std_decimal number ≡ decimal number
same_decimal {number} h = decimal_by_steps LastPlaces one_place more_places number (omega arith) (suc number) (omega arith)

-- a list with one element more
pub tabulate_push : (n : ℕ) (f : ℕ → ℕ) → tabulate (n + 1) f ≡ tabulate n f ++ (f n ∷ [])
unfolding tabulate
tabulate_push n f = rw add-one (pushed n f)
  where
    pushed : (n : ℕ) (f : ℕ → ℕ) → tabulate (suc n) f ≡ tabulate n f ++ (f n ∷ [])
    pushed zero f = refl
    pushed (suc n) f = ap (λ (t : List ℕ). f 0 ∷ t) (pushed n (λ i. f (suc i)))

-- the three parts of a line, one after the other
pub line_is : {number : ℕ} (text o : List ℕ) → number < 2 ^ 32 → o ≡ ((text ++ result_word) ++ std_decimal number) ++ line_feed → o ≡ text ++ result_line number
unfolding result_line
line_is {number} text o h e =
    let d : std_decimal number ≡ decimal number = same_decimal h in
    e ∙ (λ i. ((text ++ result_word) ++ d i) ++ line_feed) ∙ simp append_assoc

-- which has at most 18 bytes
pub line_short : {number : ℕ} → number < 2 ^ 32 → length (result_line number) ≤ 18
unfolding result_line
line_short {number} h =
    let d : std_decimal number ≡ decimal number = same_decimal h in
    omega (arith, length-append (decimal number) line_feed, ap length d, length-decimal-le 10 number (omega arith) (omega arith) (omega arith))

-- the line of a code has a byte for each digit, and one more
pub code_line_long : (s : List ℕ) → length (code_line s) ≡ base.digits + 1
unfolding code_line
code_line_long s = length-append (tabulate base.digits (digit s)) line_feed ∙ ap (λ (n : ℕ). n + 1) (length-tabulate base.digits (digit s))

module _ (input : List ℕ) {number : ℕ} (e : number ≡ run_number input (code_bytes base)) where
  -- for a refusal the line of its number is all
  pub refused : number ≢ 0 → result_line number ≡ printed input
  unfolding printed
  refused z = rw (← e, ne_eqb number 0 z, append-nil)

  -- the code fills the slice that it is written to
  code_is : {s : List ℕ} → number ≡ 0 → s ≡ output number (run_code base input) (zeros (code_bytes base)) → s ≡ run_code base input
  unfolding run_code code code_of matrix_product
  code_is {s} z p =
      let l : length (run_code base input) ≡ code_bytes base = length-pack_trits (plane_bytes base.digits) _ in
      copied_all {d = zeros (code_bytes base)} (run_code base input) s (record { within = omega arith; is = p ∙ sym (output-done number _ _ z) }) (omega arith)

  -- for 0 the line of the code stands behind it
  pub done : {s : List ℕ} → number ≡ 0 → s ≡ output number (run_code base input) (zeros (code_bytes base)) → result_line number ++ code_line s ≡ printed input
  unfolding printed
  done z p = rw (← e, eq-eqb number 0 z, code_is z p)
