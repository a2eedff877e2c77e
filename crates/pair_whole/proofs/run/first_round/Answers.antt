-- `pair_whole::run::first_round` meets its contract: the parts of the input are its fields, and those of the deal its frames.
use mathlib.Core.Path.{◌≡◌, refl, sym, ap, ◌∙◌}
use mathlib.Core.List.{List}
use borrow.Author.Tests.{eq-eqb}
use lib.ListN.{length, take, drop, length-drop}
use lib.Seq.{length-take-le}
use Rattle.std.proofs.Common.{Result, Ok, Err}
use Rattle.std.specs.Result.{IsOk}
use Rattle.linear_model.specs.Trits.{fit_trits}
use Rattle.numbers.specs.Number.{first, merge}
use Rattle.numbers.specs.Refusals.{answer_number}
use Rattle.numbers.specs.declared.refusal.Refusal.{Refusal}
use Rattle.numbers.proofs.Numbers.{is_true, denied}
use Rattle.numbers.proofs.Refusals.{refused}
use Rattle.pair_model.specs.Tape.{r0}
use Rattle.pair_model.specs.Dealer.{deal_conditions, deal_number, dealt_bytes}
use Rattle.pair_model.specs.Internal.Exchange.{RunFits}
use Rattle.pair_model.specs.WholeRun.{input_tape}
use Prim.Native.Nat.{ℕ}
use native.Mathlib.Omega.{arith}
use Rattle.numbers.proofs.Sets.{number_in_lem}
use Rattle.pair_model.specs.Scheme.{no_files, side0, side1}
use Rattle.pair_model.specs.Base.{base}
use Rattle.pair_model.specs.Frame.{code_bytes}
use Rattle.pair_model.proofs.Internal.Runs.{tape_is, key_0, key_1, label_0, label_1, file_is}
use Rattle.pair_model.proofs.Internal.Rounds.{deal-accepted, input_deal_0, input_deal_1}
use Rattle.pair_whole.proofs.Sent.{start-accepted, start-sent}
use Rattle.pair_whole.proofs.run.first_round.Goals as goal

-- what the dealer says of the input's tape
dealt_number : (input : List ℕ) (n : ℕ) → RunFits input n → deal_number base no_files (take 256 (drop 128 input)) (dealt_bytes base) ≡ 0
unfolding first merge deal_conditions
dealt_number input n f =
    let tape = input_tape base input in
    let long : length tape ≡ 256 = ap length (sym (tape_is input)) ∙ length-take-le 256 (drop 128 input) (rw length-drop (omega (arith, f.long))) in
    ap (λ (t : List ℕ). deal_number base no_files t (dealt_bytes base)) (tape_is input)
    ∙ rw (eq-eqb (length tape) 256 long, is_true (fit_trits 32 256 (r0 base tape)) (denied (fit_trits 32 256 (r0 base tape)) f.tape))

done : {A : Type 0} (r : Result A Refusal) → answer_number r ≡ 0 → IsOk r
done (Ok x) e = refl
done (Err why) e = absurd (refused why refl e)

pub unwrap-requires : goal.unwrap-requires
unwrap-requires c =
    done c.deal.result (c.deal.ensures.result ∙ number_in_lem 1 _ refl ∙ dealt_number c.args.input.now (code_bytes base) c.requires)

pub slice_bounds-start-end-3 : goal.slice_bounds-start-end-3
slice_bounds-start-end-3 c = sym (length-take-le 167 c.deal.new.out (omega (arith, c.deal.auto.out)))

pub start-first-requires : goal.start-first-requires
start-first-requires c =
    let input = c.args.input.now in
    let small : (i : ℕ) → _ = λ i. (c.type_inv.input i).fits in
    start-accepted 0 (key_0 input) (label_0 input) (input_deal_0 input (code_bytes base) c.requires small _ _ (c.deal.ensures.result ∙ number_in_lem 1 _ refl) c.deal.ensures.output) (file_is input)
    (deal-accepted input (code_bytes base) c.requires small side0)

pub start-second-requires : goal.start-second-requires
start-second-requires c =
    let input = c.args.input.now in
    let small : (i : ℕ) → _ = λ i. (c.type_inv.input i).fits in
    start-accepted 1 (key_1 input) (label_1 input) (input_deal_1 input (code_bytes base) c.requires small _ _ (c.deal.ensures.result ∙ number_in_lem 1 _ refl) c.deal.ensures.output) (file_is input)
    (deal-accepted input (code_bytes base) c.requires small side1)

pub returns : goal.returns
returns c =
    let input = c.args.input.now in
    let small : (i : ℕ) → _ = λ i. (c.type_inv.input i).fits in
    let f0 = input_deal_0 input (code_bytes base) c.requires small _ _ (c.deal.ensures.result ∙ number_in_lem 1 _ refl) c.deal.ensures.output in
    let f1 = input_deal_1 input (code_bytes base) c.requires small _ _ (c.deal.ensures.result ∙ number_in_lem 1 _ refl) c.deal.ensures.output in
    record {
      first = start-sent 0 (key_0 input) (label_0 input) f0 (file_is input) c.start-first.ensures;
      second = start-sent 1 (key_1 input) (label_1 input) f1 (file_is input) c.start-second.ensures;
    }
