-- `protocol::units::step_state` meets its contract: the step is that of the slice's set.
use mathlib.Core.Path.{◌≡◌, sym, ap, ◌∙◌}
use mathlib.Core.List.{List, []}
use mathlib.Core.Bool.{cond}
use Prim.Native.Nat.{ℕ}
use lib.Dec.{eqb}
use lib.ListN.{length, get_or}
use Rattle.std.proofs.Common.{Result, Ok, Err}
use Rattle.std.specs.Result.{IfOk, OnErr}
use Rattle.std.proofs.lemmas.Result.{IfOk-weaker}
use Rattle.numbers.specs.Number.{at_front}
use Rattle.numbers.specs.Refusals.{answer_number}
use Rattle.numbers.specs.Sets.{counted}
use Rattle.numbers.specs.declared.refusal.Refusal.{Refusal}
use Rattle.pair_frames.specs.Numbers.{set_sizes}
use Rattle.pair_frames.proofs.Bases.{counted_scheme}
use Rattle.numbers.proofs.Refusals.{refused}
use Rattle.pair_model.specs.Scheme.{Files, files, Scheme}
use Rattle.pair_model.specs.Base.{scheme_of}
use Rattle.pair_model.specs.Frame.{header_bytes}
use Rattle.pair_model.specs.Unit.{Stepped, step}
use Rattle.pair_model.specs.StateSlice.{state_bytes, encode_state, decode_as, set_in, slice_step, pair_step_number, pair_step_state, pair_step_written}
use Rattle.pair_model.proofs.Internal.Encodings.{step_short, by_number, by_written, slice_refused}
use Rattle.pair_model.proofs.Theorem.StepLaws.{step_result}
use Rattle.protocol.proofs.units.step_state.Goals as goal

module _ (s f : List ℕ) (lent : Files) (o : List ℕ) where
  abbrev n : ℕ
  n = length o

  abbrev written : List ℕ
  written = pair_step_written s f lent n

  -- the clauses, where s has become t and o has become p
  abbrev Claims : (t p : List ℕ) (r : Result ℕ Refusal) → Type 0
  Claims t p r =
      record {
        result : answer_number r ≡ pair_step_number s f lent n;
        state : t ≡ pair_step_state s f lent n;
        output : p ≡ at_front written o;
        count : IfOk r (λ n. n ≡ length written);
        none : OnErr r (written ≡ []);
      }

  -- the step in a scheme, which is that of the slice's set
  abbrev taken : Scheme → Stepped
  taken S = step S (decode_as S s) f lent n

  stepped : (S : Scheme) → S ≡ scheme_of (set_in s) → length s ≡ state_bytes → (t p : List ℕ) (r : Result ℕ Refusal)
      → answer_number r ≡ (taken S).result → t ≡ cond (eqb (answer_number r) 0) (encode_state (taken S).next) s → p ≡ at_front (taken S).written o
      → IfOk r (λ n. n ≡ length (taken S).written) → Claims t p r
  unfolding pair_step_state
  stepped S e long t p r h k l m =
      let is : taken S ≡ slice_step s f lent n = ap taken e in
      let number = h ∙ ap (λ (x : Stepped). x.result) is ∙ by_number s long f lent n in
      let all = ap (λ (x : Stepped). x.written) is ∙ by_written s long f lent n in
      record {
        result = number;
        state = k ∙ (λ i. cond (eqb (number i) 0) (encode_state (is i).next) s);
        output = l ∙ ap (λ (w : List ℕ). at_front w o) all;
        count = IfOk-weaker r (λ n. n ≡ length (taken S).written) (λ n. n ≡ length written) (λ n q. q ∙ ap length all) m;
        none = nothing r (h ∙ ap (λ (x : Stepped). x.result) is);
      }
    where
      nothing : (r : Result ℕ Refusal) → answer_number r ≡ (slice_step s f lent n).result → OnErr r (written ≡ [])
      nothing (Ok x) q = tt
      nothing (Err why) q = sym (slice_refused s long f lent n (λ z. refused why q (step_result _ _ f lent n ∙ z))).2

pub returns-then-state-ne-STATE_BYTES : goal.returns-then-state-ne-STATE_BYTES
returns-then-state-ne-STATE_BYTES c =
    let a = c.args in
    let b = step_short a.state.now c.if-state-ne-STATE_BYTES.true a.f.now (files a.file.now) (length a.out.now) in
    record {
      result = b.0;
      state = b.1;
      output = rw b.2;
      count = tt;
      none = b.2;
    }

pub step_slice-requires : goal.step_slice-requires
step_slice-requires c = c.if-state-ne-STATE_BYTES.false

pub returns : goal.returns
returns c =
    let a = c.args in
    let set = c.sizes_of-sizes.ensures ∙ ap (λ (k : ℕ). set_sizes (counted k)) c.from.ensures in
    let e = c.step_slice.ensures in
    stepped a.state.now a.f.now (files a.file.now) a.out.now _ (counted_scheme (get_or a.state.now header_bytes 0) set) c.if-state-ne-STATE_BYTES.false
    _ _ _ e.result e.state e.output e.count
