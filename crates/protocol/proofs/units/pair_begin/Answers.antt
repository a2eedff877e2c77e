-- `protocol::units::pair_begin` meets its contract: a slice of its length holds what the beginning gave, and stands for it.
use mathlib.Core.Path.{◌≡◌, refl, sym, ap, ◌∙◌}
use mathlib.Core.Logic.{◌≢◌}
use mathlib.Core.List.{List}
use mathlib.Core.Bool.{Bool, true, false, cond}
use Prim.Native.Nat.{ℕ}
use native.Mathlib.Omega.{arith}
use lib.ListN.{length}
use Rattle.numbers.specs.Sets.{is_set}
use Rattle.pair_model.specs.Base.{scheme_of, InEachSet}
use Rattle.pair_model.specs.Frame.{Parameters, parameters}
use Rattle.pair_model.specs.Unit.{begun, idle, unit_begin}
use Rattle.pair_model.specs.Run.{protocol}
use Rattle.pair_model.specs.Theorem.{Begins, Privacy}
use Rattle.pair_model.specs.StateSlice.{state_bytes, encode_state, decode_state, pair_begin_number, pair_begin_state}
use Rattle.pair_model.specs.Calls.{StatesFit, CallsAreRuns}
use Rattle.pair_model.proofs.Internal.Begins.{unit-begun, unit-refused}
use Rattle.pair_model.proofs.Internal.Encodings.{begin_short, begin_long}
use Rattle.pair_model.proofs.Theorem.Main.{begins, set_demand3}
use Rattle.pair_model.proofs.Theorem.Calls.{decoded-begun, states_fit, calls_are_runs}
use Rattle.protocol.proofs.units.pair_begin.Goals as goal

-- the clauses, of a slice s that has become o
abbrev Claims : (set : ℕ) (t : Parameters) (key label s o : List ℕ) → ℕ → Type 0
Claims set t key label s o r =
    record {
      result : r ≡ pair_begin_number set t key label s;
      state : o ≡ pair_begin_state set t key label s;
      accepted : r ≡ 0 → o ≡ encode_state (begun (scheme_of set) t key label);
      refused : r ≢ 0 → length s ≡ state_bytes → o ≡ encode_state idle;
      wrong_length : length s ≢ state_bytes → (r ≡ cond (is_set set) 1 14) × (o ≡ s);
      next : length s ≡ state_bytes → decode_state o ≡ (unit_begin set t key label).next;
      states_fit : StatesFit;
      same_protocol : CallsAreRuns;
      begins : InEachSet (λ S. Begins (protocol S));
      privacy : InEachSet (λ S. Privacy (protocol S));
    }

-- a slice of another length is left
short : (set : ℕ) (t : Parameters) (key label s : List ℕ) → length s ≢ state_bytes → (b : Bool) → is_set set ≡ b → Claims set t key label s s (cond b 1 14)
short set t key label s h b e =
    let n = begin_short s h set t key label in
    let is = ap {B = ℕ} (λ (c : Bool). cond c 1 14) (sym e) in
    record {
      result = is ∙ sym n.0;
      state = n.1;
      accepted = λ z. absurd (positive b z);
      refused = λ z l. absurd (h l);
      wrong_length = λ l. (is, refl);
      next = λ l. absurd (h l);
      states_fit = states_fit;
      same_protocol = calls_are_runs;
      begins = λ set i. begins (scheme_of set);
      privacy = λ set i. (set_demand3 set).privacy;
    }
  where
    positive : (b : Bool) → ◌≡◌ {A = ℕ} (cond b 1 14) 0 → ⊥
    positive true z = omega arith
    positive false z = omega arith

pub begin_slice-requires : goal.begin_slice-requires
begin_slice-requires c = c.if-state-eq-STATE_BYTES.true

pub returns-then-state-eq-STATE_BYTES : goal.returns-then-state-eq-STATE_BYTES
returns-then-state-eq-STATE_BYTES c =
    let a = c.args in
    let t = parameters a.side a.session a.line in
    let key = a.key.now in
    let label = a.label.now in
    let long = c.if-state-eq-STATE_BYTES.true in
    let b = begin_long a.state.now long a.set t key label in
    let number = c.answer_number.ensures ∙ c.begin_slice.ensures.result in
    let held = c.begin_slice.ensures.state in
    let next = ap decode_state (held ∙ b.1) ∙ decoded-begun a.set _ long t key label (record { session = omega arith; line = omega arith }) (λ i. (c.shared_slice_known-1.given i).fits) (λ i. (c.shared_slice_known-2-1.given i).fits) in
    record {
      result = number ∙ b.0;
      state = held ∙ b.1;
      accepted = λ z. held ∙ ap encode_state (unit-begun a.set t key label (sym number ∙ z));
      refused = λ z l. held ∙ ap encode_state (unit-refused a.set t key label (λ q. z (number ∙ q)));
      wrong_length = λ l. absurd (l long);
      next = λ l. next;
      states_fit = states_fit;
      same_protocol = calls_are_runs;
      begins = λ set i. begins (scheme_of set);
      privacy = λ set i. (set_demand3 set).privacy;
    }

pub returns-then-is_set : goal.returns-then-is_set
returns-then-is_set c =
    let a = c.args in
    rw c.number.ensures
    (short a.set (parameters a.side a.session a.line) a.key.now a.label.now a.state.now c.if-state-eq-STATE_BYTES.false true (sym c.is_set.ensures ∙ c.if-is_set.true))

pub returns-else-is_set : goal.returns-else-is_set
returns-else-is_set c =
    let a = c.args in
    rw c.number-else-is_set.ensures
    (short a.set (parameters a.side a.session a.line) a.key.now a.label.now a.state.now c.if-state-eq-STATE_BYTES.false false (sym c.is_set.ensures ∙ c.if-is_set.false))
