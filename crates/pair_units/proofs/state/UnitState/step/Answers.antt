-- `UnitState::step` meets its contract: the sizes are those of the scheme that the set names. Theorem and evidence are the model's.
use mathlib.Core.Path.{◌≡◌, ap, ◌∙◌}
use mathlib.Core.Bool.{cond}
use lib.Dec.{eqb}
use Prim.Native.Nat.{ℕ}
use lib.ListN.{length}
use Rattle.numbers.specs.Number.{at_front}
use Rattle.numbers.specs.Sets.{counted}
use Rattle.numbers.proofs.Sets.{counted-set}
use Rattle.numbers.specs.Refusals.{answer_number}
use Rattle.pair_frames.specs.Numbers.{scheme_by, set_sizes}
use Rattle.pair_frames.specs.Schemes.{scheme_in}
use Rattle.pair_frames.proofs.Bases.{set_is}
use Rattle.pair_model.specs.Unit.{Stepped, step}
use Rattle.pair_model.specs.Scheme.{files}
use Rattle.pair_model.proofs.Evidence.Whole.{theorem_and_evidence}
use Rattle.pair_units.specs.Units.{state_at, state_by, unit_of}
use Rattle.pair_units.proofs.state.UnitState.step.Goals as goal

pub returns : goal.returns
returns c =
    let v = c.step_unit in
    let z = c.sizes_of-sizes in
    let a = c.args in
    let set = counted a.self.set in
    let f = a.f.now in
    let file = files a.file.now in
    let m = length a.out.now in
    let n = z.ensures ∙ ap (λ (k : ℕ). set_sizes (counted k)) c.from.ensures in
    let e : step (scheme_in z.result) (state_at z.result a.self) f file m ≡ _ =
    (λ i. step (scheme_by (n i)) (state_by (n i) a.self) f file m)
    ∙ (λ i. step (set_is set (counted-set a.self.set) i) (state_by (set_sizes set) a.self) f file m) in
    let t = v.ensures in
    record {
      result = t.result ∙ ap (λ (s : Stepped). s.result) e;
      count = t.count ∙ ap (λ (s : Stepped). length s.written) e;
      next = t.next ∙ ap (λ (s : Stepped). cond (eqb (answer_number v.result.result) 0) (unit_of s.next) a.self) e;
      output = t.output ∙ ap (λ (s : Stepped). at_front s.written a.out.now) e;
      correctness = theorem_and_evidence.0;
      privacy = theorem_and_evidence.1.0;
      three_frames = theorem_and_evidence.1.1.0;
      evidence = theorem_and_evidence.1.1.1;
    }
