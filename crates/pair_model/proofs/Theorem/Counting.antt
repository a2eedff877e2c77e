-- Three accepted frames, no more and no fewer, whatever the calls are, and from any state.
use Prim.Native.Nat.{ℕ, zero, suc, ◌+◌, ◌≤◌}
use mathlib.Core.Path.{◌≡◌, refl, sym, ap, ◌∙◌, subst}
use mathlib.Core.List.{List, [], ◌∷◌}
use mathlib.Core.Bool.{cond}
use native.Mathlib.Omega.{arith}
use lib.Dec.{eqb, eqb-suc-zero}
use Rattle.pair_model.specs.Scheme.{Files, Scheme}
use Rattle.pair_model.specs.Frame.{Parameters, body_of}
use Rattle.pair_model.specs.Unit.{State, Stepped, done_stage, step_number, take_deal, take_open, take_mask, advance, step}
use Rattle.pair_model.specs.Run.{Protocol, protocol, Lent}
use Rattle.pair_model.specs.Theorem.{accepted_count, after, ThreeFrames}
use Rattle.pair_model.proofs.Theorem.StepLaws.{fits, number_for, step_result, step-accepted, step-refused}

module _ (S : Scheme) where
  -- a frame is accepted only at the stages 1 to 3
  waits : (t : Parameters) (stage : ℕ) (f : List ℕ) (lent : Files) (output_length : ℕ) → step_number S t stage f lent output_length ≡ 0 → (1 ≤ stage) × (stage ≤ 3)
  waits t stage f lent output_length h = let k = fits S t stage f lent output_length h in (k.low, k.high)

  -- and takes the unit one stage on
  moves : (u : State) (body : List ℕ) (lent : Files) → (1 ≤ u.stage) × (u.stage ≤ 3) → (advance S u body lent).next.stage ≡ suc u.stage
  unfolding advance take_deal take_open take_mask
  moves u body lent h = pick u.stage h.0 h.1
    where
      pick : (n : ℕ) → 1 ≤ n → n ≤ 3
          → (cond (eqb n 1) (take_deal S u body) (cond (eqb n 2) (take_open S u body lent) (take_mask S u body lent))).next.stage ≡ suc n
      pick zero l m = absurd (omega arith)
      pick (suc zero) l m = refl
      pick (suc (suc zero)) l m = refl
      pick (suc (suc (suc zero))) l m = refl
      pick (suc (suc (suc (suc n)))) l m = absurd (omega arith)

  -- 1 for an accepted call, 0 for a refused one
  abbrev counted : ℕ → ℕ
  counted result = cond (eqb result 0) 1 0

  -- a call, refused or accepted
  data Call (u : State) (s : Stepped) : Type 0 where
    is_refused : counted s.result ≡ 0 → s.next ≡ u → Call u s
    is_accepted : counted s.result ≡ 1 → 1 ≤ u.stage → u.stage ≤ 3 → s.next.stage ≡ suc u.stage → Call u s

  call : (u : State) (f : List ℕ) (lent : Files) (output_length : ℕ) → Call u (step S u f lent output_length)
  call u f lent output_length = pick (number_for S u f lent output_length) refl
    where
      s : Stepped
      s = step S u f lent output_length

      result : s.result ≡ number_for S u f lent output_length
      result = step_result S u f lent output_length

      pick : (n : ℕ) → number_for S u f lent output_length ≡ n → Call u s
      pick zero e =
          let w = waits u.parameters u.stage f lent output_length e in
          is_accepted (rw (result, e)) w.0 w.1
          (ap (λ (s : Stepped). s.next.stage) (step-accepted S u f lent output_length e) ∙ moves u (body_of f) lent w)
      pick (suc n) e =
          is_refused (rw (result, e, eqb-suc-zero n))
          (ap (λ (s : Stepped). s.next) (step-refused S u f lent output_length (λ z. omega (arith, sym result ∙ z, e))))

  abbrev P : Protocol
  P = protocol S

  abbrev Counted : State → List Lent → Type 0
  Counted u ls = ((after P u ls).stage ≡ u.stage + accepted_count P u ls) × ((after P u ls).stage ≤ done_stage)

  counts : (u : State) (ls : List Lent) → u.stage ≤ done_stage → Counted u ls
  counts u [] h = (omega arith, h)
  counts u (l ∷ ls) h = pick (call u l.frame l.files l.output_length) (counts (step S u l.frame l.files l.output_length).next ls)
    where
      s : Stepped
      s = step S u l.frame l.files l.output_length

      pick : Call u s → (s.next.stage ≤ done_stage → Counted s.next ls) → Counted u (l ∷ ls)
      pick (is_refused e n) r =
          let n' = ap (λ (v : State). v.stage) n in let q = r (omega arith) in (omega arith, q.1)
      pick (is_accepted e l m n) r = let q = r (omega arith) in (omega arith, q.1)

  -- at a stage where no frame is waited for none is accepted
  abbrev WaitsForNone : State → Type 0
  WaitsForNone u = ¬ ((1 ≤ u.stage) × (u.stage ≤ 3))

  none : (u : State) (ls : List Lent) → WaitsForNone u → accepted_count P u ls ≡ 0
  none u [] h = refl
  none u (l ∷ ls) h = pick (call u l.frame l.files l.output_length) (λ v e. none v ls (subst WaitsForNone (sym e) h))
    where
      s : Stepped
      s = step S u l.frame l.files l.output_length

      pick : Call u s → ((v : State) → v ≡ u → accepted_count P v ls ≡ 0) → counted s.result + accepted_count P s.next ls ≡ 0
      pick (is_refused e n) r = omega (arith, r s.next n)
      pick (is_accepted e l m n) r = absurd (h (l, m))

  -- the stage moves by exactly the number of accepted frames
  pub three-frames : ThreeFrames P
  three-frames =
      record {
        counts = λ u ls h. (counts u ls h).0;
        bounded = λ u ls h. (counts u ls h).1;
        idle = λ u ls h. none u ls (λ w. omega (arith, w.0));
        beyond = λ u ls h. none u ls (λ w. omega (arith, w.1));
        refusal =
            λ u l h. let e = step-refused S u l.frame l.files l.output_length h in
            (ap (λ (s : Stepped). s.written) e, ap (λ (s : Stepped). s.next) e);
      }
