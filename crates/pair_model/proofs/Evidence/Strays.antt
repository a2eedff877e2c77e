-- Comparable lists exist: a run's own lists, and a list with stray steps for any two runs.
use Prim.Native.Nat.{ℕ, suc, ◌≤◌, ◌<◌}
use mathlib.Core.Path.{◌≡◌, refl, sym, ◌∙◌, subst}
use mathlib.Core.Logic.{◌≢◌}
use mathlib.Core.List.{List, [], ◌∷◌}
use mathlib.Core.Bool.{true}
use native.Mathlib.Omega.{arith}
use native.Mathlib.Nat.{le_refl}
use lib.Dec.{ltb, lit<, lit≤, lt→ltb}
use Rattle.numbers.specs.Number.{◌when◌, first}
use Rattle.pair_model.specs.Scheme.{Files, no_files, Scheme, Linear, Side, side0, side1, other}
use Rattle.pair_model.specs.Tape.{Accepted}
use Rattle.pair_model.specs.Header.{read_header}
use Rattle.pair_model.specs.Unit.{State, least_output, step_conditions, step}
use Rattle.pair_model.specs.Run.{Protocol, protocol, Inputs, WellFormed, Run, run_of, Configuration, as_sent, stray, Entry, entry, Lent, SharedEntry, same, differ, update, start, step_of, next, ListOf, Comparable}
use Rattle.pair_model.specs.Sample.{with_strays}
use Rattle.pair_model.specs.Evidence.{shared}
use Rattle.numbers.proofs.Numbers.{is_true, at_least, first_holds}
use Rattle.pair_model.proofs.Theorem.StepLaws.{step_result}
use Rattle.pair_model.proofs.Theorem.Configurations.{configuration_at, Ready, delivered_of, next-sent, next_stray, start-at}

-- ---- a list of a run, shared with any other

-- nothing more is asked of shared entries than that they are a list of the first run
shared-from : (P : Protocol) (fixed : Side) (run₁ run₂ : Run) (c₁ c₂ : Configuration) (es : List Entry)
    → ListOf P run₁ c₁ es → Comparable P fixed run₁ run₂ c₁ c₂ (shared es)
shared-from P fixed run₁ run₂ c₁ c₂ [] v = tt
shared-from P fixed run₁ run₂ c₁ c₂ (e ∷ es) v = (v.0, shared-from P fixed run₁ run₂ (next P run₁ c₁ e) (next P run₂ c₂ e) es v.1)

-- from the start
pub shared_comparable : (P : Protocol) (fixed : Side) (run₁ run₂ : Run) (es : List Entry)
    → ListOf P run₁ (start P run₁) es → Comparable P fixed run₁ run₂ (start P run₁) (start P run₂) (shared es)
shared_comparable P fixed run₁ run₂ es v = shared-from P fixed run₁ run₂ (start P run₁) (start P run₂) es v

-- ---- two stray calls that every unit refuses

module _ (S : Scheme) (u : State) where
  -- an empty frame, with an output slice that is long enough, gets 3
  pub empty_frame_lem : (lent : Files) → (step S u [] lent (least_output S)).result ≡ 3
  unfolding step_conditions first read_header
  empty_frame_lem lent =
      step_result S u [] lent (least_output S)
      ∙ (λ j. first (1 when at_least (least_output S) (least_output S) (le_refl (least_output S)) j ∷ 3 when true ∷ []))

  -- no output slice gets 1
  pub no_output : (f : List ℕ) (lent : Files) → (step S u f lent 0).result ≡ 1
  unfolding step_conditions
  no_output f lent =
      step_result S u f lent 0
      ∙ first_holds 1 (ltb 0 (least_output S)) _ (is_true (ltb 0 (least_output S)) (lt→ltb 0 (least_output S) (omega arith)))

-- ---- six entries in order with two stray steps among them, for any two runs of a scheme

module _ (S : Scheme) (L : Linear S) (a : Inputs) (tape : List ℕ) (well : WellFormed S a) (h : Accepted S tape) (fixed : Side) (R₂ : Run) where
  abbrev P : Protocol
  P = protocol S

  abbrev R₁ : Run
  R₁ = run_of a tape

  -- comparable from these counts on, whatever the second run has done
  record From (p : Side → ℕ) (es : List SharedEntry) : Type 0 where
    from : (c₂ : Configuration) → Comparable P fixed R₁ R₂ (configuration_at S a tape p) c₂ es

  on_sent : (p : Side → ℕ) (i : Side) (es : List SharedEntry) → p i < 3 → p i ≤ p (other i) → From (update i (suc (p i)) p) es
      → From p (same (entry i as_sent a.files (least_output S)) ∷ es)
  on_sent p i es l m r =
      record {
        from = λ c₂. (
          delivered_of S a tape p i a.files (least_output S) ready,
          subst (λ (c : Configuration). Comparable P fixed R₁ R₂ c (next P R₂ c₂ (entry i as_sent a.files (least_output S))) es)
              (sym (next-sent S a tape p i a.files (least_output S) ready L well h)) (r.from (next P R₂ c₂ (entry i as_sent a.files (least_output S)))),
        );
      }
    where
      ready : Ready S a.files p i a.files (least_output S)
      ready = record { not_done = l; not_ahead = m; right = refl; long = le_refl (least_output S) }

  abbrev empty_frame : Side → Entry
  empty_frame i = entry i (stray []) a.files (least_output S)

  -- a stray entry that both runs share
  on_stray : (p : Side → ℕ) (i : Side) (es : List SharedEntry) → From p es → From p (same (empty_frame i) ∷ es)
  on_stray p i es r =
      record {
        from = λ c₂. (
          refused,
          subst (λ (c : Configuration). Comparable P fixed R₁ R₂ c (next P R₂ c₂ (empty_frame i)) es)
              (sym (next_stray S R₁ (configuration_at S a tape p) i [] a.files (least_output S) refused)) (r.from (next P R₂ c₂ (empty_frame i))),
        );
      }
    where
      refused : (step_of P R₁ (configuration_at S a tape p) (empty_frame i)).result ≢ 0
      refused e = omega (arith, sym (empty_frame_lem S ((configuration_at S a tape p).unit i) a.files) ∙ e)

  -- two stray calls of the unit that is not fixed, which differ
  abbrev l₁ : Lent
  l₁ = record { frame = []; files = a.files; output_length = least_output S }

  abbrev l₂ : Lent
  l₂ = record { frame = 7 ∷ []; files = no_files; output_length = 0 }

  on_differ : (p : Side → ℕ) (es : List SharedEntry) → From p es → From p (differ l₁ l₂ ∷ es)
  on_differ p es r =
      record {
        from = λ c₂. (
          refused,
          (λ e. omega (arith, sym (no_output S (c₂.unit (other fixed)) (7 ∷ []) no_files) ∙ e)),
          subst (λ (c : Configuration). Comparable P fixed R₁ R₂ c (next P R₂ c₂ (entry (other fixed) (stray (7 ∷ [])) no_files 0)) es)
              (sym (next_stray S R₁ (configuration_at S a tape p) (other fixed) [] a.files (least_output S) refused))
              (r.from (next P R₂ c₂ (entry (other fixed) (stray (7 ∷ [])) no_files 0))),
        );
      }
    where
      refused : (step_of P R₁ (configuration_at S a tape p) (empty_frame (other fixed))).result ≢ 0
      refused e = omega (arith, sym (empty_frame_lem S ((configuration_at S a tape p).unit (other fixed)) a.files) ∙ e)

  -- the list: six entries as sent, a stray step of the fixed unit, and one of the other that differs between the runs
  from_start : From (λ i. 0) (with_strays S a.files fixed)
  from_start =
      on_sent _ side0 _ (lit< tt) (lit≤ tt) (on_stray _ fixed _ (on_sent _ side1 _ (lit< tt) (lit≤ tt) (on_differ _ _
      (on_sent _ side0 _ (lit< tt) (lit≤ tt) (on_sent _ side1 _ (lit< tt) (lit≤ tt) (on_sent _ side0 _ (lit< tt) (lit≤ tt)
      (on_sent _ side1 _ (lit< tt) (lit≤ tt) (record { from = λ c₂. tt }))))))))

  -- it is comparable, whatever the second run is
  pub with_strays_lem : Comparable P fixed R₁ R₂ (start P R₁) (start P R₂) (with_strays S a.files fixed)
  with_strays_lem =
      subst (λ (c : Configuration). Comparable P fixed R₁ R₂ c (start P R₂) (with_strays S a.files fixed)) (sym (start-at S a well tape)) (from_start.from (start P R₂))
