-- Every call's numbers rise, so each call returns the lowest number whose condition holds.
use Prim.Native.Nat.{ℕ}
use mathlib.Core.List.{List}
use mathlib.Core.Bool.{not}
use lib.Dec.{eqb, lit≤}
use Rattle.numbers.specs.Number.{merge}
use Rattle.numbers.specs.Lowest.{RisingFrom, Rising}
use Rattle.numbers.proofs.Lowest.{rising_from, UpTo, rising_last, rising_merge, first-lowest}
use Rattle.matrix_model.specs.File.{layout_of}
use Rattle.numbers.proofs.Sets.{lowest_in}
use Rattle.matrix_model.proofs.Lowest.{faults_rise, faults_up_to, check-lowest, read_lowest, write_lowest, tie_lowest}
use Rattle.pair_model.specs.Scheme.{Files, faults_in, Scheme}
use Rattle.pair_model.specs.Base.{scheme_of}
use Rattle.pair_model.specs.Frame.{Parameters, line_of}
use Rattle.source_model.specs.Draw.{source_conditions}
use Rattle.pair_model.specs.Sampler.{short_conditions, sample_conditions}
use Rattle.pair_model.specs.Evaluator.{evaluate_conditions}
use Rattle.pair_model.specs.Unit.{begin_conditions, content_conditions, step_conditions, unit_begin}
use Rattle.pair_model.specs.Join.{join_conditions}
use Rattle.pair_model.specs.Dealer.{deal_conditions, deal_source_conditions}
use Rattle.pair_model.specs.StateSlice.{set_in, decode_state, pair_begin_number, pair_step_number}
use Rattle.pair_model.specs.WholeRun.{run_conditions}
use Rattle.pair_model.specs.Lowest.{LowestNumbers}
use Rattle.pair_model.proofs.Theorem.StepLaws.{step_result}
use Rattle.pair_model.proofs.Internal.Contents.{content_rises, content_up_to}

module _ (S : Scheme) where
  begin_rises : (t : Parameters) (key label : List ℕ) → Rising (begin_conditions S t key label)
  unfolding begin_conditions
  begin_rises t key label = (lit≤ tt, (lit≤ tt, (lit≤ tt, tt)))

  join_rises : (f g : List ℕ) (n : ℕ) → Rising (join_conditions S f g n)
  unfolding join_conditions
  join_rises f g n = (lit≤ tt, (lit≤ tt, (lit≤ tt, (lit≤ tt, (lit≤ tt, (lit≤ tt, (lit≤ tt, (lit≤ tt, tt))))))))

  -- what a source is short of is 13
  short_rises : (source : List ℕ) (s : ℕ) → RisingFrom 13 (short_conditions S source s)
  unfolding source_conditions
  short_rises source s = (lit≤ tt, (lit≤ tt, (lit≤ tt, tt)))

  sample_rises : (source : List ℕ) (s n : ℕ) → Rising (sample_conditions S source s n)
  unfolding sample_conditions
  sample_rises source s n = (lit≤ tt, rising_from 1 13 (short_conditions S source s) (lit≤ tt) (short_rises source s))

  -- ---- where the faults of what is read rise from 8 on

  module _ (lent : Files) (product : RisingFrom 8 (faults_in S.product_reading lent)) where
    deal_rises : (tape : List ℕ) (n : ℕ) → Rising (deal_conditions S lent tape n)
    unfolding deal_conditions
    deal_rises tape n =
        (lit≤ tt, (lit≤ tt, (lit≤ tt, rising_from 1 8 (merge _ _) (lit≤ tt) (rising_merge 8 _ _ product (lit≤ tt, tt)))))

    deal_source_rises : (source : List ℕ) (s n : ℕ) → Rising (deal_source_conditions S lent source s n)
    unfolding deal_source_conditions
    deal_source_rises source s n =
        let short = rising_from 8 13 (short_conditions S source s) (lit≤ tt) (short_rises source s) in
        (lit≤ tt, (lit≤ tt, rising_from 1 8 (merge _ _) (lit≤ tt) (rising_merge 8 _ _ product short)))

    module _ (rows : RisingFrom 8 (faults_in S.rows_reading lent)) where
      evaluate_rises : (key label : List ℕ) (n : ℕ) → Rising (evaluate_conditions S key label lent n)
      unfolding evaluate_conditions
      evaluate_rises key label n =
          (lit≤ tt, (lit≤ tt, (lit≤ tt, (lit≤ tt, (lit≤ tt, rising_from 1 8 (merge _ _) (lit≤ tt) (rising_merge 8 _ _ product rows))))))

      -- and are no higher than 12
      step_rises : UpTo 12 (faults_in S.product_reading lent) → UpTo 12 (faults_in S.rows_reading lent)
          → (t : Parameters) (stage : ℕ) (f : List ℕ) (n : ℕ) → Rising (step_conditions S t stage f lent n)
      unfolding step_conditions
      step_rises p q t stage f n =
          let line = rising_last 7 12 15 (not (eqb (line_of f) t.shared.line)) (content_conditions S f lent) (lit≤ tt) (lit≤ tt) (content_rises S lent product rows f) (content_up_to S lent p q f) in
          (lit≤ tt, (lit≤ tt, (lit≤ tt, (lit≤ tt, (lit≤ tt, (lit≤ tt, (lit≤ tt, line)))))))

run_rises : (input : List ℕ) (n : ℕ) → Rising (run_conditions input n)
unfolding run_conditions
run_rises input n = (lit≤ tt, (lit≤ tt, (lit≤ tt, (lit≤ tt, (lit≤ tt, (lit≤ tt, tt))))))

pub lowest_numbers : LowestNumbers
unfolding unit_begin pair_begin_number pair_step_number
lowest_numbers =
    record {
      evaluates = λ set key label lent n. lowest_in set _ (evaluate_rises (scheme_of set) lent tt (faults_rise (layout_of set) lent.matrix) key label n);
      deals = λ set lent tape n. lowest_in set _ (deal_rises (scheme_of set) lent tt tape n);
      deals_source = λ set lent source s n. lowest_in set _ (deal_source_rises (scheme_of set) lent tt source s n);
      samples = λ set source s n. lowest_in set _ (sample_rises (scheme_of set) source s n);
      begins = λ set t key label. lowest_in set _ (begin_rises (scheme_of set) t key label);
      begins_slice = λ set t key label s. lowest_in set _ (lit≤ tt, begin_rises (scheme_of set) t key label);
      steps =
          λ u f lent n.
          rw (step_result (scheme_of u.set) u f lent n)
          (first-lowest (step_rises (scheme_of u.set) lent tt (faults_rise (layout_of u.set) lent.matrix) tt (faults_up_to (layout_of u.set) lent.matrix) u.parameters u.stage f n));
      steps_slice =
          λ s f lent n. let u = decode_state s in
          first-lowest (lit≤ tt, step_rises (scheme_of (set_in s)) lent tt (faults_rise (layout_of (set_in s)) lent.matrix) tt (faults_up_to (layout_of (set_in s)) lent.matrix) u.parameters u.stage f n);
      joins = λ set f g n. lowest_in set _ (join_rises (scheme_of set) f g n);
      writes = write_lowest;
      reads = read_lowest;
      checks = check-lowest;
      lists = tie_lowest;
      runs = λ input n. first-lowest (run_rises input n);
    }
