-- The number of every call is the lowest whose condition holds, over all inputs that the call reads, and 14 where it names no set; s is a starting pair, n the
-- output slice's length.
use Rattle.std.specs.Prelude.{ℕ, List}
use Rattle.numbers.specs.Number.{Condition}
use Rattle.numbers.specs.Lowest.{Lowest}
use Rattle.numbers.specs.Sets.{number_in, LowestIn}
use Rattle.matrix_model.specs.File.{check_conditions_of, read_conditions_of, write_conditions_of, layout_of, check_number, read_number, write_number}
use Rattle.matrix_model.specs.Ties.{tie_conditions_of, tie_number}
use Rattle.pair_model.specs.Scheme.{Files}
use Rattle.pair_model.specs.Base.{scheme_of}
use Rattle.pair_model.specs.Frame.{Parameters}
use Rattle.pair_model.specs.Sampler.{sample_conditions}
use Rattle.pair_model.specs.Evaluator.{evaluate_conditions}
use Rattle.pair_model.specs.Unit.{State, begin_conditions, step_conditions, unit_begin, unit_step}
use Rattle.pair_model.specs.Join.{join_conditions}
use Rattle.pair_model.specs.Dealer.{deal_conditions, deal_source_conditions}
use Rattle.pair_model.specs.StateSlice.{pair_begin_conditions, pair_begin_number, pair_step_conditions, pair_step_number}
use Rattle.pair_model.specs.WholeRun.{run_conditions, run_number}

-- this of the conditions of a call that names a set
abbrev NamedLowest : ℕ → List Condition → Type 0
NamedLowest set conditions = LowestIn set conditions (number_in set conditions)

pub record LowestNumbers : Type 0 where
  -- the evaluator
  pub evaluates : (set : ℕ) (key label : List ℕ) (lent : Files) (n : ℕ) → NamedLowest set (evaluate_conditions (scheme_of set) key label lent n)
  -- the dealer, of a tape and of source bytes, and the sampler
  pub deals : (set : ℕ) (lent : Files) (tape : List ℕ) (n : ℕ) → NamedLowest set (deal_conditions (scheme_of set) lent tape n)
  pub deals_source : (set : ℕ) (lent : Files) (source : List ℕ) (s n : ℕ) → NamedLowest set (deal_source_conditions (scheme_of set) lent source s n)
  pub samples : (set : ℕ) (source : List ℕ) (s n : ℕ) → NamedLowest set (sample_conditions (scheme_of set) source s n)
  -- the unit: its beginning and its step, and both over a slice
  pub begins : (set : ℕ) (t : Parameters) (key label : List ℕ) → LowestIn set (begin_conditions (scheme_of set) t key label) (unit_begin set t key label).result
  pub begins_slice : (set : ℕ) (t : Parameters) (key label s : List ℕ)
      → LowestIn set (pair_begin_conditions set t key label s) (pair_begin_number set t key label s)
  pub steps : (u : State) (f : List ℕ) (lent : Files) (n : ℕ)
      → Lowest (step_conditions (scheme_of u.set) u.parameters u.stage f lent n) (unit_step u f lent n).result
  pub steps_slice : (s f : List ℕ) (lent : Files) (n : ℕ) → Lowest (pair_step_conditions s f lent n) (pair_step_number s f lent n)
  -- the counter's join
  pub joins : (set : ℕ) (f g : List ℕ) (n : ℕ) → NamedLowest set (join_conditions (scheme_of set) f g n)
  -- the matrix file: writer, reader, check and list of tied rows
  pub writes : (set : ℕ) (rows : List ℕ) (n : ℕ) → LowestIn set (write_conditions_of (layout_of set) rows n) (write_number set rows n)
  pub reads : (set : ℕ) (file : List ℕ) (n : ℕ) → LowestIn set (read_conditions_of (layout_of set) file n) (read_number set file n)
  pub checks : (set : ℕ) (file : List ℕ) → LowestIn set (check_conditions_of (layout_of set) file) (check_number set file)
  pub lists : (set : ℕ) (file : List ℕ) (n : ℕ) → LowestIn set (tie_conditions_of (layout_of set) file n) (tie_number set file n)
  -- the whole run, one call that reads all its input
  pub runs : (input : List ℕ) (n : ℕ) → Lowest (run_conditions input n) (run_number input n)
