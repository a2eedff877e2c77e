-- The table of the sets holds, by computation.
use mathlib.Core.Path.{refl}
use Rattle.numbers.specs.Number.{first}
use Rattle.numbers.specs.Sets.{number_in}
use Rattle.matrix_model.specs.File.{check_number}
use Rattle.pair_model.specs.Unit.{begin_conditions, unit_begin}
use Rattle.pair_model.specs.SetExamples.{SetExamples}

pub set_examples : SetExamples
unfolding check_number unit_begin begin_conditions number_in first
set_examples =
    record {
      strings1 = refl;
      strings2 = refl;
      strings3 = refl;
      matrix1 = refl;
      matrix2 = refl;
      matrix3 = refl;
      frames1 = refl;
      frames2 = refl;
      frames3 = refl;
      pairs1 = refl;
      pairs2 = refl;
      pairs3 = refl;
      heads = (refl, refl, refl);
      state = refl;
      named = (refl, refl, refl, refl);
      begins = (refl, refl);
    }
