-- The table of the lines holds, by computation.
use mathlib.Core.Path.{refl}
use Rattle.linear_model.specs.Bits.{bit, pack, add_bits}
use Rattle.linear_model.specs.Tables.{every, tabulate}
use Rattle.linear_model.specs.Trits.{trit, pack_trits, fit_trits, zero_trits, subtract_trits}
use Rattle.numbers.specs.Number.{first, only_if}
use Rattle.numbers.specs.Sets.{number_in}
use Rattle.pair_model.specs.Scheme.{field, concat}
use Rattle.pair_model.specs.Tape.{K̃, x̃, z0, r0, z, r, deal}
use Rattle.pair_model.specs.Frame.{frame, header}
use Rattle.pair_model.specs.Header.{read_header}
use Rattle.pair_model.specs.Unit.{begin_conditions, unit_begin, step_conditions, take_mask}
use Rattle.pair_model.specs.Dealer.{deal_frame}
use Rattle.pair_model.specs.Join.{join_conditions}
use Rattle.pair_model.specs.LineExamples.{LineExamples}

pub line_examples : LineExamples
unfolding take_mask deal_frame deal z r K̃ x̃ z0 r0 frame header read_header step_conditions join_conditions begin_conditions unit_begin number_in first only_if field concat fit_trits zero_trits every trit bit add_bits pack tabulate subtract_trits pack_trits
line_examples =
    record {
      deals = (refl, refl);
      other_line = refl;
      no_room = refl;
      unfit = refl;
      other_side = refl;
      not_waited_for = refl;
      six = refl;
      seven = refl;
      own_line = refl;
      joins = (refl, refl);
      spare = refl;
      done_keeps = refl;
      refused = refl;
      idle_line = refl;
    }
