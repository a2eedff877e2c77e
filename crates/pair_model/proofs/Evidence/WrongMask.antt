-- Mask frames with another body, and open frames with another line, do not satisfy the whole demand: a run of the small scheme is computed.
use Prim.Native.Nat.{ℕ}
use mathlib.Core.Path.{◌≡◌, refl, sym, ◌∙◌}
use mathlib.Core.List.{List, [], ◌∷◌}
use native.Mathlib.Omega.{arith}
use lib.Dec.{lit<}
use Rattle.linear_model.specs.Bits.{zeros, from_bits, bit, pack, add_bits}
use Rattle.linear_model.specs.Tables.{tabulate, sum, every}
use Rattle.linear_model.specs.Trits.{trit, fit_trits, pack_trits, subtract_trits, inner_share, add_trits, bit_trits}
use Rattle.linear_model.specs.Products.{bit_product, matrix_product}
use Rattle.numbers.specs.Number.{first, only_if}
use Rattle.pair_model.specs.Scheme.{side0, side1, field, concat}
use Rattle.pair_model.specs.Tape.{K̃, x̃, w̃, z0, r0, z, r, deal}
use Rattle.pair_model.specs.Frame.{shared_parameters, frame, header}
use Rattle.pair_model.specs.Evaluator.{code_of, code}
use Rattle.pair_model.specs.Header.{read_header}
use Rattle.pair_model.specs.Unit.{begin_conditions, begin, step_conditions, take_deal, take_open, take_mask, mask_of, share_of}
use Rattle.pair_model.specs.Dealer.{deal_frame}
use Rattle.pair_model.specs.Run.{Protocol, WellFormed, Run, run_of, Configuration, start, next, final}
use Rattle.pair_model.specs.Join.{joined}
use Rattle.pair_model.specs.Theorem.{Demand3, in_order, share_frame, own_code}
use Rattle.pair_model.specs.Leaky.{small, step_by, open_of_line, lost_line, empty_mask, half_for_mask, copied_mask}
use Rattle.pair_model.proofs.Evidence.Small.{zero_one, small_inputs, small_well, zero-tape}

abbrev run : Run
run = run_of (small_inputs 3 5 7 9) (zeros 8)

well : WellFormed small run.inputs
well = small_well 3 5 7 9 (lit< tt) (lit< tt) (lit< tt) (lit< tt)

-- the same of line 1
abbrev storage_run : Run
storage_run = let i = run.inputs in run_of (record { key = i.key; label = i.label; shared = shared_parameters 1 1; files = i.files }) (zeros 8)

storage_well : WellFormed small storage_run.inputs
storage_well = record { key = well.key; label = well.label; shared = record { session = lit< tt; line = lit< tt }; product = well.product; rows = well.rows }

-- a run's last configuration, the six entries in order
abbrev last : Protocol → Run → Configuration
last P run = final P run (start P run) (in_order P run)

-- the code that its share frames add to
abbrev sum_of_shares : Protocol → List ℕ
sum_of_shares P = joined small (share_frame P (last P run) side0) (share_frame P (last P run) side1)

-- what comes of it
record Computed : Type 0 where
  -- unit 0 has refused the empty frame
  stage : ((last (empty_mask small) run).unit side0).stage ≡ 3
  half : sum_of_shares (half_for_mask small) ≡ 1 ∷ 0 ∷ []
  copied : sum_of_shares (copied_mask small) ≡ 1 ∷ 0 ∷ []
  -- unit 0 has refused the open frame of line 0
  line : ((last (lost_line small) storage_run).unit side0).stage ≡ 2
  -- the run's own code
  own : own_code (half_for_mask small) run ≡ 0 ∷ 0 ∷ []

computed : Computed
unfolding next final begin begin_conditions first only_if step_conditions read_header step_by open_of_line take_deal take_open take_mask mask_of share_of deal_frame deal z r K̃ x̃ w̃ z0 r0 frame header field concat add_bits pack tabulate from_bits bit bit_product sum fit_trits every trit pack_trits subtract_trits code code_of matrix_product bit_trits inner_share joined add_trits
computed = record { stage = refl; half = refl; copied = refl; line = refl; own = refl }

pub empty_mask_fails : ¬ Demand3 (empty_mask small)
empty_mask_fails d = omega (arith, sym computed.stage ∙ (d.correctness run well zero-tape).ends.1 side0)

pub lost_line_fails : ¬ Demand3 (lost_line small)
lost_line_fails d = omega (arith, sym computed.line ∙ (d.correctness storage_run storage_well zero-tape).ends.1 side0)

-- shares that add to 1, where the run's own code is 0
pub half_for_mask_fails : ¬ Demand3 (half_for_mask small)
half_for_mask_fails d =
    let c = d.correctness run well zero-tape in
    zero_one _ _ (sym computed.own ∙ sym (c.joins (in_order (half_for_mask small) run) c.ends.0 c.ends.1).1 ∙ computed.half)

pub copied_mask_fails : ¬ Demand3 (copied_mask small)
copied_mask_fails d =
    let c = d.correctness run well zero-tape in
    zero_one _ _ (sym computed.own ∙ sym (c.joins (in_order (copied_mask small) run) c.ends.0 c.ends.1).1 ∙ computed.copied)
