-- Protocols with one wrong part do not satisfy the whole demand.
use Prim.Native.Nat.{ℕ}
use mathlib.Core.Path.{◌≡◌, refl, sym, ap, ◌∙◌, subst}
use mathlib.Core.List.{[], ◌∷◌}
use native.Mathlib.Omega.{arith}
use native.Mathlib.Nat.{le_refl}
use lib.Dec.{lit<, lit≤}
use Rattle.linear_model.specs.Bits.{Bytes, zeros, from_bits, bit, pack, add_bits}
use Rattle.linear_model.specs.Tables.{tabulate, sum, every}
use Rattle.linear_model.specs.Trits.{trit, fit_trits}
use Rattle.linear_model.specs.Products.{bit_product}
use Rattle.numbers.specs.Number.{first, only_if}
use Rattle.pair_model.specs.Scheme.{no_files, side0, side1, field}
use Rattle.pair_model.specs.Frame.{parameters, open_kind}
use Rattle.pair_model.specs.Header.{read_header}
use Rattle.pair_model.specs.Unit.{State, state, nothing, halves, idle_stage, done_stage, least_output, begin_conditions, begin, step_conditions, take_deal, step}
use Rattle.pair_model.specs.Run.{run_of, Lent, same, stray_of, start, DeliveredAsSent}
use Rattle.pair_model.specs.View.{View, events, view}
use Rattle.pair_model.specs.Theorem.{Demand3}
use Rattle.pair_model.specs.Leaky.{small, bare_key, telling_line, without_z, inner_mask_dealt, uneven_mask_dealt, other_key_shown, refuses_all, deal_again, second_deal, number_by_key, telling_number, cleared_if_refused, clearing_refusal, taken_at, takes_at, refused_beginning}
use Rattle.pair_model.proofs.Theorem.Pairing.{inner_of}
use Rattle.pair_model.proofs.Theorem.Layouts.{bytes_one}
use Rattle.pair_model.proofs.Evidence.Small.{a, b, well₁, well₂, same_for, zero_one, small_linear, zero-tape}
use Rattle.pair_model.proofs.Evidence.Leaky.{sent, bare_key_lem, telling_line_lem}
use Rattle.pair_model.proofs.Evidence.WithoutZ.{without_z_lem}
use Rattle.pair_model.proofs.Evidence.LeakyDealer.{inner-mask_leaks}
use Rattle.pair_model.proofs.Evidence.Uneven.{uneven_mask}

-- ---- leaks

pub bare_key_fails : ¬ Demand3 (bare_key small)
bare_key_fails d = bare_key_lem d.privacy

pub telling_line_fails : ¬ Demand3 (telling_line small)
telling_line_fails d = telling_line_lem d.privacy

pub without_z_fails : ¬ Demand3 (without_z small)
without_z_fails d = without_z_lem d.privacy

inner₁ : inner_of small a ≡ 0 ∷ []
unfolding add_bits bit_product pack tabulate from_bits bit sum
inner₁ = refl

inner₂ : inner_of small b ≡ 1 ∷ []
unfolding add_bits bit_product pack tabulate from_bits bit sum
inner₂ = refl

pub inner-mask_fails : ¬ Demand3 (inner_mask_dealt small)
inner-mask_fails d =
    inner-mask_leaks small small_linear a b well₁ well₂ same_for (subst (Bytes 1) (sym inner₁) (bytes_one 0 (lit< tt)))
    (subst (Bytes 1) (sym inner₂) (bytes_one 1 (lit< tt))) (λ e. zero_one [] [] (sym inner₁ ∙ e ∙ inner₂)) (zeros 8) zero-tape d.privacy

pub uneven_mask_fails : ¬ Demand3 (uneven_mask_dealt small)
uneven_mask_fails d = uneven_mask d.privacy

-- the state it is begun with shows the other's key half, before any step
pub other-key_fails : ¬ Demand3 (other_key_shown small)
unfolding view events
other-key_fails d =
    let H = d.privacy side0 a b well₁ well₂ same_for in
    zero_one [] [] (ap (λ (v : View). v.begun.secrets.key_mask) (H.same_view (zeros 8) zero-tape [] tt).views)

-- ---- no frame is accepted

-- the deal is there for the unit that was begun
delivered : DeliveredAsSent (refuses_all small) (run_of a (zeros 8)) (start (refuses_all small) (run_of a (zeros 8))) (sent small a.files side0)
unfolding begin begin_conditions first
delivered = record { waiting = lit≤ tt; written = lit≤ tt; files = refl; output = le_refl (least_output small) }

pub refuses_all_fails : ¬ Demand3 (refuses_all small)
refuses_all_fails d = thirteen ((d.correctness (run_of a (zeros 8)) well₁ zero-tape).accepted (sent small a.files side0 ∷ []) (delivered, tt)).0
  where
    thirteen : ¬ (◌≡◌ {A = ℕ} 13 0)
    thirteen e = omega arith

-- ---- a frame too many

-- a unit that waits for an open frame
abbrev waiting : State
waiting = state 1 (parameters 0 1 0) open_kind (nothing small)

-- a deal of zeros for it
abbrev deal_of_zeros : Lent
deal_of_zeros = record { frame = 1 ∷ 0 ∷ 1 ∷ 0 ∷ 0 ∷ 0 ∷ 0 ∷ zeros 5; files = no_files; output_length = 9 }

pub second_deal_fails : ¬ Demand3 (second_deal small)
unfolding deal_again step step_conditions read_header only_if first fit_trits every trit bit field take_deal
second_deal_fails d = two-three (d.three_frames.counts waiting (deal_of_zeros ∷ []) (lit≤ tt))
  where
    two-three : ¬ (◌≡◌ {A = ℕ} 2 3)
    two-three e = omega arith

-- ---- a refusal that tells, or does, too much

one-zero : ¬ (◌≡◌ {A = ℕ} 1 0)
one-zero e = omega arith

-- an empty frame
abbrev no_frame : Lent
no_frame = record { frame = []; files = no_files; output_length = 9 }

-- the other unit's number for a stray entry that both runs share differs
pub telling_number_fails : ¬ Demand3 (telling_number small)
unfolding number_by_key begin begin_conditions step step_conditions read_header only_if first bit
telling_number_fails d =
    let H = d.privacy side0 a b well₁ well₂ same_for in
    three_four (H.same_view (zeros 8) zero-tape (same (stray_of side1 no_frame) ∷ []) ((λ e. omega (arith, e)), tt)).numbers.0
  where
    three_four : ¬ (◌≡◌ {A = ℕ} 3 4)
    three_four e = omega arith

-- the key half 1 is gone
pub clearing_refusal_fails : ¬ Demand3 (clearing_refusal small)
unfolding cleared_if_refused step step_conditions read_header only_if first
clearing_refusal_fails d =
    zero_one [] [] (ap (λ (u : State). u.secrets.key)
    (d.three_frames.refusal (state 1 (parameters 0 1 0) open_kind (halves small (1 ∷ []) (0 ∷ []))) no_frame (λ e. omega (arith, e))).1)

-- ---- a frame where none is waited for

abbrev at : ℕ → State
at stage = state 1 (parameters 0 1 0) stage (nothing small)

pub idle_takes_fails : ¬ Demand3 (takes_at small idle_stage)
unfolding taken_at
idle_takes_fails d = one-zero (d.three_frames.idle (at idle_stage) (no_frame ∷ []) refl)

pub done_takes_fails : ¬ Demand3 (takes_at small done_stage)
unfolding taken_at
done_takes_fails d = omega (arith, d.three_frames.bounded (at done_stage) (no_frame ∷ []) (lit≤ tt))

pub beyond_takes_fails : ¬ Demand3 (takes_at small 5)
unfolding taken_at
beyond_takes_fails d = one-zero (d.three_frames.beyond (at 5) (no_frame ∷ []) (lit< tt))

-- ---- a run that cannot start

pub refused_beginning_fails : ¬ Demand3 (refused_beginning small)
refused_beginning_fails d = two-zero ((d.correctness (run_of a (zeros 8)) well₁ zero-tape).begins side0)
  where
    two-zero : ¬ (◌≡◌ {A = ℕ} 2 0)
    two-zero e = omega arith
