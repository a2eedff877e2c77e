-- What calls answer to frames of another line, as one table over the definitions; set 1, session 1.
use Rattle.std.specs.Prelude.{ℕ, ◌≡◌, List, [], ◌∷◌, ◌++◌, take}
use Rattle.linear_model.specs.Bits.{zeros}
use Rattle.pair_model.specs.Scheme.{no_files, Side, side0, side1, side_byte}
use Rattle.pair_model.specs.Base.{base}
use Rattle.pair_model.specs.Frame.{shared_parameters, parameters, deal_kind, mask_kind, share_kind, frame, header_bytes}
use Rattle.pair_model.specs.Unit.{state, done_stage, nothing, idle, unit_begin, step_number, take_mask}
use Rattle.pair_model.specs.Dealer.{deal_frame}
use Rattle.pair_model.specs.Join.{join_number}

-- the deal frame of a tape of zeros, line 0
abbrev pub zero_deal : Side → List ℕ
zero_deal i = deal_frame base (shared_parameters 1 0) no_files (zeros 256) i

-- unit 0's, with both bits of r's trit 0 set
abbrev pub unfit_zero_deal : List ℕ
unfit_zero_deal = frame deal_kind (parameters 0 1 0) (zeros 96 ++ (1 ∷ zeros 31) ++ (1 ∷ zeros 31))

-- the number that a unit of side 0 and line 1 gives where it waits for a deal
abbrev pub answer : List ℕ → ℕ → ℕ
answer f output_length = step_number base (parameters 0 1 1) deal_kind f no_files output_length

-- a share frame with this last byte in its low plane
abbrev pub share_ending : Side → ℕ → ℕ → List ℕ
share_ending i line x = frame share_kind (parameters (side_byte i) 1 line) (zeros 10 ++ (x ∷ zeros 11))

pub record LineExamples : Type 0 where
  pub deals : (take header_bytes (zero_deal side0) ≡ 1 ∷ 0 ∷ 1 ∷ 0 ∷ 0 ∷ 0 ∷ 0 ∷ []) × (take header_bytes (zero_deal side1) ≡ 1 ∷ 1 ∷ 1 ∷ 0 ∷ 0 ∷ 0 ∷ 0 ∷ [])
  -- a frame without another fault, and with room for no open frame
  pub other_line : answer (zero_deal side0) 71 ≡ 15
  pub no_room : answer (zero_deal side0) 70 ≡ 1
  -- other faults come first
  pub unfit : answer unfit_zero_deal 71 ≡ 10
  pub other_side : answer (zero_deal side1) 71 ≡ 6
  pub not_waited_for : step_number base (parameters 0 1 1) done_stage (zero_deal side0) no_files 71 ≡ 7
  pub six : answer (take 6 (zero_deal side0)) 71 ≡ 3
  pub seven : answer (take 7 (zero_deal side0)) 71 ≡ 4
  -- the unit's own line
  pub own_line : step_number base (parameters 0 1 0) deal_kind (zero_deal side0) no_files 71 ≡ 0
  -- two shares, and an unused bit of the second
  pub joins : (join_number base (share_ending side0 0 0) (share_ending side1 1 0) 22 ≡ 15) × (join_number base (share_ending side0 1 0) (share_ending side1 1 0) 22 ≡ 0)
  pub spare : join_number base (share_ending side0 0 0) (share_ending side1 1 0x80) 22 ≡ 11
  -- a unit that is done keeps its line, and a refused beginning leaves line 0
  pub done_keeps : (take_mask base (state 1 (parameters 0 1 9) mask_kind (nothing base)) (zeros 32) no_files).next.parameters.shared.line ≡ 9
  pub refused : unit_begin 1 (parameters 2 1 9) (zeros 32) (zeros 32) ≡ record { result = 2; next = idle }
  pub idle_line : idle.parameters.shared.line ≡ 0
