-- The unit: how it begins, what a step returns, writes and leaves.
use Rattle.std.specs.Prelude.{ℕ, ◌-◌, ◌*◌, List, [], ◌∷◌, ◌++◌, Bool, cond, not, ltb, eqb, length}
use Rattle.linear_model.specs.Bits.{zeros, add_bits}
use Rattle.linear_model.specs.Trits.{fit_trits, inner_share}
use Rattle.numbers.specs.Number.{Condition, ◌when◌, first, only_if}
use Rattle.numbers.specs.Sets.{number_in}
use Rattle.pair_model.specs.Scheme.{Files, Reading, reads_nothing, bad_length, faults_in, Scheme, product_with, field, concat}
use Rattle.pair_model.specs.Tape.{deal_layout}
use Rattle.pair_model.specs.Frame.{Parameters, parameters, deal_kind, open_kind, mask_kind, share_kind, frame, kind_of, body_of, open_layout, frame_bytes}
use Rattle.pair_model.specs.Header.{read_header, refused_with, kind_read, side_read, session_read, line_conditions}
use Rattle.pair_model.specs.Evaluator.{code_of}
use Rattle.pair_model.specs.Base.{scheme_of, base}

-- ---- states: the stage is the kind of frame that the unit waits for, 4 where it is done and 0 where it is idle

abbrev pub idle_stage : ℕ
idle_stage = 0

abbrev pub done_stage : ℕ
done_stage = 4

-- what a unit keeps to itself: its halves, its deal and its own mask ŵi
pub record Secrets : Type 0 where
  pub key : List ℕ
  pub label : List ℕ
  pub key_mask : List ℕ
  pub label_mask : List ℕ
  pub z : List ℕ
  pub r : List ℕ
  pub own_mask : List ℕ

pub record State : Type 0 where
  pub set : ℕ
  pub parameters : Parameters
  pub stage : ℕ
  pub secrets : Secrets

abbrev pub state : ℕ → Parameters → ℕ → Secrets → State
state set t stage s = record { set = set; parameters = t; stage = stage; secrets = s }

-- what a beginning returns and gives
pub record Beginning : Type 0 where
  pub result : ℕ
  pub next : State

-- what a step returns, writes and gives back
pub record Stepped : Type 0 where
  pub result : ℕ
  pub written : List ℕ
  pub next : State

-- a refusal writes nothing and changes nothing
abbrev pub refused : ℕ → State → Stepped
refused number u = record { result = number; written = []; next = u }

-- the side that a frame must name: the unit's own in a deal, the other's in an open or mask frame
abbrev pub expected_side : ℕ → ℕ → ℕ
expected_side kind side = cond (eqb kind deal_kind) side (1 - side)

module _ (S : Scheme) where
  -- halves alone, and no deal yet
  abbrev pub halves : List ℕ → List ℕ → Secrets
  halves key label =
      record {
        key = key;
        label = label;
        key_mask = zeros S.key_bytes;
        label_mask = zeros S.key_bytes;
        z = zeros S.inner_bytes;
        r = zeros (2 * S.inner_bytes);
        own_mask = zeros S.inner_bytes;
      }

  -- zeros for all
  abbrev pub nothing : Secrets
  nothing = halves (zeros S.key_bytes) (zeros S.key_bytes)

  -- waiting for a deal
  abbrev pub begun : Parameters → List ℕ → List ℕ → State
  begun t key label = state S.set t deal_kind (halves key label)

  -- done, where the unit keeps its set
  abbrev pub done : ℕ → Parameters → State
  done set t = state set t done_stage nothing

-- idle, of set 1 and line 0 whatever the unit was
abbrev pub idle : State
idle = state 1 (parameters 0 0 0) idle_stage (nothing base)

module _ (S : Scheme) where
  -- ---- the beginning

  unfoldable pub begin_conditions : Parameters → List ℕ → List ℕ → List Condition
  begin_conditions t key label =
      1 when not (eqb (length key) S.key_bytes) ∷ 1 when not (eqb (length label) S.key_bytes) ∷ 2 when ltb 1 t.side ∷ []

  abbrev pub begin_number : Parameters → List ℕ → List ℕ → ℕ
  begin_number t key label = first (begin_conditions t key label)

  -- a refused beginning gives an idle state
  unfoldable pub begin : Parameters → List ℕ → List ℕ → Beginning
  begin t key label =
      let number = begin_number t key label in
      record { result = number; next = cond (eqb number 0) (begun S t key label) idle }

  -- ---- what a unit computes

  -- side 0 adds b to a, side 1 leaves a
  abbrev pub add_if_side0 : ℕ → List ℕ → List ℕ → List ℕ
  add_if_side0 side a b = cond (eqb side 0) (add_bits S.inner_bytes a b) a

  -- ŵi = K̂ × x̃i + K̃i × x̂ + zi modulo 2; side 0 also adds K̂ × x̂
  unfoldable pub mask_of : Files → ℕ → (K̂ x̂ K̃ x̃ z : List ℕ) → List ℕ
  mask_of lent side K̂ x̂ K̃ x̃ z =
      add_if_side0 side
      (add_bits S.inner_bytes (add_bits S.inner_bytes (product_with S lent K̂ x̃) (product_with S lent K̃ x̂)) z)
      (product_with S lent K̂ x̂)

  -- the code share, of ŵ and the unit's r
  unfoldable pub share_of : Files → ℕ → (ŵ r : List ℕ) → List ℕ
  share_of lent side ŵ r = code_of S lent (inner_share S.inner_bytes side ŵ r)

  -- ---- the number of a step

  -- what a step reads of its files, by the frame's first byte: at 3 what is read for the rows, at 2 for the product, and else nothing
  abbrev pub step_reading : ℕ → Reading
  step_reading kind = cond (eqb kind mask_kind) S.rows_reading (cond (eqb kind open_kind) S.product_reading reads_nothing)

  -- the most that a step may write: an open frame
  abbrev pub least_output : ℕ
  least_output = frame_bytes S open_kind

  -- whether the r of a deal frame has a trit with both bits set
  abbrev pub unfit_deal : List ℕ → Bool
  unfit_deal f = not (fit_trits S.inner_bytes (8 * S.inner_bytes) (field (deal_layout S) 3 (body_of f)))

  -- the table's conditions in its order: the lengths of the output slice and of what is read of the files
  abbrev pub length_conditions : List ℕ → Files → ℕ → List Condition
  length_conditions f lent output_length = 1 when ltb output_length least_output ∷ 1 when bad_length (step_reading (kind_of f)) lent ∷ []

  -- what the frame is read to, by the unit's parameters and stage alone: no half and nothing of a deal is read
  abbrev pub header_conditions : Parameters → ℕ → List ℕ → List Condition
  header_conditions t stage f =
      let h = read_header S deal_kind mask_kind f in
      3 when refused_with 3 h
      ∷ 4 when refused_with 4 h
      ∷ 5 when not (eqb (session_read h) t.shared.session)
      ∷ 6 when not (eqb (side_read h) (expected_side (kind_read h) t.side))
      ∷ 7 when not (eqb (kind_read h) stage)
      ∷ []

  -- what the frame brings: the files that are read, or the trits of a deal
  abbrev pub content_conditions : List ℕ → Files → List Condition
  content_conditions f lent = faults_in (step_reading (kind_of f)) lent ++ only_if (eqb (kind_of f) deal_kind) (10 when unfit_deal f ∷ [])

  unfoldable pub step_conditions : Parameters → ℕ → List ℕ → Files → ℕ → List Condition
  step_conditions t stage f lent output_length =
      length_conditions f lent output_length ++ header_conditions t stage f ++ content_conditions f lent ++ line_conditions t.shared.line f

  abbrev pub step_number : Parameters → ℕ → List ℕ → Files → ℕ → ℕ
  step_number t stage f lent output_length = first (step_conditions t stage f lent output_length)

  -- ---- steps

  -- the state with a deal taken
  abbrev pub with_deal : State → List ℕ → State
  with_deal u body =
      state u.set u.parameters open_kind (record {
        key = u.secrets.key;
        label = u.secrets.label;
        key_mask = field (deal_layout S) 0 body;
        label_mask = field (deal_layout S) 1 body;
        z = field (deal_layout S) 2 body;
        r = field (deal_layout S) 3 body;
        own_mask = zeros S.inner_bytes;
      })

  -- it takes a deal, and writes its open frame
  unfoldable pub take_deal : State → List ℕ → Stepped
  take_deal u body =
      let K̃ = field (deal_layout S) 0 body in
      let x̃ = field (deal_layout S) 1 body in
      record {
        result = 0;
        written = frame open_kind u.parameters (concat (add_bits S.key_bytes u.secrets.key K̃ ∷ add_bits S.key_bytes u.secrets.label x̃ ∷ []));
        next = with_deal u body;
      }

  -- K̂ and x̂: the sums of both open bodies, the unit's own and the other's
  abbrev pub K̂ : State → List ℕ → List ℕ
  K̂ u body =
      add_bits S.key_bytes (add_bits S.key_bytes u.secrets.key u.secrets.key_mask) (field (open_layout S) 0 body)

  abbrev pub x̂ : State → List ℕ → List ℕ
  x̂ u body =
      add_bits S.key_bytes (add_bits S.key_bytes u.secrets.label u.secrets.label_mask) (field (open_layout S) 1 body)

  -- the state with its own mask ŵi made
  abbrev pub with_mask : State → List ℕ → State
  with_mask u ŵi =
      state u.set u.parameters mask_kind (record {
        key = u.secrets.key;
        label = u.secrets.label;
        key_mask = u.secrets.key_mask;
        label_mask = u.secrets.label_mask;
        z = u.secrets.z;
        r = u.secrets.r;
        own_mask = ŵi;
      })

  -- it takes the other's open frame, and writes its mask frame
  unfoldable pub take_open : State → List ℕ → Files → Stepped
  take_open u body lent =
      let ŵi = mask_of lent u.parameters.side (K̂ u body) (x̂ u body) u.secrets.key_mask u.secrets.label_mask u.secrets.z in
      record { result = 0; written = frame mask_kind u.parameters ŵi; next = with_mask u ŵi }

  -- it takes the other's mask frame, writes its share frame and is done; ŵ = ŵ0 + ŵ1
  unfoldable pub take_mask : State → List ℕ → Files → Stepped
  take_mask u body lent =
      record {
        result = 0;
        written = frame share_kind u.parameters (share_of lent u.parameters.side (add_bits S.inner_bytes u.secrets.own_mask body) u.secrets.r);
        next = done S u.set u.parameters;
      }

  -- by what the unit waits for
  unfoldable pub advance : State → List ℕ → Files → Stepped
  advance u body lent =
      cond (eqb u.stage deal_kind) (take_deal u body) (cond (eqb u.stage open_kind) (take_open u body lent) (take_mask u body lent))

  unfoldable pub step : State → List ℕ → Files → ℕ → Stepped
  step u f lent output_length =
      let number = step_number u.parameters u.stage f lent output_length in
      cond (eqb number 0) (advance u (body_of f) lent) (refused number u)

-- ---- of a set

-- the beginning of a unit of a set
unfoldable pub unit_begin : ℕ → Parameters → List ℕ → List ℕ → Beginning
unit_begin set t key label =
    let number = number_in set (begin_conditions (scheme_of set) t key label) in
    record { result = number; next = cond (eqb number 0) (begun (scheme_of set) t key label) idle }

-- and its step, in the scheme that its set names
abbrev pub unit_step : State → List ℕ → Files → ℕ → Stepped
unit_step u f lent output_length = step (scheme_of u.set) u f lent output_length
