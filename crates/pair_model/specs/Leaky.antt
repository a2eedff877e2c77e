-- Protocols that must not pass: each is the protocol with one part exchanged.
use Rattle.std.specs.Prelude.{ℕ, suc, ◌+◌, ◌*◌, ◌/◌, List, [], ◌∷◌, cond, ◌&&◌, eqb}
use Rattle.linear_model.specs.Bits.{bit, add_bits}
use Rattle.pair_model.specs.Scheme.{Files, Scheme, product_with, side0, side1, other, field, concat}
use Rattle.pair_model.specs.Base.{circulant_scheme}
use Rattle.pair_model.specs.Tape.{K̃, x̃, w̃, z0, r0, deal_layout}
use Rattle.pair_model.specs.Frame.{parameters, deal_kind, open_kind, mask_kind, frame, kind_of, body_of, open_layout}
use Rattle.pair_model.specs.Unit.{State, state, Stepped, refused, nothing, K̂, x̂, with_deal, with_mask, add_if_side0, step_number, take_deal, take_open, take_mask, step}
use Rattle.pair_model.specs.Dealer.{deal_frame}
use Rattle.pair_model.specs.Run.{Protocol, protocol}

-- a small scheme, in which they are refuted: one byte of key, label and inner vector, one digit, a file of one row
abbrev pub small : Scheme
small = circulant_scheme 1 1 1 (record { bytes = 2; faults = λ file. []; rows = λ file. file })

-- a string with its bit 0 cleared
abbrev pub without_bit0 : List ℕ → List ℕ
without_bit0 [] = []
without_bit0 (x ∷ s) = x / 2 * 2 ∷ s

module _ (S : Scheme) where
  -- the protocol with another step
  abbrev pub with_step : (State → List ℕ → Files → ℕ → Stepped) → Protocol
  with_step step = record { scheme = S; deal = (protocol S).deal; beginning = (protocol S).beginning; step = step }

  -- a step with other ways to take a deal and an open frame
  unfoldable pub step_by : (State → List ℕ → Stepped) → (State → List ℕ → Files → Stepped) → State → List ℕ → Files → ℕ → Stepped
  step_by onDeal on_open u f lent output_length =
      let number = step_number S u.parameters u.stage f lent output_length in
      cond (eqb number 0)
      (cond (eqb u.stage deal_kind) (onDeal u (body_of f)) (cond (eqb u.stage open_kind) (on_open u (body_of f) lent) (take_mask S u (body_of f) lent)))
      (refused number u)

  -- ---- the protocol with other open frames

  abbrev pub with_open_frame : (State → List ℕ → List ℕ) → Protocol
  with_open_frame other = with_step (step_by (λ u body. record { result = 0; written = other u body; next = with_deal S u body }) (take_open S))

  -- the key half sent bare
  unfoldable pub bare_open : State → List ℕ → List ℕ
  bare_open u body =
      frame open_kind u.parameters (concat (u.secrets.key ∷ add_bits S.key_bytes u.secrets.label (field (deal_layout S) 1 body) ∷ []))

  abbrev pub bare_key : Protocol
  bare_key = with_open_frame bare_open

  -- the unit's own body in a frame of another line
  unfoldable pub open_of_line : (State → ℕ) → State → List ℕ → List ℕ
  open_of_line line u body =
      frame open_kind (parameters u.parameters.side u.parameters.shared.session (line u)) (body_of (take_deal S u body).written)

  -- one that tells a bit of the key half
  abbrev pub telling_line : Protocol
  telling_line = with_open_frame (open_of_line (λ u. u.parameters.shared.line + bit u.secrets.key 0))

  -- line 0 whatever the unit's is
  abbrev pub lost_line : Protocol
  lost_line = with_open_frame (open_of_line (λ u. 0))

  -- ---- a mask frame without z

  unfoldable pub mask_without_z : Files → ℕ → (K̂ x̂ K̃ x̃ : List ℕ) → List ℕ
  mask_without_z lent side K̂ x̂ K̃ x̃ =
      add_if_side0 S side (add_bits S.inner_bytes (product_with S lent K̂ x̃) (product_with S lent K̃ x̂)) (product_with S lent K̂ x̂)

  unfoldable pub take_open_without_z : State → List ℕ → Files → Stepped
  take_open_without_z u body lent =
      let ŵi = mask_without_z lent u.parameters.side (K̂ S u body) (x̂ S u body) u.secrets.key_mask u.secrets.label_mask in
      record { result = 0; written = frame mask_kind u.parameters ŵi; next = with_mask S u ŵi }

  abbrev pub without_z : Protocol
  without_z = with_step (step_by (take_deal S) take_open_without_z)

  -- ---- dealers that deal by another tape than the one given

  abbrev pub dealt_by : (List ℕ → List ℕ) → Protocol
  dealt_by change =
      record {
        scheme = S;
        deal = λ shared lent tape. deal_frame S shared lent (change tape);
        beginning = (protocol S).beginning;
        step = step S;
      }

  -- one that puts w̃ in a deal: in the place of z0, so that the codes are right
  unfoldable pub with_inner_mask : List ℕ → List ℕ
  with_inner_mask tape =
      concat (K̃ S tape side0 ∷ K̃ S tape side1 ∷ x̃ S tape side0 ∷ x̃ S tape side1 ∷ w̃ S tape ∷ w̃ S tape ∷ r0 S tape ∷ [])

  abbrev pub inner_mask_dealt : Protocol
  inner_mask_dealt = dealt_by with_inner_mask

  -- one that uses K̃1 unevenly: its bit 0 is kept only where bit 0 of K̃0 is set, which is cleared. Each K̃1 occurs, with bit 0 in one tape of
  -- four, so that unit 0 learns no more than odds; unit 1 is told bit 0 of the other's key half
  unfoldable pub with_uneven_mask : List ℕ → List ℕ
  with_uneven_mask tape =
      concat (without_bit0 (K̃ S tape side0) ∷ cond (eqb (bit (K̃ S tape side0) 0) 1) (K̃ S tape side1) (without_bit0 (K̃ S tape side1))
      ∷ x̃ S tape side0 ∷ x̃ S tape side1 ∷ w̃ S tape ∷ z0 S tape ∷ r0 S tape ∷ [])

  abbrev pub uneven_mask_dealt : Protocol
  uneven_mask_dealt = dealt_by with_uneven_mask

  -- ---- a beginning whose state shows the other's key half, where the deal's K̃ will stand

  abbrev pub with_key_mask : List ℕ → State → State
  with_key_mask key_mask u =
      let s = u.secrets in
      state u.set u.parameters u.stage
      (record { key = s.key; label = s.label; key_mask = key_mask; label_mask = s.label_mask; z = s.z; r = s.r; own_mask = s.own_mask })

  abbrev pub other_key_shown : Protocol
  other_key_shown =
      record {
        scheme = S;
        deal = (protocol S).deal;
        beginning = λ a i. let b = (protocol S).beginning a i in record { result = b.result; next = with_key_mask (a.key (other i)) b.next };
        step = step S;
      }

  -- ---- mask frames with another body: none, the sender's key half, or a part of the frame that it took

  abbrev pub take_open_writing : (State → List ℕ → List ℕ) → State → List ℕ → Files → Stepped
  take_open_writing other u body lent =
      record { result = 0; written = frame mask_kind u.parameters (other u body); next = (take_open S u body lent).next }

  abbrev pub empty_mask : Protocol
  empty_mask = with_step (step_by (take_deal S) (take_open_writing (λ u body. [])))

  abbrev pub half_for_mask : Protocol
  half_for_mask = with_step (step_by (take_deal S) (take_open_writing (λ u body. u.secrets.key)))

  abbrev pub copied_mask : Protocol
  copied_mask = with_step (step_by (take_deal S) (take_open_writing (λ u body. field (open_layout S) 0 body)))

  -- ---- a unit that refuses every frame

  abbrev pub refuses_all : Protocol
  refuses_all = with_step (λ u f lent output_length. refused 13 u)

  -- ---- a unit that takes a deal in every stage

  unfoldable pub deal_again : State → List ℕ → Files → ℕ → Stepped
  deal_again u f lent output_length =
      let s = step S u f lent output_length in
      cond (eqb s.result 7 && eqb (kind_of f) deal_kind) (take_deal S u (body_of f)) s

  abbrev pub second_deal : Protocol
  second_deal = with_step deal_again

  -- ---- a number that tells a bit of the key half: 4 for 3 where it is set

  unfoldable pub number_by_key : State → List ℕ → Files → ℕ → Stepped
  number_by_key u f lent output_length =
      let s = step S u f lent output_length in
      record { result = cond (eqb s.result 3) (3 + bit u.secrets.key 0) s.result; written = s.written; next = s.next }

  abbrev pub telling_number : Protocol
  telling_number = with_step number_by_key

  -- ---- a refusal that clears the secrets

  unfoldable pub cleared_if_refused : State → List ℕ → Files → ℕ → Stepped
  cleared_if_refused u f lent output_length =
      let s = step S u f lent output_length in
      cond (eqb s.result 0) s (refused s.result (state u.set u.parameters u.stage (nothing S)))

  abbrev pub clearing_refusal : Protocol
  clearing_refusal = with_step cleared_if_refused

  -- ---- a unit that takes any frame at one stage, and is one stage further then

  unfoldable pub taken_at : ℕ → State → List ℕ → Files → ℕ → Stepped
  taken_at stage u f lent output_length =
      cond (eqb u.stage stage)
      (record { result = 0; written = []; next = state u.set u.parameters (suc stage) u.secrets })
      (step S u f lent output_length)

  abbrev pub takes_at : ℕ → Protocol
  takes_at stage = with_step (taken_at stage)

  -- ---- a beginning that is told as refused

  abbrev pub refused_beginning : Protocol
  refused_beginning =
      record {
        scheme = S;
        deal = (protocol S).deal;
        beginning = λ a i. record { result = 2; next = ((protocol S).beginning a i).next };
        step = step S;
      }
