-- A state that is written reads back; and the calls over a slice by its length.
use mathlib.Core.Path.{◌≡◌, refl, sym, ap, ◌∙◌}
use mathlib.Core.List.{List, [], ◌∷◌}
use mathlib.Core.Bool.{Bool, true, false, cond, not}
use Prim.Native.Nat.{ℕ, ◌-◌, ◌≤◌}
use native.Mathlib.Omega.{arith}
use borrow.Author.Tests.{eq-eqb, ne_eqb}
use lib.Dec.{eqb}
use lib.ListN.{length, get_or, take}
use lib.Seq.{take_at}
use Rattle.linear_model.specs.Bits.{Bytes, zeros}
use Rattle.linear_model.proofs.Strings.{bytes_append, bytes_zeros}
use Rattle.numbers.specs.Number.{◌when◌, first}
use Rattle.numbers.specs.Sets.{is_set, counted, number_in}
use Rattle.pair_model.specs.Scheme.{Files, Scheme, field, concat}
use Rattle.pair_model.specs.Base.{scheme_of}
use Rattle.pair_model.specs.Frame.{Parameters, parameters, header, body_of}
use Rattle.pair_model.specs.Unit.{State, state, Stepped, begun, idle, begin_conditions, step_conditions, advance, step, unit_begin}
use Rattle.pair_model.specs.StateSlice.{string_room, trits_room, in_room, rooms, in_rooms, state_header, state_bytes, encode_state, decode_as, decode_state, set_in, Sized, bad_state, slice_step, pair_begin_number, pair_begin_state, pair_step_number, pair_step_state, pair_step_written}
use Rattle.pair_model.proofs.Theorem.Layouts.{Laid, field-concat}
use Rattle.pair_model.proofs.Theorem.StepLaws.{session_back, number_for, step-accepted, step_result, step-refused}

-- ---- strings in their rooms

-- the one law of a room: what is put there is read from its front
pub room_front : (room n : ℕ) (s : List ℕ) → length s ≡ n → take n (in_room room s) ≡ s
room_front room n s e = take_at s (zeros (room - length s)) n e

-- a string that is no longer than its room fills it with zeros
pub bytes_room : (room : ℕ) {n : ℕ} {s : List ℕ} → n ≤ room → Bytes n s → Bytes room (in_room room s)
bytes_room room {n} {s} l h =
    let all = bytes_append h (bytes_zeros (room - length s)) in
    record { size = all.size ∙ (omega (arith, h.size)); small = all.small }

-- a scheme whose strings have room in a slice
pub record HasRoom (S : Scheme) : Type 0 where
  pub key : S.key_bytes ≤ string_room
  pub inner : S.inner_bytes ≤ string_room

module _ (S : Scheme) (has_room : HasRoom S) (u : State) (h : Sized S u) where
  pub laid-secrets : Laid rooms (in_rooms u.secrets)
  laid-secrets =
      let n = has_room.key in
      let m = has_room.inner in (
        bytes_room string_room n h.key,
        (
          bytes_room string_room n h.label,
          (
            bytes_room string_room n h.key_mask,
            (
              bytes_room string_room n h.label_mask,
              (bytes_room string_room m h.z, (bytes_room trits_room (omega arith) h.r, (bytes_room string_room m h.own_mask, tt))),
            ),
          ),
        ),
      )

  -- a state reads back from its slice
  pub decode_encode : u.set ≡ S.set → decode_as S (encode_state u) ≡ u
  unfolding decode_as encode_state state_header header
  decode_encode e =
      λ i. state (sym e i) (parameters u.parameters.side (session_back u.parameters.shared.session h.shared.session i) u.parameters.shared.line) u.stage
      (record {
        key = part 0 string_room u.secrets.key refl h.key i;
        label = part 1 string_room u.secrets.label refl h.label i;
        key_mask = part 2 string_room u.secrets.key_mask refl h.key_mask i;
        label_mask = part 3 string_room u.secrets.label_mask refl h.label_mask i;
        z = part 4 string_room u.secrets.z refl h.z i;
        r = part 5 trits_room u.secrets.r refl h.r i;
        own_mask = part 6 string_room u.secrets.own_mask refl h.own_mask i;
      })
    where
      part : (i room : ℕ) (s : List ℕ) → get_or (in_rooms u.secrets) i [] ≡ in_room room s → {n : ℕ} → Bytes n s
          → take n (field rooms i (concat (in_rooms u.secrets))) ≡ s
      part i room s q {n} b =
          ap (take n) (field-concat rooms (in_rooms u.secrets) laid-secrets i ∙ q) ∙ room_front room n s b.size

-- and its set
pub set_encoded : (u : State) → set_in (encode_state u) ≡ counted u.set
unfolding encode_state state_header header
set_encoded u = refl

-- ---- a slice of another length

module _ (s : List ℕ) (h : length s ≡ state_bytes → ⊥) where
  pub begin_short : (set : ℕ) (t : Parameters) (key label : List ℕ)
      → (pair_begin_number set t key label s ≡ cond (is_set set) 1 14) × (s ≡ pair_begin_state set t key label s)
  unfolding pair_begin_number pair_begin_state number_in first
  begin_short set t key label = (rw (ne_eqb (length s) state_bytes h) (pick (is_set set)), rw (ne_eqb (length s) state_bytes h))
    where
      pick : (b : Bool) → ◌≡◌ {A = ℕ} (cond (not b) 14 1) (cond b 1 14)
      pick true = refl
      pick false = refl

  pub step_short : (f : List ℕ) (lent : Files) (n : ℕ) → (1 ≡ pair_step_number s f lent n) × (s ≡ pair_step_state s f lent n) × (pair_step_written s f lent n ≡ [])
  unfolding pair_step_number pair_step_state pair_step_written first
  step_short f lent n = (rw (ne_eqb (length s) state_bytes h), rw (ne_eqb (length s) state_bytes h), rw (ne_eqb (length s) state_bytes h))

-- ---- a slice of its length

-- the number of a step, where another condition before it does not hold
after-length : (S : Scheme) (u : State) (f : List ℕ) (lent : Files) (n : ℕ) {b : Bool} → b ≡ false
    → (step S u f lent n).result ≡ first (1 when b ∷ step_conditions S u.parameters u.stage f lent n)
unfolding first
after-length S u f lent n e = rw e (step_result S u f lent n)

module _ (s : List ℕ) (h : length s ≡ state_bytes) where
  pub begin_long : (set : ℕ) (t : Parameters) (key label : List ℕ)
      → ((unit_begin set t key label).result ≡ pair_begin_number set t key label s)
      × (encode_state (unit_begin set t key label).next ≡ pair_begin_state set t key label s)
  unfolding pair_begin_number pair_begin_state number_in first unit_begin
  begin_long set t key label =
      (rw (eq-eqb (length s) state_bytes h), rw (eq-eqb (length s) state_bytes h) (pick (eqb (number_in set (begin_conditions (scheme_of set) t key label)) 0)))
    where
      pick : (b : Bool) → encode_state (cond b (begun (scheme_of set) t key label) idle)
          ≡ cond b (encode_state (begun (scheme_of set) t key label)) (encode_state idle)
      pick true = refl
      pick false = refl

  module _ (f : List ℕ) (lent : Files) (n : ℕ) where
    abbrev S : Scheme
    S = scheme_of (set_in s)

    pub by_number : (slice_step s f lent n).result ≡ pair_step_number s f lent n
    unfolding pair_step_number first
    by_number = after-length S (decode_state s) f lent n {b = bad_state s} (rw (eq-eqb (length s) state_bytes h))

    pub by_written : (slice_step s f lent n).written ≡ pair_step_written s f lent n
    unfolding pair_step_written
    by_written = rw (eq-eqb (length s) state_bytes h)

    abbrev number : ℕ
    number = number_for S (decode_state s) f lent n

    -- a refused step leaves the slice and writes nothing
    pub slice_refused : (number ≡ 0 → ⊥) → (number ≡ pair_step_number s f lent n) × (s ≡ pair_step_state s f lent n) × ([] ≡ pair_step_written s f lent n)
    unfolding pair_step_state
    slice_refused z =
        let e = step_result S (decode_state s) f lent n in
        let r = step-refused S (decode_state s) f lent n (λ q. z (sym e ∙ q)) in (
          sym e ∙ by_number,
          rw (← by_number, ne_eqb (slice_step s f lent n).result 0 (λ q. z (sym e ∙ q))),
          sym (ap (λ (t : Stepped). t.written) r) ∙ by_written,
        )

    -- an accepted one puts the next state there
    pub slice_accepted : number ≡ 0
        → (0 ≡ pair_step_number s f lent n)
        × (encode_state (advance S (decode_state s) (body_of f) lent).next ≡ pair_step_state s f lent n)
        × ((advance S (decode_state s) (body_of f) lent).written ≡ pair_step_written s f lent n)
    unfolding pair_step_state
    slice_accepted z =
        let e = step_result S (decode_state s) f lent n ∙ z in
        let r = step-accepted S (decode_state s) f lent n z in (
          sym e ∙ by_number,
          sym (rw (← by_number, eq-eqb (slice_step s f lent n).result 0 e) (ap (λ (t : Stepped). encode_state t.next) r)),
          sym (ap (λ (t : Stepped). t.written) r) ∙ by_written,
        )
