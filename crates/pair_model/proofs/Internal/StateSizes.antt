-- What beginnings and steps give can stand in a slice, and what steps write are bytes.
use mathlib.Core.Path.{◌≡◌, refl, sym, ap, ◌∙◌, subst}
use mathlib.Core.List.{List, [], ◌∷◌}
use mathlib.Core.Bool.{Bool, true, false, cond}
use Prim.Native.Nat.{ℕ, zero, suc, ◌+◌, ◌/◌, ◌<◌, ◌≤◌}
use native.Mathlib.Nat.{suc-ne-zero}
use native.Mathlib.Omega.{arith}
use borrow.Author.Tests.{ne_eqb}
use lib.Dec.{T, eqb, eqb→eq, leb, lit<, lit≤}
use lib.ListN.{get_or, take, drop}
use Rattle.linear_model.specs.Bits.{Bytes, add_bits}
use Rattle.linear_model.proofs.Strings.{bytes_add, bytes_append, bytes_slice, bytes_zeros}
use Rattle.numbers.proofs.Numbers.{holds}
use Rattle.numbers.specs.Sets.{is_set, set_bits}
use Rattle.numbers.proofs.Sets.{each, counted-set, counted_is, number_in_lem, number-none}
use Rattle.pair_model.specs.Scheme.{Files, Scheme, layout_bytes, field}
use Rattle.pair_model.specs.Base.{scheme_of, base}
use Rattle.pair_model.specs.Tape.{deal_layout}
use Rattle.pair_model.specs.Frame.{Parameters, parameters, FitsHeader, deal_kind, open_kind, mask_kind, share_kind, header, frame, header_bytes, body_of, open_layout, frame_bytes}
use Rattle.pair_model.specs.Unit.{State, state, Stepped, halves, nothing, begun, idle, share_of, begin_conditions, begin_number, take_deal, take_open, take_mask, advance, step, unit_begin, unit_step}
use Rattle.pair_model.specs.StateSlice.{string_room, rooms, in_rooms, state_header, state_header_bytes, state_bytes, encode_state, decode_as, decode_state, set_in, Sized, slice_step}
use Rattle.pair_model.specs.Calls.{AreBytes, SizedState}
use Rattle.pair_model.proofs.Theorem.Layouts.{bytes_one, Laid, fields_of, laid_fields, bytes_concat, bytes_drop}
use Rattle.pair_model.proofs.Theorem.MaskLaws.{bytes_mask_of}
use Rattle.pair_model.proofs.Theorem.StepLaws.{number_for, step-accepted, step_result, step-refused, fits}
use Rattle.pair_model.proofs.Theorem.ShareLaws.{bytes_code}
use Rattle.pair_model.proofs.Internal.Begins.{begin_fits}
use Rattle.pair_model.proofs.Internal.Encodings.{HasRoom, laid-secrets, decode_encode, set_encoded}

-- ---- frames and slices

bytes_header : (kind : ℕ) (t : Parameters) → kind < 256 → t.side < 256 → FitsHeader t.shared → Bytes header_bytes (header kind t)
unfolding header
bytes_header kind t hk hs ht = record { size = refl; small = small }
  where
    small : AreBytes (header kind t)
    small zero = hk
    small (suc zero) = hs
    small (suc (suc zero)) = omega arith
    small (suc (suc (suc zero))) = omega arith
    small (suc (suc (suc (suc zero)))) = omega arith
    small (suc (suc (suc (suc (suc zero))))) = omega arith
    small (suc (suc (suc (suc (suc (suc zero)))))) = ht.line
    small (suc (suc (suc (suc (suc (suc (suc i))))))) = lit< tt

pub bytes_frame : (kind : ℕ) (t : Parameters) {n : ℕ} {body : List ℕ} → kind < 256 → t.side < 256 → FitsHeader t.shared → Bytes n body → Bytes (header_bytes + n) (frame kind t body)
unfolding frame
bytes_frame kind t hk hs ht h = bytes_append (bytes_header kind t hk hs ht) h

module _ (S : Scheme) (has_room : HasRoom S) where
  -- the bytes of a state that a slice can hold
  bytes_of_state : (u : State) → u.set < 256 → Sized S u → Bytes state_bytes (encode_state u)
  unfolding encode_state state_header
  bytes_of_state u l h =
      bytes_append (bytes_append (bytes_header u.stage u.parameters h.stage h.side h.shared) (bytes_one u.set l))
      (bytes_concat rooms (in_rooms u.secrets) (laid-secrets S has_room u h))

  -- a slice can hold the state that its bytes decode to
  sized_as : (s : List ℕ) → Bytes state_bytes s → Sized S (decode_as S s)
  unfolding decode_as field fields_of
  sized_as s h =
      record {
        stage = h.small 0;
        side = h.small 1;
        shared = record { session = omega (arith, h.small 2, h.small 3, h.small 4, h.small 5); line = h.small 6 };
        key = front cut.0 has_room.key;
        label = front cut.1.0 has_room.key;
        key_mask = front cut.1.1.0 has_room.key;
        label_mask = front cut.1.1.1.0 has_room.key;
        z = front cut.1.1.1.1.0 has_room.inner;
        r = front cut.1.1.1.1.1.0 (omega (arith, has_room.inner));
        own_mask = front cut.1.1.1.1.1.1.0 has_room.inner;
      }
    where
      cut : Laid rooms (fields_of rooms (drop state_header_bytes s))
      cut = laid_fields rooms (drop state_header_bytes s) (bytes_drop state_header_bytes h)

      front : {room n : ℕ} {t : List ℕ} → Bytes room t → n ≤ room → Bytes n (take n t)
      front {room} {n} {t} b l = bytes_slice room 0 n t b (omega (arith, l))

module _ (S : Scheme) where
  -- ---- beginnings

  -- without a deal
  sized_halves : (set : ℕ) (t : Parameters) (stage : ℕ) (key label : List ℕ) → stage < 256 → t.side < 256 → FitsHeader t.shared
      → Bytes S.key_bytes key → Bytes S.key_bytes label → Sized S (state set t stage (halves S key label))
  sized_halves set t stage key label hn hs ht hk hl =
      record {
        stage = hn;
        side = hs;
        shared = ht;
        key = hk;
        label = hl;
        key_mask = bytes_zeros S.key_bytes;
        label_mask = bytes_zeros S.key_bytes;
        z = bytes_zeros S.inner_bytes;
        r = bytes_zeros _;
        own_mask = bytes_zeros S.inner_bytes;
      }

  -- with zeros for all: idle or done
  sized_cleared : (set : ℕ) (t : Parameters) (stage : ℕ) → stage < 256 → t.side < 256 → FitsHeader t.shared → Sized S (state set t stage (nothing S))
  sized_cleared set t stage hn hs ht =
      sized_halves set t stage (nothing S).key (nothing S).label hn hs ht (bytes_zeros S.key_bytes) (bytes_zeros S.key_bytes)

  -- of halves that are bytes and accepted
  sized_begun : (t : Parameters) (key label : List ℕ) → FitsHeader t.shared → AreBytes key → AreBytes label
      → begin_number S t key label ≡ 0 → Sized S (begun S t key label)
  sized_begun t key label hs hk hl e =
      let f = begin_fits S t key label e in
      sized_halves S.set t deal_kind key label (lit< tt) (omega (arith, f.side_small)) hs
      (record { size = f.key-length; small = hk }) (record { size = f.label-length; small = hl })

  -- ---- steps

  -- the next state, of the same set, and what is written
  record Held (set : ℕ) (s : Stepped) : Type 0 where
    next : Sized S s.next
    kept : s.next.set ≡ set
    written : AreBytes s.written

  module _ (u : State) (h : Sized S u) (body : List ℕ) (lent : Files) where
    held_deal : Bytes (layout_bytes (deal_layout S)) body → Held u.set (take_deal S u body)
    unfolding take_deal field fields_of
    held_deal b =
        record {
          next =
              record {
                stage = lit< tt;
                side = h.side;
                shared = h.shared;
                key = h.key;
                label = h.label;
                key_mask = cut.0;
                label_mask = cut.1.0;
                z = cut.1.1.0;
                r = cut.1.1.1.0;
                own_mask = bytes_zeros S.inner_bytes;
              };
          kept = refl;
          written =
              (bytes_frame open_kind u.parameters (lit< tt) h.side h.shared
              (bytes_concat (open_layout S) (half u.secrets.key 0 ∷ half u.secrets.label 1 ∷ []) (bytes_add n _ _, (bytes_add n _ _, tt)))).small;
        }
      where
        n : ℕ
        n = S.key_bytes

        half : List ℕ → ℕ → List ℕ
        half a i = add_bits n a (field (deal_layout S) i body)

        cut : Laid (deal_layout S) (fields_of (deal_layout S) body)
        cut = laid_fields (deal_layout S) body b

    held_open : Held u.set (take_open S u body lent)
    unfolding take_open
    held_open =
        record {
          next =
              record {
                stage = lit< tt;
                side = h.side;
                shared = h.shared;
                key = h.key;
                label = h.label;
                key_mask = h.key_mask;
                label_mask = h.label_mask;
                z = h.z;
                r = h.r;
                own_mask = bytes_mask_of S lent _ _ _ _ _ _;
              };
          kept = refl;
          written = (bytes_frame mask_kind u.parameters (lit< tt) h.side h.shared (bytes_mask_of S lent _ _ _ _ _ _)).small;
        }

    held_mask : Held u.set (take_mask S u body lent)
    unfolding take_mask share_of
    held_mask =
        record {
          next = sized_cleared u.set u.parameters 4 (lit< tt) h.side h.shared;
          kept = refl;
          written = (bytes_frame share_kind u.parameters (lit< tt) h.side h.shared (bytes_code S lent _)).small;
        }

    held_advance : (u.stage ≡ deal_kind → Bytes (layout_bytes (deal_layout S)) body) → Held u.set (advance S u body lent)
    unfolding advance
    held_advance b = pick (eqb u.stage deal_kind) refl (eqb u.stage open_kind)
      where
        pick : (d : Bool) → eqb u.stage deal_kind ≡ d → (o : Bool)
            → Held u.set (cond d (take_deal S u body) (cond o (take_open S u body lent) (take_mask S u body lent)))
        pick true e o = held_deal (b (eqb→eq u.stage deal_kind (holds _ e)))
        pick false e true = held_open
        pick false e false = held_mask

  module _ (u : State) (h : Sized S u) (f : List ℕ) (small : AreBytes f) (lent : Files) (output_length : ℕ) where
    held_step : Held u.set (step S u f lent output_length)
    held_step = pick (number_for S u f lent output_length) refl
      where
        pick : (n : ℕ) → number_for S u f lent output_length ≡ n → Held u.set (step S u f lent output_length)
        pick zero e =
            let long = (fits S u.parameters u.stage f lent output_length e).frame-length in
            subst (Held u.set) (sym (step-accepted S u f lent output_length e))
            (held_advance u h (body_of f) lent (λ d. bytes_drop header_bytes {s = f} (record { size = long ∙ ap (frame_bytes S) d; small = small })))
        pick (suc n) e =
            subst (Held u.set) (sym (step-refused S u f lent output_length (λ z. suc-ne-zero n (sym e ∙ sym (step_result S u f lent output_length) ∙ z))))
            (record { next = h; kept = refl; written = λ i. lit< tt })

-- ---- in each set

has_room : (set : ℕ) → is_set set ≡ true → HasRoom (scheme_of set)
has_room = each (λ set. HasRoom (scheme_of set)) (by 1 tt) (by 2 tt) (by 3 tt)
  where
    by : (set : ℕ) → T (leb (set_bits set / 8) string_room) → HasRoom (scheme_of set)
    by set h = record { key = lit≤ h; inner = lit≤ h }

pub bytes_encoded : (u : State) → SizedState u → Bytes state_bytes (encode_state u)
bytes_encoded u h = bytes_of_state (scheme_of u.set) (has_room u.set h.set) u (each (λ set. set < 256) (lit< tt) (lit< tt) (lit< tt) u.set h.set) h.sized

-- what is written reads back
pub read_back_lem : (u : State) → SizedState u → decode_state (encode_state u) ≡ u
read_back_lem u h =
    ap (λ (set : ℕ). decode_as (scheme_of set) (encode_state u)) (set_encoded u ∙ counted_is u.set h.set)
    ∙ decode_encode (scheme_of u.set) (has_room u.set h.set) u h.sized refl

-- any bytes decode to a state that a slice can hold
pub sized_decoded : (s : List ℕ) → Bytes state_bytes s → SizedState (decode_state s)
unfolding decode_as
sized_decoded s h =
    record { set = counted-set (get_or s header_bytes 0); sized = sized_as (scheme_of (set_in s)) (has_room (set_in s) (counted-set (get_or s header_bytes 0))) s h }

-- the idle state is one
sized_idle : SizedState idle
sized_idle = record { set = refl; sized = sized_cleared base 1 (parameters 0 0 0) 0 (lit< tt) (lit< tt) (record { session = lit< tt; line = lit< tt }) }

-- and what a beginning gives, of halves that are bytes, refused or not
pub sized_begin : (set : ℕ) (t : Parameters) (key label : List ℕ) → FitsHeader t.shared → AreBytes key → AreBytes label
    → SizedState (unit_begin set t key label).next
unfolding unit_begin
sized_begin set t key label hs hk hl = pick (is_set set) refl (begin_number (scheme_of set) t key label) refl
  where
    pick : (b : Bool) → is_set set ≡ b → (n : ℕ) → begin_number (scheme_of set) t key label ≡ n → SizedState (unit_begin set t key label).next
    pick true i zero e =
        rw (number_in_lem set (begin_conditions (scheme_of set) t key label) i, e) (record { set = i; sized = sized_begun (scheme_of set) t key label hs hk hl e })
    pick true i (suc n) e =
        rw (number_in_lem set (begin_conditions (scheme_of set) t key label) i, e, ne_eqb (suc n) 0 (suc-ne-zero n)) sized_idle
    pick false i n e = rw (number-none set (begin_conditions (scheme_of set) t key label) i) sized_idle

module _ (u : State) (h : SizedState u) (f : List ℕ) (small : AreBytes f) (lent : Files) (output_length : ℕ) where
  -- of a frame of bytes, refused or not, and whatever the file is; the set stays
  pub step_keeps_set : (unit_step u f lent output_length).next.set ≡ u.set
  step_keeps_set = (held_step (scheme_of u.set) u h.sized f small lent output_length).kept

  pub sized_step : SizedState (unit_step u f lent output_length).next
  sized_step =
      let held = held_step (scheme_of u.set) u h.sized f small lent output_length in
      record {
        set = rw held.kept h.set;
        sized = subst (λ (set : ℕ). Sized (scheme_of set) (unit_step u f lent output_length).next) (sym held.kept) held.next;
      }

  pub bytes_written : AreBytes (unit_step u f lent output_length).written
  bytes_written = (held_step (scheme_of u.set) u h.sized f small lent output_length).written

-- the same of the step of the state in a slice
module _ (s : List ℕ) (h : Bytes state_bytes s) (f : List ℕ) (small : AreBytes f) (lent : Files) (output_length : ℕ) where
  pub sized_slice : SizedState (slice_step s f lent output_length).next
  unfolding decode_as
  sized_slice = sized_step (decode_state s) (sized_decoded s h) f small lent output_length

  pub slice_written : AreBytes (slice_step s f lent output_length).written
  unfolding decode_as
  slice_written = bytes_written (decode_state s) (sized_decoded s h) f small lent output_length
