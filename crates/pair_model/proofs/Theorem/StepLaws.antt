-- A step by itself: a frame that the unit waits for is accepted, what holds of an accepted one, and what a refusal leaves.
use Prim.Native.Nat.{ℕ, zero, suc, ◌+◌, ◌*◌, ◌/◌, ◌%◌, ◌^◌, ◌≤◌, ◌<◌}
use mathlib.Core.Path.{◌≡◌, refl, sym, ap, ◌∙◌, subst}
use mathlib.Core.Logic.{◌≢◌}
use mathlib.Core.List.{List, ◌∷◌, ◌++◌}
use mathlib.Core.Bool.{Bool, true, false, cond, not}
use native.Mathlib.Omega.{arith}
use lib.Dec.{eqb, eqb-suc-zero, lit<}
use lib.ListN.{length}
use Rattle.numbers.specs.Number.{◌when◌, first}
use Rattle.pair_model.specs.Scheme.{Files, Reading, bad_length, faults_in, reading_number, Scheme}
use Rattle.pair_model.specs.Frame.{Parameters, FitsHeader, deal_kind, mask_kind, header, frame, kind_of, session_of, body_of, body_bytes, frame_bytes}
use Rattle.pair_model.specs.Header.{kind_read, line_conditions}
use Rattle.pair_model.specs.Unit.{State, refused, expected_side, step_reading, least_output, length_conditions, header_conditions, content_conditions, step_conditions, step_number, take_deal, take_open, take_mask, advance, step}
use Rattle.numbers.proofs.Numbers.{equal, at_least, is_equal, is_at_least, first-none, first-both, none_before}
use Rattle.pair_model.proofs.Theorem.HeaderLaws.{header_read, read_whole, whole_read}

-- the four bytes of a session read back
pub session_back : (s : ℕ) → s < 2 ^ 32 → s % 256 + 256 * (s / 256 % 256) + 65536 * (s / 65536 % 256) + 16777216 * (s / 16777216 % 256) ≡ s
session_back s h =
    from s (s / 256) (s / 65536) (s / 16777216) (s % 256) (s / 256 % 256) (s / 65536 % 256) (s / 16777216 % 256)
    (omega arith) (omega arith) (omega arith) (omega arith)
  where
    from : (q0 q1 q2 q3 d0 d1 d2 d3 : ℕ) → q0 ≡ 256 * q1 + d0 → q1 ≡ 256 * q2 + d1 → q2 ≡ 256 * q3 + d2 → q3 ≡ d3
        → d0 + 256 * d1 + 65536 * d2 + 16777216 * d3 ≡ q0
    from q0 q1 q2 q3 d0 d1 d2 d3 e0 e1 e2 e3 = omega arith

-- ---- what is read is fit

module _ (reading : Reading) (lent : Files) (e : reading_number reading lent ≡ 0) where
  -- it has the stated length
  pub fit_length : bad_length reading lent ≡ false
  unfolding reading_number
  fit_length = (first-none 1 (bad_length reading lent) (faults_in reading lent) (lit< tt) e).0

  -- and no fault
  pub fit_faults : first (faults_in reading lent) ≡ 0
  unfolding reading_number
  fit_faults = (first-none 1 (bad_length reading lent) (faults_in reading lent) (lit< tt) e).1

-- it depends on the bytes that are read alone
pub same_reading : (reading : Reading) (lent own : Files) → reading.content lent ≡ reading.content own → reading_number reading own ≡ 0 → reading_number reading lent ≡ 0
unfolding reading_number
same_reading reading lent own e h = ap (λ (c : List ℕ). first (1 when not (eqb (length c) reading.bytes) ∷ reading.faults c)) e ∙ h

-- A frame of the kind that is waited for, from the right side and as long as its kind says, is refused for no reason but its file or its trits.
module _ (S : Scheme) (t : Parameters) (kind : ℕ) (body : List ℕ) (lent : Files) (output_length : ℕ) where
  -- that frame
  abbrev pub expected : List ℕ
  expected = frame kind (record { side = expected_side kind t.side; shared = t.shared }) body

  -- condition by condition
  pub accepts_expected : FitsHeader t.shared → least_output S ≤ output_length → deal_kind ≤ kind → kind ≤ mask_kind → length body ≡ body_bytes S kind
      → bad_length (step_reading S kind) lent ≡ false → first (content_conditions S expected lent) ≡ 0
      → step_number S t kind expected lent output_length ≡ 0
  unfolding step_conditions frame header first
  accepts_expected hs ho low high hl hf last =
      rw (
        at_least output_length (least_output S) ho,
        hf,
        read_whole S deal_kind mask_kind expected (record { low = low; high = high; long = omega arith }),
        equal (session_of expected) t.shared.session (session_back t.shared.session hs.session),
        equal (expected_side kind t.side) (expected_side kind t.side) refl,
        equal kind kind refl,
      )
      (first-both (content_conditions S expected lent) (line_conditions t.shared.line expected) last (rw (equal t.shared.line t.shared.line refl)))

-- ---- a frame that is accepted

module _ (S : Scheme) (t : Parameters) (stage : ℕ) (f : List ℕ) (lent : Files) (output_length : ℕ) where
  -- one of the kind that is waited for, with all lengths as stated
  pub record Fits : Type 0 where
    pub frame-length : length f ≡ frame_bytes S stage
    pub room : least_output S ≤ output_length
    pub low : deal_kind ≤ stage
    pub high : stage ≤ mask_kind
    pub read_length : length ((step_reading S stage).content lent) ≡ (step_reading S stage).bytes

  pub fits : step_number S t stage f lent output_length ≡ 0 → Fits
  unfolding step_conditions
  fits e =
      let n =
      none_before (length_conditions S f lent output_length ++ header_conditions S t stage f) (content_conditions S f lent ++ line_conditions t.shared.line f)
      (lit< tt, (lit< tt, (lit< tt, (lit< tt, (lit< tt, (lit< tt, (lit< tt, tt))))))) e in
      let h = n.1.1 in
      let w = whole_read S deal_kind mask_kind f h.0 h.1.0 in
      let k : kind_of f ≡ stage = ap kind_read (sym (read_whole S deal_kind mask_kind f w)) ∙ is_equal (kind_read (header_read S deal_kind mask_kind f)) stage h.1.1.1.1.0 in
      record {
        frame-length = w.long ∙ ap (frame_bytes S) k;
        room = is_at_least output_length (least_output S) n.0;
        low = rw k at w.low;
        high = rw k at w.high;
        read_length = subst (λ (kind : ℕ). length ((step_reading S kind).content lent) ≡ (step_reading S kind).bytes) k (is_equal _ _ n.1.0);
      }

-- ---- what a step does, by its number

module _ (S : Scheme) (u : State) (f : List ℕ) (lent : Files) (output_length : ℕ) where
  -- the number of a step
  abbrev pub number_for : ℕ
  number_for = step_number S u.parameters u.stage f lent output_length

  -- where it is 0 the unit goes on
  pub step-accepted : number_for ≡ 0 → step S u f lent output_length ≡ advance S u (body_of f) lent
  unfolding step
  step-accepted e = rw e

  advanced : (advance S u (body_of f) lent).result ≡ 0
  unfolding advance take_deal take_open take_mask
  advanced = pick (eqb u.stage 1) (eqb u.stage 2)
    where
      pick : (b c : Bool) → (cond b (take_deal S u (body_of f)) (cond c (take_open S u (body_of f) lent) (take_mask S u (body_of f) lent))).result ≡ 0
      pick true c = refl
      pick false true = refl
      pick false false = refl

  -- it returns its number
  pub step_result : (step S u f lent output_length).result ≡ number_for
  unfolding step
  step_result = pick number_for
    where
      pick : (n : ℕ) → (cond (eqb n 0) (advance S u (body_of f) lent) (refused n u)).result ≡ n
      pick zero = advanced
      pick (suc n) = rw (eqb-suc-zero n)

  -- a refusal writes nothing and leaves the state as it was
  pub step-refused : (step S u f lent output_length).result ≢ 0 → step S u f lent output_length ≡ refused number_for u
  unfolding step
  step-refused h = pick number_for (λ e. h (step_result ∙ e))
    where
      pick : (n : ℕ) → n ≢ 0 → cond (eqb n 0) (advance S u (body_of f) lent) (refused n u) ≡ refused n u
      pick zero h = absurd (h refl)
      pick (suc n) h = rw (eqb-suc-zero n)
