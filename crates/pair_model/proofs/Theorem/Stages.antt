-- The two units of a run by how many frames each has accepted.
use Prim.Native.Nat.{ℕ, zero, suc, ◌-◌, ◌*◌, ◌≤◌, ◌<◌}
use mathlib.Core.Path.{◌≡◌, refl, ap, ◌∙◌, subst}
use mathlib.Core.List.{List, [], ◌∷◌}
use mathlib.Core.Bool.{false, cond, not}
use native.Mathlib.Omega.{arith}
use native.Mathlib.Nat.{le_refl}
use lib.Dec.{T, eqb, lit≤}
use lib.ListN.{length, get_or}
use Rattle.linear_model.specs.Bits.{Bytes, zeros, add_bits}
use Rattle.linear_model.specs.Trits.{fit_trits, inner_share}
use Rattle.linear_model.specs.Products.{plane_bytes, matrix_product}
use Rattle.linear_model.proofs.Strings.{bytes_add}
use Rattle.linear_model.proofs.Vectors.{bytes_subtract, fit_subtract}
use Rattle.numbers.specs.Number.{◌when◌, first, only_if}
use Rattle.pair_model.specs.Scheme.{Files, faults_in, reading_number, Scheme, Linear, Side, side0, side1, side_byte, other, total, field, concat, layout_bytes}
use Rattle.pair_model.specs.Tape.{Accepted, K̃, x̃, z, r, deal, deal_layout}
use Rattle.pair_model.specs.Frame.{Parameters, parameters_of, deal_kind, open_kind, mask_kind, share_kind, frame, header, body_bytes, open_layout}
use Rattle.pair_model.specs.Unit.{State, Secrets, state, begun, done, mask_of, share_of, expected_side, step_reading, least_output, Stepped, step_number, take_deal, take_open, take_mask, advance, step}
use Rattle.pair_model.specs.Evaluator.{code_of}
use Rattle.pair_model.specs.Dealer.{deal_frame}
use Rattle.pair_model.specs.Run.{Inputs, WellFormed}
use Rattle.numbers.proofs.Numbers.{is_true, first_end}
use Rattle.pair_model.proofs.Theorem.Layouts.{Laid, field-concat, bytes_concat}
use Rattle.pair_model.proofs.Theorem.TapeParts.{whole_parts}
use Rattle.pair_model.proofs.Theorem.Pairing.{two_planes}
use Rattle.pair_model.proofs.Theorem.MaskLaws.{open_key, open_label, mask, share, own_first, same_mask, bytes_mask}
use Rattle.pair_model.proofs.Theorem.StepLaws.{accepts_expected, fit_length, fit_faults, same_reading, step-accepted}

module _ (S : Scheme) (a : Inputs) (tape : List ℕ) where
  -- what unit i is begun with besides its halves
  abbrev pub parameters_at : Side → Parameters
  parameters_at i = parameters_of i a.shared

  -- the body of side i's open frame
  abbrev pub open_body : Side → List ℕ
  open_body i = concat (open_key S a tape i ∷ open_label S a tape i ∷ [])

  -- what a unit receives, in turn
  unfoldable pub incoming : Side → ℕ → List ℕ
  incoming i zero = deal_frame S a.shared a.files tape i
  incoming i (suc zero) = frame open_kind (parameters_at (other i)) (open_body (other i))
  incoming i (suc (suc n)) = frame mask_kind (parameters_at (other i)) (mask S a tape (other i))

  -- what it writes, in turn
  unfoldable pub outgoing : Side → List (List ℕ)
  outgoing i =
      frame open_kind (parameters_at i) (open_body i)
      ∷ frame mask_kind (parameters_at i) (mask S a tape i)
      ∷ frame share_kind (parameters_at i) (share S a tape i)
      ∷ []

  -- what it holds with the deal taken, and ŵi or zeros
  abbrev pub secrets_at : Side → List ℕ → Secrets
  secrets_at i m =
      record {
        key = a.key i;
        label = a.label i;
        key_mask = K̃ S tape i;
        label_mask = x̃ S tape i;
        z = z S a.files tape i;
        r = r S tape i;
        own_mask = m;
      }

  -- its state after n accepted frames
  unfoldable pub unit_at : Side → ℕ → State
  unit_at i zero = begun S (parameters_at i) (a.key i) (a.label i)
  unit_at i (suc zero) = state S.set (parameters_at i) open_kind (secrets_at i (zeros S.inner_bytes))
  unit_at i (suc (suc zero)) = state S.set (parameters_at i) mask_kind (secrets_at i (mask S a tape i))
  unit_at i (suc (suc (suc n))) = done S S.set (parameters_at i)

-- ---- a deal is made of its fields

module _ (S : Scheme) (lent : Files) (tape : List ℕ) (h : Accepted S tape) where
  bytes_z : (i : Side) → Bytes S.inner_bytes (z S lent tape i)
  unfolding z
  bytes_z side0 = (whole_parts S tape h).z0
  bytes_z side1 = bytes_add S.inner_bytes _ _

  bytes_r : (i : Side) → Bytes (2 * S.inner_bytes) (r S tape i)
  unfolding r
  bytes_r side0 = (whole_parts S tape h).r0
  bytes_r side1 = two_planes S.inner_bytes (bytes_subtract S.inner_bytes _ _)

  fit_r : (i : Side) → T (fit_trits S.inner_bytes (8 * S.inner_bytes) (r S tape i))
  unfolding r
  fit_r side0 = h.fit
  fit_r side1 = fit_subtract S.inner_bytes (8 * S.inner_bytes) _ _ (le_refl (8 * S.inner_bytes))

  module _ (i : Side) where
    abbrev deal_fields : List (List ℕ)
    deal_fields = K̃ S tape i ∷ x̃ S tape i ∷ z S lent tape i ∷ r S tape i ∷ []

    deal-laid : Laid (deal_layout S) deal_fields
    deal-laid = ((whole_parts S tape h).key_mask i, ((whole_parts S tape h).label_mask i, (bytes_z i, (bytes_r i, tt))))

    -- a deal has the length of its layout
    pub bytes_deal : Bytes (layout_bytes (deal_layout S)) (deal S lent tape i)
    unfolding deal
    bytes_deal = bytes_concat (deal_layout S) deal_fields deal-laid

    -- and its fields are what it was made of
    pub deal-field : (k : ℕ) → field (deal_layout S) k (deal S lent tape i) ≡ get_or deal_fields k []
    unfolding deal
    deal-field = field-concat (deal_layout S) deal_fields deal-laid

-- ---- a frame that comes as it was sent is accepted, and takes the unit one stage on

module _ (S : Scheme) (L : Linear S) (a : Inputs) (tape : List ℕ) (well : WellFormed S a) (h : Accepted S tape) (i : Side) (lent : Files)
    (output_length : ℕ) (long : least_output S ≤ output_length) where
  -- what the step that takes frame n gives
  abbrev pub accepted : ℕ → Stepped
  accepted n = record { result = 0; written = get_or (outgoing S a tape i) n []; next = unit_at S a tape i (suc n) }

  open_laid : (o : Side) → Laid (open_layout S) (open_key S a tape o ∷ open_label S a tape o ∷ [])
  open_laid o = (bytes_add S.key_bytes (a.key o) (K̃ S tape o), (bytes_add S.key_bytes (a.label o) (x̃ S tape o), tt))

  -- the fields of an open body are what it was made of
  pub open_field : (o : Side) (k : ℕ) → field (open_layout S) k (open_body S a tape o) ≡ get_or (open_key S a tape o ∷ open_label S a tape o ∷ []) k []
  open_field o = field-concat (open_layout S) (open_key S a tape o ∷ open_label S a tape o ∷ []) (open_laid o)

  bytes_open : (o : Side) → Bytes (layout_bytes (open_layout S)) (open_body S a tape o)
  bytes_open o = bytes_concat (open_layout S) (open_key S a tape o ∷ open_label S a tape o ∷ []) (open_laid o)

  -- a deal gets no number
  pub accepts_deal : step_number S (parameters_at S a tape i) deal_kind (incoming S a tape i 0) lent output_length ≡ 0
  unfolding incoming deal_frame frame header first only_if
  accepts_deal =
      accepts_expected S (parameters_at S a tape i) deal_kind (deal S a.files tape i) lent output_length well.shared long (lit≤ tt) (lit≤ tt)
      (bytes_deal S a.files tape h i).size refl
      ((λ j. first (10 when not (fit_trits S.inner_bytes (8 * S.inner_bytes) (deal-field S a.files tape h i 3 j)) ∷ []))
      ∙ (λ j. first (10 when not (is_true (fit_trits S.inner_bytes (8 * S.inner_bytes) (r S tape i)) (fit_r S a.files tape h i) j) ∷ [])))

  -- what the unit reads of its files at frame n is the run's
  abbrev pub SameRead : ℕ → Type 0
  SameRead n = (step_reading S (suc n)).content lent ≡ (step_reading S (suc n)).content a.files

  -- an open or mask frame must name the other side
  other_side_lem : (i : Side) → cond (eqb open_kind deal_kind) (side_byte i) (1 - side_byte i) ≡ side_byte (other i)
  other_side_lem side0 = refl
  other_side_lem side1 = refl

  -- the other's frame gets none either, where what is read is fit
  accepts_other : (kind : ℕ) (body : List ℕ) → open_kind ≤ kind → kind ≤ mask_kind → expected_side kind (side_byte i) ≡ side_byte (other i)
      → length body ≡ body_bytes S kind → reading_number (step_reading S kind) lent ≡ 0 → eqb kind deal_kind ≡ false
      → step_number S (parameters_at S a tape i) kind (frame kind (parameters_at S a tape (other i)) body) lent output_length ≡ 0
  unfolding frame header only_if
  accepts_other kind body low high side size fit other-kind =
      subst (λ (s : ℕ). step_number S (parameters_at S a tape i) kind (frame kind (record { side = s; shared = a.shared }) body) lent output_length ≡ 0) side
      (accepts_expected S (parameters_at S a tape i) kind body lent output_length well.shared long (omega arith) high size
      (fit_length (step_reading S kind) lent fit)
      (rw other-kind (first_end (faults_in (step_reading S kind) lent) ∙ fit_faults (step_reading S kind) lent fit)))

  -- its open frame
  pub accepts_open : SameRead 1 → step_number S (parameters_at S a tape i) open_kind (incoming S a tape i 1) lent output_length ≡ 0
  unfolding incoming
  accepts_open e =
      accepts_other open_kind (open_body S a tape (other i)) (lit≤ tt) (lit≤ tt) (other_side_lem i) (bytes_open (other i)).size
      (same_reading S.product_reading lent a.files e well.product) refl

  -- and its mask frame
  pub accepts_mask : SameRead 2 → step_number S (parameters_at S a tape i) mask_kind (incoming S a tape i 2) lent output_length ≡ 0
  unfolding incoming
  accepts_mask e =
      accepts_other mask_kind (mask S a tape (other i)) (lit≤ tt) (lit≤ tt) (other_side_lem i) (bytes_mask S a tape (other i)).size
      (same_reading S.rows_reading lent a.files e well.rows) refl

  at-deal : step S (unit_at S a tape i 0) (incoming S a tape i 0) lent output_length ≡ accepted 0
  unfolding unit_at incoming outgoing deal_frame frame header advance take_deal
  at-deal =
      step-accepted S (unit_at S a tape i 0) (incoming S a tape i 0) lent output_length accepts_deal
      ∙ (λ j.
      record {
        result = 0;
        written =
            frame open_kind (parameters_at S a tape i)
            (concat (add_bits S.key_bytes (a.key i) (d 0 j) ∷ add_bits S.key_bytes (a.label i) (d 1 j) ∷ []));
        next =
            state S.set (parameters_at S a tape i) open_kind (record {
              key = a.key i;
              label = a.label i;
              key_mask = d 0 j;
              label_mask = d 1 j;
              z = d 2 j;
              r = d 3 j;
              own_mask = zeros S.inner_bytes;
            });
      })
    where
      d : (k : ℕ) → field (deal_layout S) k (deal S a.files tape i) ≡ get_or (K̃ S tape i ∷ x̃ S tape i ∷ z S a.files tape i ∷ r S tape i ∷ []) k []
      d = deal-field S a.files tape h i

  at_open : SameRead 1 → step S (unit_at S a tape i 1) (incoming S a tape i 1) lent output_length ≡ accepted 1
  unfolding unit_at incoming outgoing frame header advance take_open mask mask_of
  at_open e =
      step-accepted S (unit_at S a tape i 1) (incoming S a tape i 1) lent output_length (accepts_open e)
      ∙ (λ j. of (mask_is j))
    where
      n : ℕ
      n = S.key_bytes

      body : List ℕ
      body = open_body S a tape (other i)

      of : List ℕ → Stepped
      of m = record { result = 0; written = frame mask_kind (parameters_at S a tape i) m; next = state S.set (parameters_at S a tape i) mask_kind (secrets_at S a tape i m) }

      key : add_bits n (open_key S a tape i) (field (open_layout S) 0 body) ≡ total n (open_key S a tape)
      key = ap (add_bits n (open_key S a tape i)) (open_field (other i) 0) ∙ own_first n (open_key S a tape) i

      label : add_bits n (open_label S a tape i) (field (open_layout S) 1 body) ≡ total n (open_label S a tape)
      label = ap (add_bits n (open_label S a tape i)) (open_field (other i) 1) ∙ own_first n (open_label S a tape) i

      mask_is : mask_of S lent (side_byte i) (add_bits n (open_key S a tape i) (field (open_layout S) 0 body))
          (add_bits n (open_label S a tape i) (field (open_layout S) 1 body)) (K̃ S tape i) (x̃ S tape i) (z S a.files tape i)
          ≡ mask S a tape i
      mask_is =
          (λ j. mask_of S lent (side_byte i) (key j) (label j) (K̃ S tape i) (x̃ S tape i) (z S a.files tape i))
          ∙ same_mask S lent a.files e (side_byte i) (total n (open_key S a tape)) (total n (open_label S a tape)) (K̃ S tape i) (x̃ S tape i)
          (z S a.files tape i)

  at-mask : SameRead 2 → step S (unit_at S a tape i 2) (incoming S a tape i 2) lent output_length ≡ accepted 2
  unfolding unit_at incoming outgoing frame header advance take_mask share share_of code_of
  at-mask e =
      step-accepted S (unit_at S a tape i 2) (incoming S a tape i 2) lent output_length (accepts_mask e)
      ∙ (λ j.
      record {
        result = 0;
        written =
            frame share_kind (parameters_at S a tape i)
            (matrix_product (plane_bytes S.digits) S.inner_bytes S.digits (S.rows (e j))
            (inner_share S.inner_bytes (side_byte i) (own_first S.inner_bytes (mask S a tape) i j) (r S tape i)));
        next = done S S.set (parameters_at S a tape i);
      })

  -- frame n as it was sent, with what is read being the run's, is accepted
  pub accepts : (n : ℕ) → n < 3 → SameRead n → step S (unit_at S a tape i n) (incoming S a tape i n) lent output_length ≡ accepted n
  accepts zero l e = at-deal
  accepts (suc zero) l e = at_open e
  accepts (suc (suc zero)) l e = at-mask e
  accepts (suc (suc (suc n))) l e = absurd (omega arith)
