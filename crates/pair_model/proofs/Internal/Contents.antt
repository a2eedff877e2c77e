-- What a step reads, by the kind of its frame: the lengths' number, and that of the content or of a deal's trits.
use mathlib.Core.Path.{◌≡◌, refl, sym, ap, ◌∙◌, subst}
use mathlib.Core.List.{List, [], ◌∷◌, ◌++◌, append-nil}
use mathlib.Core.Bool.{Bool, true, false, cond, not, ◌&&◌}
use Prim.Native.Nat.{ℕ, ◌+◌, ◌*◌, ◌/◌, min}
use native.Mathlib.Omega.{arith}
use borrow.Author.Tests.{eq-eqb, ne_eqb}
use lib.Dec.{T, ltb, eqb, eqb→eq, lit<, lit≤}
use lib.ListN.{length, take, drop, length-drop}
use lib.Seq.{length-take-le}
use Rattle.linear_model.specs.Trits.{fit_trits}
use Rattle.numbers.specs.Number.{Condition, ◌when◌, first, only_if}
use Rattle.numbers.specs.Lowest.{RisingFrom}
use Rattle.numbers.proofs.Numbers.{first_end, Positive}
use Rattle.numbers.proofs.Lowest.{rising_from, UpTo, rising_positive}
use Rattle.matrix_model.specs.Block.{Layout}
use Rattle.matrix_model.proofs.Lowest.{faults_rise}
use Rattle.matrix_model.specs.File.{check_number_of}
use Rattle.pair_model.specs.Scheme.{Files, files, Reading, reads_nothing, bad_length, faults_in, reading_number, Scheme, layout_bytes, field}
use Rattle.pair_model.specs.Base.{matrix_reading, block_format}
use Rattle.pair_model.specs.Tape.{deal_layout}
use Rattle.pair_model.specs.Frame.{deal_kind, open_kind, mask_kind, header_bytes, kind_of, body_of, frame_bytes}
use Rattle.pair_model.specs.Unit.{step_reading, least_output, unfit_deal, length_conditions, content_conditions}
use Rattle.pair_model.proofs.Internal.Fields.{field_at}

-- the check of a file of any layout gives the number of what is read of it
pub reading_number_lem : (layout : Layout) (file : List ℕ) → check_number_of layout file ≡ reading_number (matrix_reading (block_format layout)) (files file)
unfolding reading_number
reading_number_lem layout file = refl

-- where its length is right, that of the faults
pub faults_number : (reading : Reading) (lent : Files) → length (reading.content lent) ≡ reading.bytes → reading_number reading lent ≡ first (faults_in reading lent)
unfolding reading_number first
faults_number reading lent h = rw (eq-eqb (length (reading.content lent)) reading.bytes h)

-- the planes of a vector of trits are the halves of its bytes
pub fit_vector : (m : ℕ) (v : List ℕ) → length v ≡ 2 * m → fit_trits (length v / 2) (min (8 * m) (8 * (length v / 2))) v ≡ fit_trits m (8 * m) v
fit_vector m v e =
    let h : length v / 2 ≡ m = omega arith in
    let k : min (8 * m) (8 * m) ≡ 8 * m = omega arith in
    ap (λ (x : ℕ). fit_trits x (min (8 * m) (8 * x)) v) h ∙ ap (λ (x : ℕ). fit_trits m x v) k

-- ---- a scheme whose product reads no file

module _ (S : Scheme) (none : S.product_reading ≡ reads_nothing) where
  reading_is : (kind : ℕ) → step_reading S kind ≡ cond (eqb kind mask_kind) S.rows_reading reads_nothing
  reading_is kind = (λ j. cond (eqb kind mask_kind) S.rows_reading (cond (eqb kind open_kind) (none j) reads_nothing)) ∙ pick (eqb kind mask_kind) (eqb kind open_kind)
    where
      pick : (b c : Bool) → cond b S.rows_reading (cond c reads_nothing reads_nothing) ≡ cond b S.rows_reading reads_nothing
      pick true c = refl
      pick false true = refl
      pick false false = refl

  -- the lengths' number is decided by the room and by what is read for the rows
  pub lengths-number : (f : List ℕ) (lent : Files) (n : ℕ)
      → first (length_conditions S f lent n)
      ≡ cond (ltb n (least_output S)) 1 (cond (eqb (kind_of f) mask_kind && bad_length S.rows_reading lent) 1 0)
  unfolding first
  lengths-number f lent n =
      (λ j. first (1 when ltb n (least_output S) ∷ 1 when bad_length (reading_is (kind_of f) j) lent ∷ []))
      ∙ ap (λ (b : Bool). cond (ltb n (least_output S)) 1 (cond b 1 0)) (pick (eqb (kind_of f) mask_kind))
    where
      pick : (b : Bool) → bad_length (cond b S.rows_reading reads_nothing) lent ≡ (b && bad_length S.rows_reading lent)
      pick true = refl
      pick false = refl

  -- at a frame that is neither a mask frame nor a deal nothing is judged
  pub content-none : (f : List ℕ) (lent : Files) → (kind_of f ≡ mask_kind → ⊥) → (kind_of f ≡ deal_kind → ⊥) → 0 ≡ first (content_conditions S f lent)
  unfolding first only_if
  content-none f lent r h =
      sym (λ j. first (faults_in ((reading_is (kind_of f) ∙ ap (λ (b : Bool). cond b S.rows_reading reads_nothing) (ne_eqb (kind_of f) mask_kind r)) j) lent
      ++ only_if (ne_eqb (kind_of f) deal_kind h j) (10 when unfit_deal S f ∷ [])))

-- ---- any scheme

module _ (S : Scheme) (f : List ℕ) (lent : Files) where
  -- at a mask frame: what is read for the rows
  pub content_rows : kind_of f ≡ mask_kind → first (faults_in S.rows_reading lent) ≡ first (content_conditions S f lent)
  unfolding only_if
  content_rows k =
      sym ((λ i. first (faults_in (step_reading S (k i)) lent ++ only_if (eqb (k i) deal_kind) (10 when unfit_deal S f ∷ []))) ∙ first_end (faults_in S.rows_reading lent))

  module _ (k : kind_of f ≡ deal_kind) (l : length f ≡ frame_bytes S (kind_of f)) where
    long : length (field (deal_layout S) 3 (body_of f)) ≡ 2 * S.inner_bytes
    long =
        let e : length f ≡ frame_bytes S deal_kind = l ∙ ap (frame_bytes S) k in
        ap length (sym (field_at (deal_layout S) 3 header_bytes f (lit< tt))) ∙ length-take-le (2 * S.inner_bytes) (drop (header_bytes + layout_bytes (take 3 (deal_layout S))) f) (rw length-drop (omega arith))

    -- at a deal the test of r decides
    pub content-deal : (b : Bool) (v : List ℕ) → v ≡ field (deal_layout S) 3 (body_of f)
        → b ≡ fit_trits (length v / 2) (min (8 * S.inner_bytes) (8 * (length v / 2))) v → ◌≡◌ {A = ℕ} (cond b 0 10) (first (content_conditions S f lent))
    unfolding first only_if
    content-deal b v e d =
        let m = S.inner_bytes in
        let q : b ≡ fit_trits m (8 * m) (field (deal_layout S) 3 (body_of f)) = d ∙ fit_vector m v (ap length e ∙ long) ∙ ap (fit_trits m (8 * m)) e in
        rw (k, ← q) (pick b)
      where
        pick : (b : Bool) → ◌≡◌ {A = ℕ} (cond b 0 10) (cond (not b) 10 0)
        pick true = refl
        pick false = refl

-- ---- the numbers of what it reads

-- a property of the faults of each reading, at the frame's kind
of_reading : (S : Scheme) (lent : Files) (Q : List Condition → Type 0) → Q (faults_in S.product_reading lent) → Q (faults_in S.rows_reading lent) → Q []
    → (kind : ℕ) → Q (faults_in (step_reading S kind) lent)
of_reading S lent Q product rows none kind = pick (eqb kind mask_kind) (eqb kind open_kind)
  where
    pick : (b c : Bool) → Q (faults_in (cond b S.rows_reading (cond c S.product_reading reads_nothing)) lent)
    pick true c = rows
    pick false true = product
    pick false false = none

-- and of what a step reads, where a deal has none and 10 for its trits
of_content : (S : Scheme) (lent : Files) (Q : List Condition → Type 0) → Q (faults_in S.product_reading lent) → Q (faults_in S.rows_reading lent) → Q []
    → (f : List ℕ) → ((b : Bool) → Q (10 when b ∷ [])) → Q (content_conditions S f lent)
unfolding only_if
of_content S lent Q product rows none f trits = pick (eqb (kind_of f) deal_kind) (eqb→eq (kind_of f) deal_kind)
  where
    pick : (b : Bool) → (T b → kind_of f ≡ deal_kind) → Q (faults_in (step_reading S (kind_of f)) lent ++ only_if b (10 when unfit_deal S f ∷ []))
    pick true e = rw (e tt) (trits (unfit_deal S f))
    pick false e = subst Q (sym (append-nil (faults_in (step_reading S (kind_of f)) lent))) (of_reading S lent Q product rows none (kind_of f))

-- after 7 they rise
pub content_rises : (S : Scheme) (lent : Files) → RisingFrom 8 (faults_in S.product_reading lent) → RisingFrom 8 (faults_in S.rows_reading lent)
    → (f : List ℕ) → RisingFrom 7 (content_conditions S f lent)
content_rises S lent product rows f =
    of_content S lent (RisingFrom 7) (rising_from 7 8 (faults_in S.product_reading lent) (lit≤ tt) product)
    (rising_from 7 8 (faults_in S.rows_reading lent) (lit≤ tt) rows) tt f (λ b. (lit≤ tt, tt))

-- up to 12
pub content_up_to : (S : Scheme) (lent : Files) → UpTo 12 (faults_in S.product_reading lent) → UpTo 12 (faults_in S.rows_reading lent)
    → (f : List ℕ) → UpTo 12 (content_conditions S f lent)
content_up_to S lent product rows f = of_content S lent (UpTo 12) product rows tt f (λ b. (lit≤ tt, tt))

-- above 0, where the rows are read of a file of any layout
pub content_positive : (S : Scheme) (layout : Layout) → S.product_reading ≡ reads_nothing → S.rows_reading ≡ matrix_reading (block_format layout)
    → (f : List ℕ) (lent : Files) → Positive (content_conditions S f lent)
content_positive S layout none rows f lent =
    rising_positive 7 (content_conditions S f lent) (lit< tt)
    (content_rises S lent (subst (λ (reading : Reading). RisingFrom 8 (faults_in reading lent)) (sym none) tt)
    (subst (λ (reading : Reading). RisingFrom 8 (faults_in reading lent)) (sym rows) (faults_rise layout lent.matrix)) f)
