-- The pairing of tapes, on their parts: what the unit that is not fixed gets from the dealer makes up for its other halves.
use Prim.Native.Nat.{ℕ, ◌+◌, ◌*◌}
use mathlib.Core.Path.{◌≡◌, refl, sym, ap, ◌∙◌, subst}
use mathlib.Core.List.{List}
use native.Mathlib.Omega.{arith}
use native.Mathlib.Nat.{le_refl}
use Rattle.linear_model.specs.Bits.{Bytes, add_bits}
use Rattle.linear_model.specs.Trits.{subtract_trits}
use Rattle.linear_model.proofs.Strings.{bit_lt, bytes_add, add_ext, add_is, add_comm, bitwise}
use Rattle.linear_model.proofs.Vectors.{fit_subtract, bytes_subtract, subtract_twice}
use Rattle.pair_model.specs.Scheme.{Files, Scheme, product_with, Side, side0, side1, other, total}
use Rattle.pair_model.specs.Tape.{Accepted}
use Rattle.pair_model.specs.Run.{Inputs, update}
use Rattle.pair_model.specs.Theorem.{Bijection}
use Rattle.pair_model.proofs.Theorem.TapeParts.{Parts, tape_of, Whole, parts_of, parts-tape, tape-parts, whole_parts, accepted_of}

-- 2m bytes are two planes of m
pub two_planes : (m : ℕ) {v : List ℕ} → Bytes (m + m) v → Bytes (2 * m) v
two_planes m {v} h = let e : m + m ≡ 2 * m = omega arith in subst (λ (k : ℕ). Bytes k v) e h

-- and back
pub as_planes : (m : ℕ) {v : List ℕ} → Bytes (2 * m) v → Bytes (m + m) v
as_planes m {v} h = let e : 2 * m ≡ m + m = omega arith in subst (λ (k : ℕ). Bytes k v) e h

-- ---- sums of n bytes: what is added twice is gone

module _ (n : ℕ) where
  infixl 70 ◌⊕◌
  abbrev ◌⊕◌ : List ℕ → List ℕ → List ℕ
  a ⊕ b = add_bits n a b

  absorb : (a b k : List ℕ) → b ⊕ (k ⊕ a ⊕ b) ≡ a ⊕ k
  absorb a b k = add_ext n b (k ⊕ a ⊕ b) a k (λ j l. simp bitwise (omega arith))

  undo : (a b k : List ℕ) → Bytes n k → k ⊕ a ⊕ b ⊕ b ⊕ a ≡ k
  undo a b k h = add_is n (k ⊕ a ⊕ b ⊕ b) a k h (λ j l. simp bitwise (omega (arith, bit_lt k j)))

  -- two strings added twice are gone
  pub add_back : (k v w : List ℕ) → Bytes n k → k ⊕ v ⊕ w ⊕ v ⊕ w ≡ k
  add_back k v w h = add_is n (k ⊕ v ⊕ w ⊕ v) w k h (λ j l. simp bitwise (omega (arith, bit_lt k j)))

-- ---- the two sides exchanged: side 1's z and r are made the tape's

module _ (S : Scheme) (lent : Files) where
  -- K̃ × x̃ of a tape's parts
  abbrev pub mask_product : Parts → List ℕ
  mask_product p = product_with S lent (total S.key_bytes p.key_mask) (total S.key_bytes p.label_mask)

  -- side 1's z and r
  abbrev pub z1 : Parts → List ℕ
  z1 p = add_bits S.inner_bytes (add_bits S.inner_bytes p.z0 (mask_product p)) p.innermask

  -- w̃ − r0
  abbrev pub r1 : Parts → List ℕ
  r1 p = subtract_trits S.inner_bytes p.innermask p.r0

  -- what is side 1's stands in side 0's places, and the other way round
  unfoldable pub exchange : Parts → Parts
  exchange p =
      record {
        key_mask = λ i. p.key_mask (other i);
        label_mask = λ i. p.label_mask (other i);
        innermask = p.innermask;
        z0 = z1 p;
        r0 = r1 p;
      }

  -- the sizes stay
  pub whole_exchange : (p : Parts) → Whole S p → Whole S (exchange p)
  unfolding exchange
  whole_exchange p h =
      record {
        key_mask = λ i. h.key_mask (other i);
        label_mask = λ i. h.label_mask (other i);
        innermask = h.innermask;
        z0 = bytes_add S.inner_bytes (add_bits S.inner_bytes p.z0 (mask_product p)) p.innermask;
        r0 = two_planes S.inner_bytes (bytes_subtract S.inner_bytes p.innermask p.r0);
        fit = fit_subtract S.inner_bytes (8 * S.inner_bytes) p.innermask p.r0 (le_refl (8 * S.inner_bytes));
      }

  -- to exchange twice changes nothing
  pub exchange-twice : (p : Parts) → Whole S p → exchange (exchange p) ≡ p
  unfolding exchange
  exchange-twice p h =
      λ j.
      record {
        key_mask = λ i. twice p.key_mask i j;
        label_mask = λ i. twice p.label_mask i j;
        innermask = p.innermask;
        z0 = z j;
        r0 = subtract_twice S.inner_bytes p.innermask p.r0 (as_planes S.inner_bytes h.r0) h.fit j;
      }
    where
      twice : (f : Side → List ℕ) (i : Side) → f (other (other i)) ≡ f i
      twice f side0 = refl
      twice f side1 = refl

      swap : (f : Side → List ℕ) → add_bits S.key_bytes (f side1) (f side0) ≡ total S.key_bytes f
      swap f = add_comm S.key_bytes (f side1) (f side0)

      z : (exchange (exchange p)).z0 ≡ p.z0
      z =
          (λ j. add_bits S.inner_bytes (add_bits S.inner_bytes (z1 p) (product_with S lent (swap p.key_mask j) (swap p.label_mask j))) p.innermask)
          ∙ add_back S.inner_bytes p.z0 (mask_product p) p.innermask h.z0

-- ---- side 1's masks moved from its halves k, x to k', x', and the inner mask from w to w'

module _ (S : Scheme) (k k' x x' w w' : List ℕ) where
  shift : Parts → Parts
  shift p =
      record {
        key_mask = update side1 (add_bits S.key_bytes (add_bits S.key_bytes (p.key_mask side1) k) k') p.key_mask;
        label_mask = update side1 (add_bits S.key_bytes (add_bits S.key_bytes (p.label_mask side1) x) x') p.label_mask;
        innermask = add_bits S.inner_bytes (add_bits S.inner_bytes p.innermask w) w';
        z0 = p.z0;
        r0 = p.r0;
      }

  whole_shift : (p : Parts) → Whole S p → Whole S (shift p)
  unfolding shift
  whole_shift p h =
      record {
        key_mask = λ i. elim i as (λ j. Bytes S.key_bytes ((shift p).key_mask j)) [ side0 ↦ h.key_mask side0 | side1 ↦ bytes_add S.key_bytes (add_bits S.key_bytes (p.key_mask side1) k) k' ];
        label_mask = λ i. elim i as (λ j. Bytes S.key_bytes ((shift p).label_mask j)) [ side0 ↦ h.label_mask side0 | side1 ↦ bytes_add S.key_bytes (add_bits S.key_bytes (p.label_mask side1) x) x' ];
        innermask = bytes_add S.inner_bytes (add_bits S.inner_bytes p.innermask w) w';
        z0 = h.z0;
        r0 = h.r0;
        fit = h.fit;
      }

module _ (S : Scheme) (k k' x x' w w' : List ℕ) (p : Parts) (h : Whole S p) where
  shift_back : shift S k' k x' x w' w (shift S k k' x x' w w' p) ≡ p
  unfolding shift
  shift_back =
      λ j.
      record {
        key_mask = λ i. key i j;
        label_mask = λ i. label i j;
        innermask = undo S.inner_bytes w w' p.innermask h.innermask j;
        z0 = p.z0;
        r0 = p.r0;
      }
    where
      key : (i : Side) → (shift S k' k x' x w' w (shift S k k' x x' w w' p)).key_mask i ≡ p.key_mask i
      key side0 = refl
      key side1 = undo S.key_bytes k k' (p.key_mask side1) (h.key_mask side1)

      label : (i : Side) → (shift S k' k x' x w' w (shift S k k' x x' w w' p)).label_mask i ≡ p.label_mask i
      label side0 = refl
      label side1 = undo S.key_bytes x x' (p.label_mask side1) (h.label_mask side1)

-- ---- the pairing

module _ (S : Scheme) where
  -- the run's inner vector w = K × label
  abbrev pub inner_of : Inputs → List ℕ
  inner_of a = product_with S a.files (total S.key_bytes a.key) (total S.key_bytes a.label)

  -- side 1's place moved from the halves that side o has in a to those in b
  move_side1 : Side → Inputs → Inputs → Parts → Parts
  move_side1 o a b = shift S (a.key o) (b.key o) (a.label o) (b.label o) (inner_of a) (inner_of b)

  -- the parts of the paired tape
  unfoldable pub paired_parts : Side → Inputs → Inputs → Parts → Parts
  unfolding move_side1 shift
  paired_parts side0 a b p = move_side1 side1 a b p
  paired_parts side1 a b p = exchange S b.files (move_side1 side0 a b (exchange S a.files p))

  whole_paired : (fixed : Side) (a b : Inputs) (p : Parts) → Whole S p → Whole S (paired_parts fixed a b p)
  unfolding paired_parts move_side1
  whole_paired side0 a b p h = whole_shift S _ _ _ _ _ _ p h
  whole_paired side1 a b p h = whole_exchange S b.files _ (whole_shift S _ _ _ _ _ _ (exchange S a.files p) (whole_exchange S a.files p h))

  -- the inputs the other way round lead back
  paired_back : (fixed : Side) (a b : Inputs) (p : Parts) → Whole S p → paired_parts fixed b a (paired_parts fixed a b p) ≡ p
  unfolding paired_parts move_side1
  paired_back side0 a b p h = shift_back S _ _ _ _ _ _ p h
  paired_back side1 a b p h =
      let e = whole_exchange S a.files p h in
      ap (λ (q : Parts). exchange S a.files (move_side1 side0 b a q))
      (exchange-twice S b.files (move_side1 side0 a b (exchange S a.files p)) (whole_shift S _ _ _ _ _ _ (exchange S a.files p) e))
      ∙ ap (exchange S a.files) (shift_back S _ _ _ _ _ _ (exchange S a.files p) e)
      ∙ exchange-twice S a.files p h

  -- the paired tape
  unfoldable pub paired_tape : Side → Inputs → Inputs → List ℕ → List ℕ
  paired_tape fixed a b tape = tape_of (paired_parts fixed a b (parts_of S tape))

  module _ (fixed : Side) (a b : Inputs) (tape : List ℕ) (h : Accepted S tape) where
    -- it is accepted
    pub paired_accepted : Accepted S (paired_tape fixed a b tape)
    unfolding paired_tape
    paired_accepted =
        accepted_of S (paired_parts fixed a b (parts_of S tape)) (whole_paired fixed a b (parts_of S tape) (whole_parts S tape h))

    -- and the inputs the other way round lead back to the tape
    pub paired_twice : paired_tape fixed b a (paired_tape fixed a b tape) ≡ tape
    unfolding paired_tape
    paired_twice =
        let w = whole_parts S tape h in
        ap (λ (q : Parts). tape_of (paired_parts fixed b a q)) (parts-tape S (paired_parts fixed a b (parts_of S tape)) (whole_paired fixed a b (parts_of S tape) w))
        ∙ ap tape_of (paired_back fixed a b (parts_of S tape) w)
        ∙ tape-parts S tape h

  -- a map and its inverse, for the inputs alone
  unfoldable pub pairing : Side → Inputs → Inputs → Bijection (Accepted S) (Accepted S)
  pairing fixed a b =
      record {
        forth = paired_tape fixed a b;
        back = paired_tape fixed b a;
        forth_holds = paired_accepted fixed a b;
        back_holds = paired_accepted fixed b a;
        back_forth = paired_twice fixed a b;
        forth_back = paired_twice fixed b a;
      }

-- ---- what the pairing keeps: the fixed unit's deal, the other's open body, and the run's inner vector under its mask

-- z of unit i
abbrev pub z_of : Scheme → Files → Parts → Side → List ℕ
z_of S lent p side0 = p.z0
z_of S lent p side1 = z1 S lent p

-- r of unit i
abbrev pub r_of : Scheme → Files → Parts → Side → List ℕ
r_of S lent p side0 = p.r0
r_of S lent p side1 = r1 S lent p

-- of the parts p in a run with inputs a, and q in one with inputs b
pub record Kept (S : Scheme) (fixed : Side) (a b : Inputs) (p q : Parts) : Type 0 where
  pub key_mask : p.key_mask fixed ≡ q.key_mask fixed
  pub label_mask : p.label_mask fixed ≡ q.label_mask fixed
  pub z : z_of S a.files p fixed ≡ z_of S b.files q fixed
  pub r : r_of S a.files p fixed ≡ r_of S b.files q fixed
  pub open_key : let o = other fixed in add_bits S.key_bytes (a.key o) (p.key_mask o) ≡ add_bits S.key_bytes (b.key o) (q.key_mask o)
  pub open_label : let o = other fixed in add_bits S.key_bytes (a.label o) (p.label_mask o) ≡ add_bits S.key_bytes (b.label o) (q.label_mask o)
  pub inner : add_bits S.inner_bytes (inner_of S a) p.innermask ≡ add_bits S.inner_bytes (inner_of S b) q.innermask

module _ (S : Scheme) (a b : Inputs) (p : Parts) (h : Whole S p) where
  kept_parts : (fixed : Side) → Kept S fixed a b p (paired_parts S fixed a b p)
  unfolding paired_parts move_side1 shift exchange
  kept_parts side0 =
      record {
        key_mask = refl;
        label_mask = refl;
        z = refl;
        r = refl;
        open_key = sym (absorb S.key_bytes (a.key side1) (b.key side1) (p.key_mask side1));
        open_label = sym (absorb S.key_bytes (a.label side1) (b.label side1) (p.label_mask side1));
        inner = sym (absorb S.inner_bytes (inner_of S a) (inner_of S b) p.innermask);
      }
  kept_parts side1 =
      record {
        key_mask = refl;
        label_mask = refl;
        z = sym (ap (λ (q : Parts). q.z0) back);
        r = sym (ap (λ (q : Parts). q.r0) back);
        open_key = sym (absorb S.key_bytes (a.key side0) (b.key side0) (p.key_mask side0));
        open_label = sym (absorb S.key_bytes (a.label side0) (b.label side0) (p.label_mask side0));
        inner = sym (absorb S.inner_bytes (inner_of S a) (inner_of S b) p.innermask);
      }
    where
      q : Parts
      q = move_side1 S side0 a b (exchange S a.files p)

      back : exchange S b.files (exchange S b.files q) ≡ q
      back = exchange-twice S b.files q (whole_shift S _ _ _ _ _ _ (exchange S a.files p) (whole_exchange S a.files p h))

-- the pairing keeps all that
pub kept : (S : Scheme) (fixed : Side) (a b : Inputs) (tape : List ℕ) → Accepted S tape
    → Kept S fixed a b (parts_of S tape) (parts_of S (paired_tape S fixed a b tape))
unfolding paired_tape
kept S fixed a b tape h =
    let w = whole_parts S tape h in
    rw (parts-tape S (paired_parts S fixed a b (parts_of S tape)) (whole_paired S fixed a b (parts_of S tape) w))
    (kept_parts S a b (parts_of S tape) w fixed)
