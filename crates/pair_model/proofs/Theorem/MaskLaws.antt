-- What the two units compute in a run, of its inputs and its tape: the shares add to the code; and what two paired runs have in common.
use Prim.Native.Nat.{ℕ, ◌+◌, ◌*◌, ◌%◌, ◌<◌}
use mathlib.Core.Path.{◌≡◌, refl, sym, ap, ap₂, ◌∙◌}
use mathlib.Core.List.{List}
use mathlib.Core.Bool.{Bool, true, false, cond}
use native.Mathlib.Omega.{arith}
use lib.Dec.{eqb}
use Rattle.linear_model.specs.Bits.{Bytes, bit, add_bits}
use Rattle.linear_model.specs.Trits.{trit, subtract_trits, bit_trits, add_trits, inner_share}
use Rattle.linear_model.specs.Products.{plane_bytes, Bilinear}
use Rattle.linear_model.proofs.Strings.{bit_lt, bit_add, bytes_add, add_ext, add_is, add_comm, add_cross, bitwise}
use Rattle.linear_model.proofs.Vectors.{trit_bits, subtract_add}
use Rattle.linear_model.proofs.Linearity.{matrix_add, conversion}
use Rattle.pair_model.specs.Scheme.{Files, Scheme, product_with, rows_with, Linear, Side, side0, side1, side_byte, other, total}
use Rattle.pair_model.specs.Tape.{K̃, x̃, w̃, z, r, r0}
use Rattle.pair_model.specs.Evaluator.{code_of, code}
use Rattle.pair_model.specs.Unit.{add_if_side0, mask_of, share_of}
use Rattle.pair_model.specs.Run.{Inputs}
use Rattle.pair_model.specs.Theorem.{SameForFixed}
use Rattle.pair_model.proofs.Theorem.TapeParts.{parts_of}
use Rattle.pair_model.proofs.Theorem.Pairing.{inner_of, z_of, r_of, Kept}

module _ (S : Scheme) (a : Inputs) (tape : List ℕ) where
  -- what side i opens: its halves under its masks
  abbrev pub open_key : Side → List ℕ
  open_key i = add_bits S.key_bytes (a.key i) (K̃ S tape i)

  -- and its label half
  abbrev pub open_label : Side → List ℕ
  open_label i = add_bits S.key_bytes (a.label i) (x̃ S tape i)

  -- ŵi
  unfoldable pub mask : Side → List ℕ
  mask i =
      mask_of S a.files (side_byte i) (total S.key_bytes open_key) (total S.key_bytes open_label) (K̃ S tape i) (x̃ S tape i) (z S a.files tape i)

  -- the code share of side i
  unfoldable pub share : Side → List ℕ
  share i = share_of S a.files (side_byte i) (total S.inner_bytes mask) (r S tape i)

-- ---- two products make ŵi

-- the last term of a sum, moved to the first
last-first : (n : ℕ) (a b c d : List ℕ) → add_bits n (add_bits n (add_bits n a d) b) c ≡ add_bits n (add_bits n (add_bits n a b) c) d
last-first n a b c d = add_ext n (add_bits n (add_bits n a d) b) c (add_bits n (add_bits n a b) c) d (λ j l. simp bitwise (omega arith))

-- side 0's K̂ × x̃0 and K̂ × x̂ are K̂ × (x̃0 + x̂)
module _ (S : Scheme) (L : Linear S) (lent : Files) where
  abbrev times : List ℕ → List ℕ → List ℕ
  times = product_with S lent

  infixl 70 ◌+₂◌
  abbrev ◌+₂◌ : List ℕ → List ℕ → List ℕ
  u +₂ v = add_bits S.inner_bytes u v

  pub mask_of-two : (side : ℕ) (K̂ x̂ K̃ x̃ z : List ℕ)
      → times K̂ (cond (eqb side 0) (add_bits S.key_bytes x̃ x̂) x̃) +₂ times K̃ x̂ +₂ z ≡ mask_of S lent side K̂ x̂ K̃ x̃ z
  unfolding mask_of
  mask_of-two side K̂ x̂ K̃ x̃ z = pick (eqb side 0)
    where
      pick : (b : Bool)
          → times K̂ (cond b (add_bits S.key_bytes x̃ x̂) x̃) +₂ times K̃ x̂ +₂ z
          ≡ cond b (times K̂ x̃ +₂ times K̃ x̂ +₂ z +₂ times K̂ x̂) (times K̂ x̃ +₂ times K̃ x̂ +₂ z)
      pick true =
          ap (λ (p : List ℕ). p +₂ times K̃ x̂ +₂ z) ((L.bilinear _).right K̂ x̃ x̂)
          ∙ last-first S.inner_bytes (times K̂ x̃) (times K̃ x̂) z (times K̂ x̂)
      pick false = refl

-- only what the product reads of the files matters
pub same_mask : (S : Scheme) (lent own : Files) → S.product_reading.content lent ≡ S.product_reading.content own
    → (side : ℕ) (K̂ x̂ K̃ x̃ z : List ℕ) → mask_of S lent side K̂ x̂ K̃ x̃ z ≡ mask_of S own side K̂ x̂ K̃ x̃ z
unfolding mask_of
same_mask S lent own e side K̂ x̂ K̃ x̃ z =
    let n = S.inner_bytes in
    λ j. add_if_side0 S side (add_bits n (add_bits n (S.product (e j) K̂ x̃) (S.product (e j) K̃ x̂)) z) (S.product (e j) K̂ x̂)

-- ---- their lengths

-- a mask has the length of the inner vector, whatever the product gives
pub bytes_mask_of : (S : Scheme) (lent : Files) (side : ℕ) (K̂ x̂ K̃ x̃ z : List ℕ) → Bytes S.inner_bytes (mask_of S lent side K̂ x̂ K̃ x̃ z)
unfolding mask_of
bytes_mask_of S lent side K̂ x̂ K̃ x̃ z = pick (eqb side 0) _ _ _
  where
    n : ℕ
    n = S.inner_bytes

    pick : (b : Bool) (a c d : List ℕ) → Bytes n (cond b (add_bits n (add_bits n a c) d) (add_bits n a c))
    pick true a c d = bytes_add n (add_bits n a c) d
    pick false a c d = bytes_add n a c

pub bytes_mask : (S : Scheme) (a : Inputs) (tape : List ℕ) (i : Side) → Bytes S.inner_bytes (mask S a tape i)
unfolding mask
bytes_mask S a tape i = bytes_mask_of S a.files (side_byte i) _ _ _ _ _

-- ---- ŵ is w under its mask

parity : (a0 a1 b0 b1 d e g w z : ℕ) → (b0 + b1) % 2 ≡ (g + d) % 2
    → (a0 + b0 + z + (e + g + (a0 + a1)) + (a1 + b1 + (z + d + w))) % 2 ≡ (e + w) % 2
parity a0 a1 b0 b1 d e g w z h = omega arith

module _ (S : Scheme) (L : Linear S) (a : Inputs) (tape : List ℕ) where
  P : List ℕ → List ℕ → List ℕ
  P = product_with S a.files

  linear : Bilinear S.inner_bytes S.key_bytes P
  unfolding P
  linear = L.bilinear _

  abbrev sum : (Side → List ℕ) → List ℕ
  sum f = total S.key_bytes f

  abbrev K̂ : List ℕ
  K̂ = sum (open_key S a tape)

  abbrev x̂ : List ℕ
  x̂ = sum (open_label S a tape)

  K̂_is : K̂ ≡ add_bits S.key_bytes (sum a.key) (sum (K̃ S tape))
  K̂_is = add_cross S.key_bytes (a.key side0) (K̃ S tape side0) (a.key side1) (K̃ S tape side1)

  x̂_is : x̂ ≡ add_bits S.key_bytes (sum a.label) (sum (x̃ S tape))
  x̂_is = add_cross S.key_bytes (a.label side0) (x̃ S tape side0) (a.label side1) (x̃ S tape side1)

  infixl 70 ◌⊕◌
  abbrev ◌⊕◌ : List ℕ → List ℕ → List ℕ
  u ⊕ v = add_bits S.inner_bytes u v

  -- K̂ × x̂ is K × x + K̃ × x + K̂ × x̃
  opened : P K̂ x̂ ≡ P (sum a.key) (sum a.label) ⊕ P (sum (K̃ S tape)) (sum a.label) ⊕ (P K̂ (x̃ S tape side0) ⊕ P K̂ (x̃ S tape side1))
  opened =
      ap (P K̂) x̂_is ∙ linear.right K̂ (sum a.label) (sum (x̃ S tape))
      ∙ ap₂ ◌⊕◌ (ap (λ (k : List ℕ). P k (sum a.label)) K̂_is ∙ linear.left (sum a.key) (sum (K̃ S tape)) (sum a.label))
      (linear.right K̂ (x̃ S tape side0) (x̃ S tape side1))

  -- K̃ × x̂ is K̃ × x + K̃ × x̃
  masked : P (K̃ S tape side0) x̂ ⊕ P (K̃ S tape side1) x̂ ≡ P (sum (K̃ S tape)) (sum a.label) ⊕ P (sum (K̃ S tape)) (sum (x̃ S tape))
  masked =
      sym (linear.left (K̃ S tape side0) (K̃ S tape side1) x̂) ∙ ap (P (sum (K̃ S tape))) x̂_is
      ∙ linear.right (sum (K̃ S tape)) (sum a.label) (sum (x̃ S tape))

  -- ŵ = ŵ0 + ŵ1 is w + w̃
  pub mask-sum : total S.inner_bytes (mask S a tape) ≡ inner_of S a ⊕ w̃ S tape
  unfolding mask mask_of z P
  mask-sum =
      add_ext S.inner_bytes (mask S a tape side0) (mask S a tape side1) (inner_of S a) (w̃ S tape)
      (λ j l. rw opened (simp bitwise (parity _ _ _ _ _ _ _ _ _ (halves j l))))
    where
      halves : (j : ℕ) → j < 8 * S.inner_bytes
          → (bit (P (K̃ S tape side0) x̂) j + bit (P (K̃ S tape side1) x̂) j) % 2
          ≡ (bit (P (sum (K̃ S tape)) (sum a.label)) j + bit (P (sum (K̃ S tape)) (sum (x̃ S tape))) j) % 2
      halves j l = sym (bit_add S.inner_bytes _ _ j l) ∙ ap (λ (s : List ℕ). bit s j) masked ∙ bit_add S.inner_bytes _ _ j l

  -- the shares add to the code
  pub shares_add : add_trits (plane_bytes S.digits) (share S a tape side0) (share S a tape side1) ≡ code S (sum a.key) (sum a.label) a.files
  unfolding share share_of code code_of r
  shares_add =
      matrix_add (plane_bytes S.digits) m S.digits (rows_with S a.files) (inner_share m 0 ŵ (r0 S tape)) (inner_share m 1 ŵ r1) (bit_trits m w) digits
    where
      m : ℕ
      m = S.inner_bytes

      w : List ℕ
      w = inner_of S a

      ŵ : List ℕ
      ŵ = total m (mask S a tape)

      r1 : List ℕ
      r1 = subtract_trits m (w̃ S tape) (r0 S tape)

      digits : (j : ℕ) → j < 8 * m → (trit m (inner_share m 0 ŵ (r0 S tape)) j + trit m (inner_share m 1 ŵ r1) j) % 3 ≡ trit m (bit_trits m w) j % 3
      digits j l =
          rw (trit_bits m w j l)
          (conversion m w (w̃ S tape) ŵ (r0 S tape) r1 j l
          (ap (λ (s : List ℕ). bit s j) mask-sum ∙ bit_add m w (w̃ S tape) j l) (subtract_add m (w̃ S tape) (r0 S tape) j l)
          ∙ omega (arith, bit_lt w j))

-- ---- what two paired runs have in common

-- of two equal sums, with one term equal, the other term is
cancel : (n : ℕ) (a b c d : List ℕ) → Bytes n c → Bytes n d → add_bits n a c ≡ add_bits n b d → a ≡ b → c ≡ d
cancel n a b c d hc hd e p = sym (twice a c hc) ∙ ap₂ (add_bits n) p e ∙ twice b d hd
  where
    twice : (a c : List ℕ) → Bytes n c → add_bits n a (add_bits n a c) ≡ c
    twice a c h = add_is n a (add_bits n a c) c h (λ j l. simp bitwise (omega (arith, bit_lt c j)))

-- a fact of each side, from the fixed one's and the other's
abbrev pub both : (A : Side → Type 0) (fixed : Side) → A fixed → A (other fixed) → (i : Side) → A i
both A side0 p q side0 = p
both A side0 p q side1 = q
both A side1 p q side0 = q
both A side1 p q side1 = p

-- a sum of both halves, taken from either side
pub own_first : (n : ℕ) (f : Side → List ℕ) (i : Side) → add_bits n (f i) (f (other i)) ≡ total n f
own_first n f side0 = refl
own_first n f side1 = add_comm n (f side1) (f side0)

-- the fixed unit's deal, both open bodies and both masks
pub record InCommon (S : Scheme) (fixed : Side) (a b : Inputs) (t u : List ℕ) : Type 0 where
  pub inputs : SameForFixed fixed a b
  pub key_mask : K̃ S t fixed ≡ K̃ S u fixed
  pub label_mask : x̃ S t fixed ≡ x̃ S u fixed
  pub z : z S a.files t fixed ≡ z S b.files u fixed
  pub r : r S t fixed ≡ r S u fixed
  pub open_key : (i : Side) → open_key S a t i ≡ open_key S b u i
  pub open_label : (i : Side) → open_label S a t i ≡ open_label S b u i
  pub mask : (i : Side) → mask S a t i ≡ mask S b u i

z_parts : (S : Scheme) (lent : Files) (t : List ℕ) (i : Side) → z S lent t i ≡ z_of S lent (parts_of S t) i
unfolding z
z_parts S lent t side0 = refl
z_parts S lent t side1 = refl

r_parts : (S : Scheme) (lent : Files) (t : List ℕ) (i : Side) → r S t i ≡ r_of S lent (parts_of S t) i
unfolding r
r_parts S lent t side0 = refl
r_parts S lent t side1 = refl

-- what the pairing keeps is all that is needed: the other's mask follows from ŵ by cancelling
pub in_common : (S : Scheme) → Linear S → (fixed : Side) (a b : Inputs) (t u : List ℕ)
    → SameForFixed fixed a b → Kept S fixed a b (parts_of S t) (parts_of S u) → InCommon S fixed a b t u
unfolding mask
in_common S L fixed a b t u g k =
    record {
      inputs = g;
      key_mask = k.key_mask;
      label_mask = k.label_mask;
      z = zs;
      r = r_parts S a.files t fixed ∙ k.r ∙ sym (r_parts S b.files u fixed);
      open_key = keys;
      open_label = labels;
      mask =
          both (λ i. mask S a t i ≡ mask S b u i) fixed own
          (cancel S.inner_bytes _ _ _ _ (bytes_mask S a t (other fixed)) (bytes_mask S b u (other fixed)) sums own);
    }
  where
    n : ℕ
    n = S.key_bytes

    zs : z S a.files t fixed ≡ z S b.files u fixed
    zs = z_parts S a.files t fixed ∙ k.z ∙ sym (z_parts S b.files u fixed)

    keys : (i : Side) → open_key S a t i ≡ open_key S b u i
    keys = both (λ i. open_key S a t i ≡ open_key S b u i) fixed (ap₂ (add_bits n) g.key k.key_mask) k.open_key

    labels : (i : Side) → open_label S a t i ≡ open_label S b u i
    labels = both (λ i. open_label S a t i ≡ open_label S b u i) fixed (ap₂ (add_bits n) g.label k.label_mask) k.open_label

    own : mask S a t fixed ≡ mask S b u fixed
    own =
        λ i. mask_of S (g.files i) (side_byte fixed) (add_bits n (keys side0 i) (keys side1 i)) (add_bits n (labels side0 i) (labels side1 i)) (k.key_mask i)
        (k.label_mask i) (zs i)

    sums : add_bits S.inner_bytes (mask S a t fixed) (mask S a t (other fixed)) ≡ add_bits S.inner_bytes (mask S b u fixed) (mask S b u (other fixed))
    sums =
        own_first S.inner_bytes (mask S a t) fixed ∙ mask-sum S L a t ∙ k.inner ∙ sym (mask-sum S L b u) ∙ sym (own_first S.inner_bytes (mask S b u) fixed)
