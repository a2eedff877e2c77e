-- A protocol whose mask frames lack z does not have `Privacy`: in the small scheme they tell side 0 how the key half of side 1 differs.
use Prim.Native.Nat.{ℕ}
use mathlib.Core.Path.{◌≡◌, refl, sym, ap, ap₂, ◌∙◌}
use mathlib.Core.List.{List, [], ◌∷◌}
use Rattle.linear_model.specs.Bits.{Bytes, zeros, from_bits, bit, pack, add_bits}
use Rattle.linear_model.specs.Tables.{tabulate, sum}
use Rattle.linear_model.specs.Products.{bit_product}
use Rattle.linear_model.proofs.Strings.{add_twice, add_comm}
use Rattle.pair_model.specs.Scheme.{Side, side0, side1, field}
use Rattle.pair_model.specs.Tape.{Accepted, K̃, x̃}
use Rattle.pair_model.specs.Frame.{body_of, open_layout}
use Rattle.pair_model.specs.Run.{run_of, SharedEntry, same, first_of, second_of}
use Rattle.pair_model.specs.View.{View, events, view}
use Rattle.pair_model.specs.Theorem.{Hides, Privacy}
use Rattle.pair_model.proofs.Theorem.TapeParts.{whole_parts}
use Rattle.pair_model.proofs.Theorem.MaskLaws.{open_key, open_label}
use Rattle.pair_model.proofs.Evidence.Small.{a, b, well₁, well₂, same_for, zero_one, small_linear, zero-tape}
use Rattle.pair_model.specs.Leaky.{small, mask_without_z, without_z}
use Rattle.pair_model.proofs.Evidence.Leaky.{sent, event_at}
use Rattle.pair_model.proofs.Evidence.LeakyMask.{opened, v₀, v₁, v₂, v₃, v₄, own_open, other_open, other-mask}

-- what side 0 sees in two runs over which it has the same view
record Equal (u : List ℕ) : Type 0 where
  key : (i : Side) → open_key small a (zeros 8) i ≡ open_key small b u i
  label : (i : Side) → open_label small a (zeros 8) i ≡ open_label small b u i
  masks : mask_without_z small a.files 1 (add_bits 1 (open_key small a (zeros 8) side1) (open_key small a (zeros 8) side0))
      (add_bits 1 (open_label small a (zeros 8) side1) (open_label small a (zeros 8) side0)) (K̃ small (zeros 8) side1) (x̃ small (zeros 8) side1)
      ≡ mask_without_z small a.files 1 (add_bits 1 (open_key small b u side1) (open_key small b u side0))
      (add_bits 1 (open_label small b u side1) (open_label small b u side0)) (K̃ small u side1) (x̃ small u side1)

module _ (H : Hides (without_z small) side0 a b) where
  u : List ℕ
  u = H.pairing.forth (zeros 8)

  hu : Accepted small u
  unfolding u
  hu = H.pairing.forth_holds (zeros 8) zero-tape

  es : List SharedEntry
  es =
      let e0 = same (sent small a.files side0) in let e1 = same (sent small a.files side1) in
      e1 ∷ e0 ∷ e1 ∷ e0 ∷ e0 ∷ []

  views : view (without_z small) side0 (run_of a (zeros 8)) (first_of side0 es) ≡ view (without_z small) side0 (run_of b u) (second_of side0 es)
  unfolding u es
  views =
      (H.same_view (zeros 8) zero-tape es (
        v₀ small small_linear a (zeros 8) well₁ zero-tape a.files refl,
        (
          v₁ small small_linear a (zeros 8) well₁ zero-tape a.files refl,
          (
            v₂ small small_linear a (zeros 8) well₁ zero-tape a.files refl,
            (
              v₃ small small_linear a (zeros 8) well₁ zero-tape a.files refl,
              (v₄ small small_linear a (zeros 8) well₁ zero-tape a.files refl, tt),
            ),
          ),
        ),
      )
      ).views

  own : (k : ℕ) → opened small a (zeros 8) side0 k ≡ opened small b u side0 k
  unfolding view events es
  own k =
      sym (own_open small small_linear a (zeros 8) well₁ zero-tape a.files refl k)
      ∙ ap (λ (v : View). field (open_layout small) k (body_of (event_at 0 v).written)) views
      ∙ own_open small small_linear b u well₂ hu a.files refl k

  others : (k : ℕ) → opened small a (zeros 8) side1 k ≡ opened small b u side1 k
  unfolding view events es
  others k =
      sym (other_open small small_linear a (zeros 8) well₁ zero-tape a.files refl k)
      ∙ ap (λ (v : View). field (open_layout small) k (body_of (event_at 1 v).frame)) views
      ∙ other_open small small_linear b u well₂ hu a.files refl k

  equal : Equal u
  unfolding view events es
  equal =
      record {
        key = λ i. elim i as (λ j. open_key small a (zeros 8) j ≡ open_key small b u j) [ side0 ↦ own 0 | side1 ↦ others 0 ];
        label = λ i. elim i as (λ j. open_label small a (zeros 8) j ≡ open_label small b u j) [ side0 ↦ own 1 | side1 ↦ others 1 ];
        masks =
            sym (other-mask small small_linear a (zeros 8) well₁ zero-tape a.files refl)
            ∙ ap (λ (v : View). body_of (event_at 2 v).frame) views
            ∙ other-mask small small_linear b u well₂ hu a.files refl;
      }

-- a byte that adds with x to y is y + x
pub apart : (k x y : List ℕ) → Bytes 1 k → y ≡ add_bits 1 x k → k ≡ add_bits 1 y x
apart k x y h e = sym (add_twice 1 k x h) ∙ ap (λ (s : List ℕ). add_bits 1 s x) (add_comm 1 k x ∙ sym e)

abbrev w : (K̂ x̂ K̃ x̃ : ℕ) → List ℕ
w K̂ x̂ K̃ x̃ = mask_without_z small a.files 1 (K̂ ∷ []) (x̂ ∷ []) (K̃ ∷ []) (x̃ ∷ [])

-- the two masks would be 0 and 1
different : ¬ (w 0 1 0 0 ≡ w 0 1 1 0)
unfolding mask_without_z add_bits pack tabulate from_bits bit bit_product sum
different e = zero_one [] [] e

impossible : (u : List ℕ) → Accepted small u → Equal u → ⊥
unfolding K̃ x̃ field add_bits pack tabulate from_bits bit
impossible u hu q = different (q.masks ∙ (λ j. mask_without_z small a.files 1 (K̂ j) (x̂ j) (K̃_is j) (x̃_is j)))
  where
    K̃_is : K̃ small u side1 ≡ 1 ∷ []
    K̃_is = apart (K̃ small u side1) (1 ∷ []) (0 ∷ []) ((whole_parts small u hu).key_mask side1) (q.key side1)

    x̃_is : x̃ small u side1 ≡ 0 ∷ []
    x̃_is = apart (x̃ small u side1) (0 ∷ []) (0 ∷ []) ((whole_parts small u hu).label_mask side1) (q.label side1)

    K̂ : add_bits 1 (open_key small b u side1) (open_key small b u side0) ≡ 0 ∷ []
    K̂ = ap₂ (add_bits 1) (sym (q.key side1)) (sym (q.key side0))

    x̂ : add_bits 1 (open_label small b u side1) (open_label small b u side0) ≡ 1 ∷ []
    x̂ = ap₂ (add_bits 1) (sym (q.label side1)) (sym (q.label side0))

-- so there is no pairing
pub without_z_lem : ¬ Privacy (without_z small)
unfolding u
without_z_lem privacy =
    let H = privacy side0 a b well₁ well₂ same_for in
    impossible (H.pairing.forth (zeros 8)) (hu H) (equal H)
