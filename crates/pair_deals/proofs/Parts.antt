-- Laws of parts of strings that are read and written where they stand, and of the fields of a deal frame.
use mathlib.Core.Path.{◌≡◌, refl, sym, ap, ap₂, ◌∙◌}
use mathlib.Core.List.{List, [], ◌∷◌, ◌++◌, append-nil, append_assoc}
use mathlib.Core.Bool.{Bool}
use Prim.Native.Nat.{ℕ, ◌+◌, ◌-◌, ◌*◌, ◌/◌, ◌≤◌, min}
use native.Mathlib.Omega.{arith}
use lib.ListN.{length, take, drop, length-append, drop_of_length-le}
use lib.Seq.{take_at, drop-drop}
use Rattle.linear_model.specs.Bits.{add_bits}
use Rattle.linear_model.specs.Trits.{fit_trits, subtract_trits}
use Rattle.linear_model.specs.Products.{circulant_product}
use Rattle.linear_model.proofs.Copies.{pasted}
use Rattle.linear_model.proofs.Strings.{add_comm, bytes_add}
use Rattle.linear_model.proofs.Vectors.{bytes_subtract}
use Rattle.numbers.specs.Number.{output}
use Rattle.pair_model.specs.Scheme.{no_files, Side, side0, side1, total, concat}
use Rattle.pair_model.specs.Tape.{tape_bytes, K̃, x̃, w̃, z0, r0, z, r, deal}
use Rattle.pair_model.specs.Frame.{SharedParameters, parameters_of, deal_kind, header, frame, frame_bytes, header_bytes}
use Rattle.pair_model.specs.Dealer.{deal_frame, dealt, dealt_bytes}
use Rattle.pair_model.proofs.Internal.Deals.{fit_r0, deal-written}
use Rattle.pair_model.proofs.Internal.FieldCopies.{FieldsCopied, fields_more, fields_front}
use Rattle.pair_frames.specs.declared.sizes.Sizes.{Sizes}
use Rattle.pair_frames.specs.Schemes.{scheme_in}

-- the k bytes from a to b
pub cut : (a b k : ℕ) (t : List ℕ) → b ≡ a + k → take (b - a) (drop a t) ≡ take k (drop a t)
cut a b k t e = let q : b - a ≡ k = omega arith in ap (λ (x : ℕ). take x (drop a t)) q

-- n bytes in front
pub front_long : (n : ℕ) (x y : List ℕ) → length x ≡ n → n ≤ length (x ++ y)
front_long n x y e = rw length-append (omega arith)

pub front_part : (n : ℕ) (x y : List ℕ) → length x ≡ n → n ≡ length (take n (x ++ y))
front_part n x y e = sym (ap length (take_at x y n e) ∙ e)

-- a part that is written where it stands is copied there
part_pasted : (k n : ℕ) (o v : List ℕ) → length v ≡ n → take k o ++ (v ++ drop n (drop k o)) ≡ pasted k v o
part_pasted k n o v e =
    ap (λ (x : List ℕ). take k o ++ (v ++ x)) (drop-drop n k o ∙ ap (λ (x : ℕ). drop (k + x) o) (sym e))
    ∙ sym (append_assoc (take k o) v (drop (k + length v) o))

abbrev key : Sizes → ℕ
key sizes = sizes.key_bytes

abbrev inner : Sizes → ℕ
inner sizes = sizes.inner_bytes

module _ (sizes : Sizes) (t : List ℕ) where
  -- z1, by its steps
  pub z_is : (K X o₁ o₂ o₃ : List ℕ) → K ≡ total (key sizes) (K̃ (scheme_in sizes) t) → X ≡ total (key sizes) (x̃ (scheme_in sizes) t)
      → o₁ ≡ circulant_product (inner sizes) K X → o₂ ≡ add_bits (inner sizes) o₁ (z0 (scheme_in sizes) t) → o₃ ≡ add_bits (inner sizes) o₂ (w̃ (scheme_in sizes) t)
      → o₃ ≡ z (scheme_in sizes) no_files t side1
  unfolding z
  z_is K X o₁ o₂ o₃ eK eX e₁ e₂ e₃ =
      let S = scheme_in sizes in
      let m = inner sizes in
      let p = e₁ ∙ ap₂ (λ (a b : List ℕ). circulant_product m a b) eK eX in
      e₃ ∙ ap (λ (a : List ℕ). add_bits m a (w̃ S t)) (e₂ ∙ ap (λ (a : List ℕ). add_bits m a (z0 S t)) p ∙ add_comm m _ _)

  z_long : length (z (scheme_in sizes) no_files t side1) ≡ inner sizes
  unfolding z
  z_long =
      let m = inner sizes in
      (bytes_add m _ _).size

  -- r1, where all of the output is written
  pub r_is : (d o : List ℕ) → length d ≡ 2 * inner sizes
      → o ≡ subtract_trits (length d / 2) (w̃ (scheme_in sizes) t) (r0 (scheme_in sizes) t) ++ drop (2 * (length d / 2)) d
      → o ≡ r (scheme_in sizes) t side1
  unfolding r
  r_is d o l e =
      let S = scheme_in sizes in
      let m = inner sizes in
      let h : length d / 2 ≡ m = omega arith in
      let v = subtract_trits m (w̃ S t) (r0 S t) in
      e ∙ (λ i. subtract_trits (h i) (w̃ S t) (r0 S t) ++ drop (2 * h i) d)
      ∙ ap (λ (x : List ℕ). v ++ x) (drop_of_length-le d {i = 2 * m} (omega arith)) ∙ append-nil v

  r_long : length (r (scheme_in sizes) t side1) ≡ 2 * inner sizes
  unfolding r
  r_long =
      let m = inner sizes in
      omega (arith, (bytes_subtract m (w̃ (scheme_in sizes) t) (r0 (scheme_in sizes) t)).size)

  -- unit 0's are the tape's
  first_z : z0 (scheme_in sizes) t ≡ z (scheme_in sizes) no_files t side0
  unfolding z
  first_z = refl

  first_r : r0 (scheme_in sizes) t ≡ r (scheme_in sizes) t side0
  unfolding r
  first_r = refl

  -- a frame of its header and four fields
  deal_fields_lem : (shared : SharedParameters) (i : Side) (d o h a b c v : List ℕ) → FieldsCopied (header_bytes + key sizes + key sizes + inner sizes + 2 * inner sizes) (h ∷ a ∷ b ∷ c ∷ v ∷ []) d o
      → h ≡ header deal_kind (parameters_of i shared) → a ≡ K̃ (scheme_in sizes) t i → b ≡ x̃ (scheme_in sizes) t i
      → c ≡ z (scheme_in sizes) no_files t i → v ≡ r (scheme_in sizes) t i
      → o ≡ deal_frame (scheme_in sizes) shared no_files t i ++ drop (frame_bytes (scheme_in sizes) deal_kind) d
  unfolding deal_frame deal frame concat
  deal_fields_lem shared i d o h a b c v f eh ea eb ec ev =
      let n = key sizes in
      let m = inner sizes in
      let q : header_bytes + n + n + m + 2 * m ≡ frame_bytes (scheme_in sizes) deal_kind = omega arith in
      fields_front f ∙ (λ j. concat (eh j ∷ ea j ∷ eb j ∷ ec j ∷ ev j ∷ []) ++ drop (q j) d)

  module _ (shared : SharedParameters) (i : Side) {d o₂ a b : List ℕ} (room : frame_bytes (scheme_in sizes) deal_kind ≤ length d)
      (ea : a ≡ K̃ (scheme_in sizes) t i) (la : length a ≡ key sizes) (eb : b ≡ x̃ (scheme_in sizes) t i) (lb : length b ≡ key sizes)
      (f : FieldsCopied (header_bytes + length a + length b) (header deal_kind (parameters_of i shared) ∷ a ∷ b ∷ []) d o₂) where
    masks : FieldsCopied (header_bytes + key sizes + key sizes) (header deal_kind (parameters_of i shared) ∷ a ∷ b ∷ []) d o₂
    masks = let e : header_bytes + length a + length b ≡ header_bytes + key sizes + key sizes = omega arith in rw e at f

    -- unit 0's frame, whose z0 and r0 are copied
    pub first_frame : {o₃ o₄ c v : List ℕ} → i ≡ side0 → c ≡ z0 (scheme_in sizes) t → length c ≡ inner sizes → v ≡ r0 (scheme_in sizes) t → length v ≡ 2 * inner sizes
        → o₃ ≡ pasted (header_bytes + length a + length b) c o₂ → o₄ ≡ pasted (header_bytes + length a + length b + inner sizes) v o₃
        → o₄ ≡ deal_frame (scheme_in sizes) shared no_files t i ++ drop (frame_bytes (scheme_in sizes) deal_kind) d
    first_frame {o₃} {o₄} {c} {v} is ec lc ev lv e₃ e₄ =
        let e : header_bytes + length a + length b ≡ header_bytes + key sizes + key sizes = omega arith in
        let f₃ = fields_more masks (inner sizes) c o₃ lc (omega arith) (e₃ ∙ ap (λ (k : ℕ). pasted k c o₂) e) in
        let f₄ = fields_more f₃ (2 * inner sizes) v o₄ lv (omega arith) (e₄ ∙ ap (λ (k : ℕ). pasted (k + inner sizes) v o₃) e) in
        deal_fields_lem shared i d o₄ _ a b c v f₄ refl ea eb (ec ∙ first_z ∙ ap (z (scheme_in sizes) no_files t) (sym is)) (ev ∙ first_r ∙ ap (r (scheme_in sizes) t) (sym is))

    -- unit 1's, whose z1 and r1 are written where they stand
    pub second_frame : {v w : List ℕ} → v ≡ z (scheme_in sizes) no_files t i → w ≡ r (scheme_in sizes) t i → length v ≡ inner sizes → length w ≡ 2 * inner sizes
        → (let at : ℕ = header_bytes + length a + length b in let o₃ = take at o₂ ++ (v ++ drop (at + inner sizes - at) (drop at o₂)) in
        take (at + inner sizes) o₃ ++ (w ++ drop (at + inner sizes + 2 * inner sizes - (at + inner sizes)) (drop (at + inner sizes) o₃)))
        ≡ deal_frame (scheme_in sizes) shared no_files t i ++ drop (frame_bytes (scheme_in sizes) deal_kind) d
    second_frame {v} {w} ev ew lv lw =
        let m = inner sizes in
        let at : ℕ = header_bytes + length a + length b in
        let e : at ≡ header_bytes + key sizes + key sizes = omega arith in
        let o₃ : List ℕ = take at o₂ ++ (v ++ drop (at + m - at) (drop at o₂)) in
        let p₃ : o₃ ≡ pasted at v o₂ = part_pasted at (at + m - at) o₂ v (omega arith) in
        let f₃ = fields_more masks m v o₃ lv (omega arith) (p₃ ∙ ap (λ (k : ℕ). pasted k v o₂) e) in
        let p₄ = part_pasted (at + m) (at + m + 2 * m - (at + m)) o₃ w (omega arith) in
        let f₄ = fields_more f₃ (2 * m) w _ lw (omega arith) (p₄ ∙ ap (λ (k : ℕ). pasted (k + m) w o₃) e) in
        deal_fields_lem shared i d _ _ a b v w f₄ refl ea eb ev ew

  -- the second frame behind the first, whose length the code adds up in its own way
  pub deal_behind : (shared : SharedParameters) (x : ℕ) → x ≡ frame_bytes (scheme_in sizes) deal_kind → (d o p : List ℕ) → length t ≡ tape_bytes (scheme_in sizes) → dealt_bytes (scheme_in sizes) ≤ length d
      → o ≡ deal_frame (scheme_in sizes) shared no_files t side0 ++ drop (frame_bytes (scheme_in sizes) deal_kind) d
      → p ≡ deal_frame (scheme_in sizes) shared no_files t side1 ++ drop (frame_bytes (scheme_in sizes) deal_kind) (take (length o - x) (drop x o))
      → take x o ++ (p ++ drop (length o - x) (drop x o)) ≡ output 0 (dealt (scheme_in sizes) shared no_files t) d
  deal_behind shared x e d o p l h eo ep =
      let S = scheme_in sizes in
      let n = key sizes in
      let m = inner sizes in
      (λ i. take (e i) o ++ (p ++ drop (length o - e i) (drop (e i) o)))
      ∙ deal-written S shared no_files t d o p l h eo
      (ep ∙ (λ i. deal_frame S shared no_files t side1 ++ drop (frame_bytes S deal_kind) (take (length o - e i) (drop (e i) o))))

  -- the test of r0
  pub fit_part : {b : Bool} → length t ≡ tape_bytes (scheme_in sizes)
      → (let v = take (4 * key sizes + 2 * inner sizes + 2 * inner sizes - (4 * key sizes + 2 * inner sizes)) (drop (4 * key sizes + 2 * inner sizes) t) in b ≡ fit_trits (length v / 2) (min (8 * inner sizes) (8 * (length v / 2))) v)
      → fit_trits (inner sizes) (8 * inner sizes) (r0 (scheme_in sizes) t) ≡ b
  fit_part l e =
      let n = key sizes in
      let m = inner sizes in
      let w = cut (4 * n + 2 * m) (4 * n + 2 * m + 2 * m) (2 * m) t refl in
      sym (e ∙ (λ i. fit_trits (length (w i) / 2) (min (8 * m) (8 * (length (w i) / 2))) (w i)) ∙ fit_r0 (scheme_in sizes) t l)
