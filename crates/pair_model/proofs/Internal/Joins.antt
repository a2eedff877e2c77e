-- What a share frame is read to, and the number of a join by its tests.
use mathlib.Core.Path.{◌≡◌, refl, sym, ap, ◌∙◌}
use mathlib.Core.List.{List, [], ◌∷◌, ◌++◌, append-nil}
use mathlib.Core.Bool.{Bool, true, false, cond, not, ◌||◌}
use Prim.Native.Nat.{ℕ, ◌*◌, ◌/◌, ◌<◌, ◌≤◌, min}
use native.Mathlib.Omega.{arith}
use borrow.Author.Tests.{lt-ltb, le-ltb}
use lib.Dec.{ltb, eqb, lit<}
use lib.ListN.{length, take, drop, length-drop, drop_of_length-le}
use lib.Seq.{take_all, length-take-le}
use Rattle.linear_model.specs.Trits.{fit_trits, zero_trits, sum_trit, add_trits}
use Rattle.linear_model.specs.Products.{plane_bytes}
use Rattle.linear_model.proofs.Vectors.{length-pack_trits}
use Rattle.numbers.specs.Number.{Condition, ◌when◌, first, output}
use Rattle.pair_model.specs.Scheme.{Scheme}
use Rattle.pair_model.specs.Frame.{share_kind, kind_of, line_of, body_of, code_bytes, frame_bytes, header_bytes}
use Rattle.pair_model.specs.Header.{Header, header_number, refused_with, line_conditions}
use Rattle.pair_model.specs.Join.{unfit_share, spare_set, join_header_conditions, share_conditions, join_conditions, join_number, joined}
use Rattle.numbers.proofs.Numbers.{first_pass, first_holds, first-zero, first_before, first-after, none_holds, or_left, or_right, is_at_least}
use Rattle.pair_model.proofs.Theorem.HeaderLaws.{header_read, Whole, whole_read}
use Rattle.pair_model.proofs.Internal.Headers.{header-number}

-- ---- one frame

module _ (S : Scheme) where
  -- what a share frame is read to
  abbrev pub share_read : List ℕ → Header
  share_read f = header_read S share_kind share_kind f

  -- where it is whole it has the length of its kind
  pub share_long : (f : List ℕ) → Whole S share_kind share_kind f → length f ≡ frame_bytes S share_kind
  share_long f w = let k : kind_of f ≡ share_kind = omega arith in w.long ∙ ap (frame_bytes S) k

  -- its body, as the code cuts it
  share_body : (f : List ℕ) → length f ≡ frame_bytes S share_kind → take (code_bytes S) (drop header_bytes f) ≡ body_of f
  share_body f e = take_all (code_bytes S) (drop header_bytes f) (rw length-drop (omega arith))

  abbrev p : ℕ
  p = plane_bytes S.digits

  -- the number of its share, as the code judges it
  abbrev pub number_of : List ℕ → ℕ
  number_of v = first (10 when not (fit_trits p S.digits v) ∷ 11 when not (zero_trits p S.digits v) ∷ [])

  -- a plane is half of a code
  half : (v : List ℕ) → length v ≡ code_bytes S → length v / 2 ≡ p
  half v l = halved (length v) p l
    where
      halved : (x y : ℕ) → x ≡ 2 * y → x / 2 ≡ y
      halved x y e = omega arith

  -- the tests of a share, at its length
  module _ (v : List ℕ) (l : length v ≡ code_bytes S) {b : Bool} where
    pub share_fit : b ≡ fit_trits (length v / 2) (min S.digits (8 * (length v / 2))) v → not (fit_trits p S.digits v) ≡ not b
    share_fit e =
        let k : min S.digits (8 * p) ≡ S.digits = omega arith in
        sym (ap not (e ∙ (λ i. fit_trits (half v l i) (min S.digits (8 * half v l i)) v) ∙ ap (λ (x : ℕ). fit_trits p x v) k))

    pub share_clear : b ≡ zero_trits (length v / 2) S.digits v → not (zero_trits p S.digits v) ≡ not b
    share_clear e = sym (ap not (e ∙ (λ i. zero_trits (half v l i) S.digits v)))

-- ---- two frames

-- the lower of two numbers, where 0 is none
abbrev pub lower_of : ℕ → ℕ → ℕ
lower_of a b = cond (eqb a 0) b (cond (eqb b 0) a (cond (ltb a b) a b))

-- each of two inputs may be refused for m, and else for n: m of either is before n of either
module _ (m n : ℕ) (some-m : eqb m 0 ≡ false) (some-n : eqb n 0 ≡ false) (less : ltb m n ≡ true) (more : ltb n m ≡ false) where
  alike : (b : Bool) (x : ℕ) → cond b x x ≡ x
  alike true x = refl
  alike false x = refl

  lower_first : (a b c d : Bool) (cs : List Condition) → ((a || c) ≡ false → (b || d) ≡ false → first cs ≡ 0)
      → lower_of (first (m when a ∷ n when b ∷ [])) (first (m when c ∷ n when d ∷ [])) ≡ first (m when (a || c) ∷ n when (b || d) ∷ cs)
  unfolding first
  lower_first true b true d cs h = (λ i. cond (some-m i) m (cond (some-m i) m (cond (ltb m m) m m))) ∙ alike (ltb m m) m
  lower_first true b false true cs h = λ i. cond (some-m i) n (cond (some-n i) m (cond (less i) m n))
  lower_first true b false false cs h = λ i. cond (some-m i) 0 m
  lower_first false true true d cs h = λ i. cond (some-n i) m (cond (some-m i) n (cond (more i) n m))
  lower_first false true false true cs h = (λ i. cond (some-n i) n (cond (some-n i) n (cond (ltb n n) n n))) ∙ alike (ltb n n) n
  lower_first false true false false cs h = λ i. cond (some-n i) 0 n
  lower_first false false true d cs h = refl
  lower_first false false false true cs h = refl
  lower_first false false false false cs h = sym (h refl refl)

module _ (S : Scheme) (f g : List ℕ) where
  -- frames that are refused with neither number are whole
  both_whole : (refused_with 3 (share_read S f) || refused_with 3 (share_read S g)) ≡ false → (refused_with 4 (share_read S f) || refused_with 4 (share_read S g)) ≡ false
      → Whole S share_kind share_kind f × Whole S share_kind share_kind g
  both_whole a b = (
    whole_read S share_kind share_kind f (or_left (refused_with 3 (share_read S f)) _ a) (or_left (refused_with 4 (share_read S f)) _ b),
    whole_read S share_kind share_kind g (or_right (refused_with 3 (share_read S f)) _ a) (or_right (refused_with 4 (share_read S f)) _ b),
  )

  -- the conditions of both shares are judged one by one
  pub share_numbers : length f ≡ frame_bytes S share_kind → length g ≡ frame_bytes S share_kind → lower_of (number_of S (take (code_bytes S) (drop header_bytes f))) (number_of S (take (code_bytes S) (drop header_bytes g))) ≡ first (share_conditions S f g)
  share_numbers p q =
      (λ i. lower_of (number_of S (share_body S f p i)) (number_of S (share_body S g q i)))
      ∙ lower_first 10 11 refl refl refl refl (unfit_share S f) (spare_set S f) (unfit_share S g) (spare_set S g) [] (λ a b. first-zero [] tt)

  module _ (n : ℕ) where
    pub join_room : n < code_bytes S → 1 ≡ join_number S f g n
    unfolding join_conditions
    join_room h = sym (first_holds 1 (ltb n (code_bytes S)) _ (lt-ltb n (code_bytes S) h))

    -- what is accepted has two frames of the stated length and room for the code
    pub record Fits : Type 0 where
      pub first-length : length f ≡ frame_bytes S share_kind
      pub second-length : length g ≡ frame_bytes S share_kind
      pub room : code_bytes S ≤ n

    pub join_fits : join_number S f g n ≡ 0 → Fits
    unfolding join_conditions
    join_fits e =
        let t = none_holds (join_conditions S f g n) (lit< tt, (lit< tt, (lit< tt, (lit< tt, (lit< tt, (lit< tt, (lit< tt, (lit< tt, tt)))))))) e in
        let w = both_whole t.1.0 t.1.1.0 in
        record { first-length = share_long S f w.0; second-length = share_long S g w.1; room = is_at_least n (code_bytes S) t.0 }

    -- with this room the first part that has a number decides
    module _ (h : code_bytes S ≤ n) where
      abbrev lines : List Condition
      lines = line_conditions (line_of g) f

      after_room : join_number S f g n ≡ first (join_header_conditions S f g ++ share_conditions S f g ++ lines)
      unfolding join_conditions
      after_room = first_pass 1 (ltb n (code_bytes S)) _ (le-ltb n (code_bytes S) h)

      pub number_of-headers : (first (join_header_conditions S f g) ≡ 0 → ⊥) → first (join_header_conditions S f g) ≡ join_number S f g n
      number_of-headers x = sym (after_room ∙ first_before (join_header_conditions S f g) _ x)

      module _ (z : first (join_header_conditions S f g) ≡ 0) where
        after-headers : join_number S f g n ≡ first (share_conditions S f g ++ lines)
        after-headers = after_room ∙ first-after (join_header_conditions S f g) _ (lit< tt, (lit< tt, (lit< tt, (lit< tt, tt)))) z

        pub number_of_shares : (first (share_conditions S f g) ≡ 0 → ⊥) → first (share_conditions S f g) ≡ join_number S f g n
        number_of_shares x = sym (after-headers ∙ first_before (share_conditions S f g) lines x)

        pub number_of-lines : first (share_conditions S f g) ≡ 0 → first lines ≡ join_number S f g n
        number_of-lines e = sym (after-headers ∙ first-after (share_conditions S f g) lines (lit< tt, (lit< tt, tt)) e)

  -- a header is refused
  pub join_refused : (Whole S share_kind share_kind f → Whole S share_kind share_kind g → ⊥)
      → lower_of (header_number (share_read S f)) (header_number (share_read S g)) ≡ first (join_header_conditions S f g)
  join_refused x =
      (λ i. lower_of (header-number S share_kind share_kind f [] (λ w. first-zero [] tt) i) (header-number S share_kind share_kind g [] (λ w. first-zero [] tt) i))
      ∙ lower_first 3 4 refl refl refl refl (refused_with 3 (share_read S f)) (refused_with 4 (share_read S f)) (refused_with 3 (share_read S g)) (refused_with 4 (share_read S g)) _
      (λ a b. let w = both_whole a b in absurd (x w.0 w.1))

  -- where none is, both frames have the length of their kind
  pub headers_long : first (join_header_conditions S f g) ≡ 0 → (length f ≡ frame_bytes S share_kind) × (length g ≡ frame_bytes S share_kind)
  headers_long e =
      let t = none_holds (join_header_conditions S f g) (lit< tt, (lit< tt, (lit< tt, (lit< tt, tt)))) e in
      let w = both_whole t.0 t.1.0 in
      (share_long S f w.0, share_long S g w.1)

-- the code, over the front of d, which has the n bytes of a code
pub join_written : (S : Scheme) (f g d o : List ℕ) {n : ℕ} → n ≡ code_bytes S → length f ≡ frame_bytes S share_kind → length g ≡ frame_bytes S share_kind → code_bytes S ≤ length d
    → o ≡ add_trits (length (take n d) / 2) (take (code_bytes S) (drop header_bytes f)) (take (code_bytes S) (drop header_bytes g)) ++ drop (2 * (length (take n d) / 2)) (take n d)
    → o ++ drop n d ≡ output 0 (joined S f g) d
unfolding output joined add_trits
join_written S f g d o {n} is lf lg h e =
    let p = plane_bytes S.digits in
    let l : length (take n d) ≡ n = length-take-le n d (omega (arith, is, h)) in
    let q : length (take n d) / 2 ≡ p = half S (take n d) (l ∙ is) in
    let c : List ℕ = add_trits p (drop header_bytes f) (drop header_bytes g) in
    let m : o ≡ c =
    e ∙ (λ i. add_trits (q i) (share_body S f lf i) (share_body S g lg i) ++ drop (2 * q i) (take n d))
    ∙ ap (λ (x : List ℕ). c ++ x) (drop_of_length-le (take n d) {i = 2 * p} (omega (arith, l, is))) ∙ append-nil c in
    (λ i. m i ++ drop ((is ∙ sym (length-pack_trits p (sum_trit p (drop header_bytes f) (drop header_bytes g)))) i) d)
