-- Laws of the digits that a row carries, and of entries written one after the other.
use mathlib.Core.Path.{◌≡◌, refl, sym, ap, ap₂, ◌∙◌}
use mathlib.Core.List.{List, [], ◌∷◌, ◌++◌, append-nil}
use mathlib.Core.Bool.{not}
use mathlib.Core.Logic.{◌≢◌}
use Prim.Native.Nat.{ℕ, suc, ◌+◌, ◌*◌, ◌/◌, ◌%◌, ◌<◌, ◌≤◌}
use native.Mathlib.Omega.{arith}
use borrow.Author.Tests.{ne_eqb}
use lib.ListN.{length, get_or, set, drop, length-append}
use lib.Seq.{drop-cons, append_snoc, set_at}
use Rattle.linear_model.specs.Tables.{tabulate}
use Rattle.numbers.specs.Number.{at_front}
use Rattle.elimination_model.specs.Tie.{least_passing, nonzero_at, leading_digit, entries_from, entry_count, tie_bytes}
use Rattle.elimination_model.specs.Internal.Words.{word_trit, digit_at, carried_at, CarryingRow, Carrying, FirstTied}
use Rattle.elimination_model.specs.Internal.Elimination.{Carried}
use Rattle.elimination_model.proofs.Carried.{carried_start, carried_tie}
use Rattle.elimination_model.proofs.Internal.Writing.{rows_apart}
use Rattle.elimination_model.proofs.Least.{least_at_most, leading_is}
use Rattle.elimination_model.proofs.TieEntries.{entries_more, entries-zero, entries-nonzero, entries_even, entries-tabulate_length}

-- where digit k of what row r carries stands
pub carried_column : (w f : ℕ) (words : List ℕ) (r k : ℕ) → word_trit w words (2 * w * r) (f + k / 64) (k % 64) ≡ carried_at w f words r k
carried_column w f words r k =
    let word : f + k / 64 ≡ (64 * f + k) / 64 = omega arith in
    let bit : k % 64 ≡ (64 * f + k) % 64 = omega arith in
    ap₂ (λ (x y : ℕ). word_trit w words (2 * w * r) x y) word bit

-- such a digit is 0, 1 or 2
pub carried_small : (w f r k : ℕ) (words : List ℕ) → CarryingRow w f r words → k < suc r → carried_at w f words r k < 3
carried_small w f r k words x l =
    rw (sym (carried_column w f words r k)) (x.row.fit (f + k / 64) (omega (arith, x.room)) (k % 64))

-- a digit other than 0 after digits that are all 0 is the first
pub leading_found : (n k : ℕ) (d : ℕ → ℕ) → k < n → d k % 3 ≢ 0 → ((i : ℕ) → i < k → d i ≡ 0) → d k ≡ leading_digit n d
leading_found n k d l h z = ap d (sym (leading_is n d k l h (λ i m. ap (λ (x : ℕ). x % 3) (z i m))))

-- and is 0, 1 or 2
pub leading_small : (w f r : ℕ) (words : List ℕ) → CarryingRow w f r words → carried_at w f words r r % 3 ≢ 0 → leading_digit (suc r) (carried_at w f words r) < 3
leading_small w f r words x h =
    let d = carried_at w f words r in
    carried_small w f r (least_passing (suc r) (nonzero_at d)) words x
    (omega (arith, least_at_most (suc r) (nonzero_at d) r (ap not (ne_eqb (d r % 3) 0 h))))

-- ---- the first tied row

module _ (w f t r : ℕ) (words words' : List ℕ) (x : Carrying w f t words) (y : FirstTied w f t words words' r) (l : r < t) where
  pub tied_row : CarryingRow w f r words'
  tied_row =
      record {
        row = record { long = omega (arith, y.fit.long, rows_apart w r t l); fit = λ m h k. y.fit.fit r m l h k };
        room = omega (arith, x.room);
      }

  carried : Carried (64 * f) t (digit_at w words) (digit_at w words') (carried_at w f words')
  carried =
      y.carried (digit_at w words) x.room
      (carried_start (64 * f) t (digit_at w words) (digit_at w words) (carried_at w f words) (λ i j _ _. refl) x.alone)

  -- it is in the combination that it carries
  pub tied-own : carried_at w f words' r r % 3 ≢ 0
  tied-own = carried.own r l

  -- which, divided by its first digit, is the tie
  pub tied-entries : (lead : ℕ) → lead ≡ leading_digit (suc r) (carried_at w f words' r)
      → entries_from 0 (tabulate (suc r) (λ k. lead * carried_at w f words' r k % 3)) ≡ tie_bytes (64 * f) t (digit_at w words)
  tied-entries lead e =
      ap (λ (z : ℕ). entries_from 0 (tabulate (suc r) (λ k. z * carried_at w f words' r k % 3))) e
      ∙ carried_tie (64 * f) t r (digit_at w words) (digit_at w words') (carried_at w f words') l carried (y.zero_row l) y.before

-- ---- bytes at the front

-- a byte more behind those at the front
front-next : (list old : List ℕ) (n x : ℕ) → length list ≡ n → n < length old → set (at_front list old) n x ≡ at_front (list ++ x ∷ []) old
front-next list old n x e h =
    ap (λ (k : ℕ). set (list ++ drop k old) n x) e
    ∙ ap (λ (rest : List ℕ). set (list ++ rest) n x) (drop-cons old n 0 h)
    ∙ set_at list (get_or old n 0) (drop (suc n) old) x n e
    ∙ sym (append_snoc list x (drop (suc n) old))
    ∙ ap (λ (k : ℕ). list ++ (x ∷ []) ++ drop k old) size
  where
    size : suc n ≡ length (list ++ x ∷ [])
    size = omega (arith, length-append list (x ∷ []))

-- an entry more
front_more : (list old : List ℕ) (n x y : ℕ) → length list ≡ n → n + 2 ≤ length old
    → set (set (at_front list old) n x) (n + 1) y ≡ at_front (list ++ x ∷ y ∷ []) old
front_more list old n x y e h =
    ap (λ (s : List ℕ). set s (n + 1) y) (front-next list old n x e (omega arith))
    ∙ front-next (list ++ x ∷ []) old (n + 1) y (omega (arith, length-append list (x ∷ []))) (omega arith)
    ∙ ap (λ (s : List ℕ). at_front s old) (append_snoc list x (y ∷ []))

-- ---- the entries of the first k of digits d

abbrev pub entries : (ℕ → ℕ) → ℕ → List ℕ
entries d k = entries_from 0 (tabulate k d)

-- n entries stand at the front
abbrev pub Written : (ℕ → ℕ) → ℕ → List ℕ → ℕ → List ℕ → Type 0
Written d k old n out = (n ≡ entry_count (entries d k)) × (out ≡ at_front (entries d k) old)

pub written_none : (d : ℕ → ℕ) (old : List ℕ) → Written d 0 old 0 old
unfolding entries_from tabulate
written_none d old = (refl, refl)

module _ (d : ℕ → ℕ) (k n : ℕ) (old out : List ℕ) (w : Written d k old n out) where
  bytes : length (entries d k) ≡ 2 * n
  bytes = sym (entries_even 0 (tabulate k d)) ∙ ap (λ (m : ℕ). 2 * m) (sym w.0)

  -- there is room for one more
  pub entry_room : (r : ℕ) → k ≤ r → 2 * r + 2 ≤ length old → 2 * n + 2 ≤ length old
  entry_room r h l = omega (arith, bytes, entries-tabulate_length k d)

  -- with a digit 0 they are the same
  pub entries_same : (x : ℕ) → x ≡ d k → x ≡ 0 → Written d (k + 1) old n out
  entries_same x e z =
      let same : entries d (k + 1) ≡ entries d k =
      entries_more k d ∙ ap (λ (s : List ℕ). entries d k ++ s) (entries-zero k (d k) (sym e ∙ z)) ∙ append-nil (entries d k) in
      (w.0 ∙ ap entry_count (sym same), w.1 ∙ ap (λ (s : List ℕ). at_front s old) (sym same))

  -- with another digit there is one more
  pub entries_next : (x : ℕ) → x ≡ d k → 0 < x → 2 * n + 2 ≤ length old → Written d (k + 1) old (n + 1) (set (set out (2 * n) k) (2 * n + 1) x)
  entries_next x e h l = (
    omega (arith, bytes, ap length next, length-append (entries d k) (k ∷ x ∷ [])),
    ap (λ (s : List ℕ). set (set s (2 * n) k) (2 * n + 1) x) w.1 ∙ front_more (entries d k) old (2 * n) k x bytes l
        ∙ ap (λ (s : List ℕ). at_front s old) (sym next),
  )
    where
      next : entries d (k + 1) ≡ entries d k ++ k ∷ x ∷ []
      next =
          entries_more k d ∙ ap (λ (y : ℕ). entries d k ++ entries_from k (y ∷ [])) (sym e)
          ∙ ap (λ (s : List ℕ). entries d k ++ s) (entries-nonzero k x h)
