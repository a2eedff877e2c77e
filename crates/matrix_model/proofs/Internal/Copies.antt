-- Laws of a list that is overwritten part by part, from the front.
use mathlib.Core.Path.{◌≡◌, refl, sym, ap, ◌∙◌}
use mathlib.Core.List.{List, [], ◌∷◌, ◌++◌, append_assoc}
use Prim.Native.Nat.{ℕ, zero, suc, ◌+◌, ◌-◌, ◌≤◌, zero-le}
use native.Mathlib.Nat.{zero-add, suc-add}
use native.Mathlib.Omega.{arith}
use lib.ListN.{length, take, drop, length-append, length-drop, replicate-append-replicate, take-append-drop}
use lib.Seq.{take_at, drop-drop, drop_at}
use Rattle.linear_model.specs.Tables.{tabulate, from}
use Rattle.linear_model.specs.Bits.{zeros}
use Rattle.linear_model.proofs.Copies.{pasted, Copied, copied_more}
use Rattle.linear_model.proofs.Strings.{length-zeros}
use Rattle.linear_model.proofs.Tables.{tabulate_ext, length-tabulate}
use Rattle.matrix_model.proofs.Parts.{length_part}

-- a part of zeros
pub zeros_part : (N m n : ℕ) → m + n ≤ N → take n (drop m (zeros N)) ≡ zeros n
zeros_part N m n h =
    let e : N ≡ m + (n + (N - m - n)) = omega arith in
    ap (λ (k : ℕ). take n (drop m (zeros k))) e ∙ go (N - m - n)
  where
    go : (r : ℕ) → take n (drop m (zeros (m + (n + r)))) ≡ zeros n
    go r =
        rw (← replicate-append-replicate {A = ℕ} m (n + r) 0, drop_at (zeros m) (zeros (n + r)) m (length-zeros m), ← replicate-append-replicate {A = ℕ} n r 0)
        (take_at (zeros n) (zeros r) n (length-zeros n))

-- ---- parts that are copied

-- no part yet
pub copied_none : {d : List ℕ} → Copied [] d d
copied_none = record { within = zero-le; is = refl }

module _ {a d o : List ℕ} (c : Copied a d o) where
  -- the length stays
  pub copied_long : length o ≡ length d
  copied_long = ap length c.is ∙ rw (length-append, length-drop) (omega (arith, c.within))

  -- a part is left as it was
  pub copied_kept : (n : ℕ) → length a + n ≤ length d → Copied (a ++ take n (drop (length a) d)) d o
  copied_kept n l =
      let h : length (take n (drop (length a) d)) ≡ n = length_part n (length a) d (omega arith) in
      record { within = rw (length-append, h) l; is = c.is ∙ rw (append_assoc, length-append, h, ← drop-drop, take-append-drop) }

-- ---- tables

-- a table in two parts
tabulate_split : (m k : ℕ) (f : ℕ → ℕ) → tabulate (m + k) f ≡ tabulate m f ++ tabulate k (from m f)
unfolding tabulate
tabulate_split zero k f = ap (λ (n : ℕ). tabulate n f) (zero-add k) ∙ tabulate_ext k f (from 0 f) (λ i l. ap f (sym (zero-add i)))
tabulate_split (suc m) k f =
    ap (λ (n : ℕ). tabulate n f) (suc-add m k)
    ∙ ap {B = List ℕ} (λ r. f 0 ∷ r) (tabulate_split m k (λ i. f (suc i)))
    ∙ ap {B = List ℕ} (λ r. f 0 ∷ tabulate m (λ i. f (suc i)) ++ r) (tabulate_ext k (from m (λ i. f (suc i))) (from (suc m) f) (λ i l. ap f (sym (suc-add m i))))

-- the next part of a table is copied
pub copied_table : (m : ℕ) (f : ℕ → ℕ) {d o o' : List ℕ} (part : List ℕ) (k : ℕ) → Copied (tabulate m f) d o → o' ≡ pasted m part o
    → part ≡ tabulate k (from m f) → m + k ≤ length d → Copied (tabulate (m + k) f) d o'
copied_table m f {d} {o} {o'} part k c e p l =
    let h : length part ≡ k = rw p (length-tabulate k (from m f)) in
    let n : length (tabulate m f) ≡ m = length-tabulate m f in
    rw (tabulate_split m k f, ← p) (copied_more m (tabulate m f) part o o' c (sym n) (omega arith) e)
