-- A draw over bytes E4, whose pairs are 0, 1, 2 and 3, one after the other.
use Prim.Native.Nat.{ℕ, zero, suc, ◌+◌, ◌*◌, ◌/◌, ◌%◌, ◌^◌, ◌<◌}
use mathlib.Core.Path.{◌≡◌, refl, ap, ap₂, ◌∙◌, subst}
use mathlib.Core.List.{List, [], ◌∷◌}
use native.Mathlib.Nat.{add-zero, zero-add}
use native.Mathlib.Omega.{arith}
use lib.Dec.{lit<}
use lib.ListN.{length, get_or}
use Rattle.linear_model.specs.Tables.{every}
use Rattle.linear_model.proofs.Tables.{same₁}
use Rattle.source_model.specs.Pair.{pair}
use Rattle.source_model.specs.Draw.{Drawn, found, draw}
use Rattle.source_model.proofs.Draws.{draw_skip, draw-found}

-- a draw and what is left of it after 3n trits
pub record Many (n : ℕ) (before after : Drawn) : Type 0 where
  pub trits : length before.trits ≡ 3 * n + length after.trits
  pub next : before.next ≡ after.next

module _ (source : List ℕ) where
  -- a pair below 3 is the next trit
  pub one-trit : (wanted left k t : ℕ) → pair source k ≡ t → t < 3 → draw source (suc wanted) (suc left) k ≡ found t (draw source wanted left (suc k))
  one-trit wanted left k t e l = draw-found source wanted left k (λ n. omega arith) ∙ ap (λ (x : ℕ). found x (draw source wanted left (suc k))) e

  -- pair i of a byte E4 is i
  pair-at : (b i k : ℕ) → get_or source b 0 ≡ 0xE4 → i < 4 → k ≡ 4 * b + i → pair source k ≡ i
  unfolding pair every
  pair-at b i k e l p =
      ap₂ (λ (x y : ℕ). get_or source x 0 / 4 ^ y % 4) (omega arith) (omega arith) ∙ ap (λ (x : ℕ). x / 4 ^ i % 4) e
      ∙ same₁ 4 (λ i. 0xE4 / 4 ^ i % 4) (λ i. i) tt i l

  -- such a byte gives 0, 1 and 2 where more are wanted
  one_byte : (b wanted left : ℕ) → get_or source b 0 ≡ 0xE4
      → draw source (suc (suc (suc (suc wanted)))) (suc (suc (suc (suc left)))) (4 * b)
      ≡ found 0 (found 1 (found 2 (draw source (suc wanted) left (4 * suc b))))
  one_byte b wanted left e =
      one-trit (suc (suc (suc wanted))) (suc (suc (suc left))) k 0 (pair-at b 0 k e (lit< tt) (omega arith)) (lit< tt)
      ∙ ap (found 0)
      (one-trit (suc (suc wanted)) (suc (suc left)) (suc k) 1 (pair-at b 1 (suc k) e (lit< tt) (omega arith)) (lit< tt)
      ∙ ap (found 1)
      (one-trit (suc wanted) (suc left) (suc (suc k)) 2 (pair-at b 2 (suc (suc k)) e (lit< tt) (omega arith)) (lit< tt)
      ∙ ap (found 2)
      (draw_skip source wanted left (suc (suc (suc k))) (pair-at b 3 (suc (suc (suc k))) e (lit< tt) (omega arith)) ∙ ap (draw source (suc wanted) left) end)))
    where
      k : ℕ
      k = 4 * b

      end : suc (suc (suc (suc k))) ≡ 4 * suc b
      end = omega arith

  -- n such bytes give 3n trits where more are wanted
  pub many : (n b wanted left : ℕ) → ((i : ℕ) → i < n → get_or source (b + i) 0 ≡ 0xE4)
      → Many n (draw source (suc (3 * n + wanted)) (4 * n + left) (4 * b)) (draw source (suc wanted) left (4 * (b + n)))
  many zero b wanted left h = rw (zero-add wanted, zero-add left, add-zero b) (record { trits = omega arith; next = refl })
  many (suc n) b wanted left h =
      let moved : (i : ℕ) → suc b + i ≡ b + suc i = λ i. omega arith in
      let w : 3 * suc n + wanted ≡ suc (suc (suc (3 * n + wanted))) = omega arith in
      let l : 4 * suc n + left ≡ suc (suc (suc (suc (4 * n + left)))) = omega arith in
      let rest = many n (suc b) wanted left (λ i l. rw (moved i) (h (suc i) (omega arith))) in
      rw (w, l, one_byte b (3 * n + wanted) (4 * n + left) (rw add-zero at (h 0 (omega arith))), ← moved n)
      (record { trits = omega (arith, rest.trits); next = rest.next })

  -- and one more gives the last one that is wanted
  pub many_and_one : (n b left : ℕ) → ((i : ℕ) → i < suc n → get_or source (b + i) 0 ≡ 0xE4)
      → Many n (draw source (suc (3 * n + 0)) (4 * n + suc left) (4 * b)) (record { trits = 0 ∷ []; next = suc (4 * (b + n)) })
  unfolding draw
  many_and_one n b left h =
      subst (Many n (draw source (suc (3 * n + 0)) (4 * n + suc left) (4 * b)))
      (one-trit 0 left (4 * (b + n)) 0 (pair-at (b + n) 0 (4 * (b + n)) (h n (omega arith)) (lit< tt) (omega arith)) (lit< tt))
      (many n b 0 (suc left) (λ i l. h i (omega arith)))
