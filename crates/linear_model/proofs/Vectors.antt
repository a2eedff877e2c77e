-- Laws of trit vectors: what is packed, fitness, sums and differences modulo 3.
use mathlib.Core.Path.{◌≡◌, sym, ap, ap₂, ◌∙◌}
use mathlib.Core.List.{List, ◌++◌}
use Prim.Native.Nat.{ℕ, ◌+◌, ◌*◌, ◌/◌, ◌%◌, ◌<◌, ◌≤◌}
use native.Mathlib.Nat.{mod-add-mod, add-mod-mod, add-mul-mod_self_left, mod-eq_of_lt}
use native.Mathlib.Omega.{arith}
use lib.ListN.{length, take, drop, take-append-drop, length-drop, length-append}
use lib.Seq.{take_all}
use lib.Dec.{T, lt→ltb, ltb→lt}
use Rattle.linear_model.specs.Bits.{Bytes, zeros, bit, pack}
use Rattle.linear_model.specs.Trits.{trit, low, high, pack_trits, fit_trit, fit_trits, sum_trit, add_trits, difference_trit, subtract_trits, bit_trits}
use Rattle.linear_model.proofs.Tables.{every-at, every_of}
use Rattle.linear_model.proofs.Strings.{bit_lt, bit-pack, bit-zeros, pack_ext, pack_bits, length-pack, bytes_pack, bytes_slice, bytes_append, bit_append_left, bit_append_right}

module _ (m : ℕ) where
  -- ---- vectors that are packed

  pub trit-pack : (f : ℕ → ℕ) → ((j : ℕ) → f j < 4) → (j : ℕ) → j < 8 * m → trit m (pack_trits m f) j ≡ f j
  unfolding trit pack_trits
  trit-pack f h j l =
      ap₂ (λ (x y : ℕ). x + 2 * y)
      (bit_append_left m (pack m (low f)) (pack m (high f)) (length-pack m (low f)) j l ∙ bit-pack m (low f) (λ j. omega arith) j l)
      (bit_append_right m (pack m (low f)) (pack m (high f)) (length-pack m (low f)) j ∙ bit-pack m (high f) (λ j. omega (arith, h j)) j l)
      ∙ omega arith

  pub pack_trits_ext : (f g : ℕ → ℕ) → ((j : ℕ) → j < 8 * m → f j ≡ g j) → pack_trits m f ≡ pack_trits m g
  unfolding pack_trits
  pack_trits_ext f g h =
      ap₂ (λ (x y : List ℕ). x ++ y) (pack_ext m (low f) (low g) (λ j l. ap (λ (x : ℕ). x % 2) (h j l)))
      (pack_ext m (high f) (high g) (λ j l. ap (λ (x : ℕ). x / 2) (h j l)))

  pub length-pack_trits : (f : ℕ → ℕ) → length (pack_trits m f) ≡ 2 * m
  unfolding pack_trits
  length-pack_trits f = rw (length-append, length-pack m (low f), length-pack m (high f)) (omega arith)

  pub bytes_pack_trits : (f : ℕ → ℕ) → ((j : ℕ) → f j < 4) → Bytes (m + m) (pack_trits m f)
  unfolding pack_trits
  bytes_pack_trits f h = bytes_append (bytes_pack m (low f) (λ j. omega arith)) (bytes_pack m (high f) (λ j. omega (arith, h j)))

  planes : (a b : List ℕ) → Bytes m a → Bytes m b → pack_trits m (trit m (a ++ b)) ≡ a ++ b
  unfolding pack_trits trit
  planes a b ha hb =
      ap₂ (λ (x y : List ℕ). x ++ y)
      (pack_ext m (low (trit m (a ++ b))) (bit a) (λ j l. rw (bit_append_left m a b ha.size j l) (omega (arith, bit_lt a j))) ∙ pack_bits m a ha)
      (pack_ext m (high (trit m (a ++ b))) (bit b)
      (λ j l. rw (bit_append_right m a b ha.size j) (omega (arith, bit_lt (a ++ b) j))) ∙ pack_bits m b hb)

  -- a vector of two planes of bytes is the pack of its trits
  pub pack-trits : (v : List ℕ) → Bytes (m + m) v → pack_trits m (trit m v) ≡ v
  pack-trits v h =
      rw (← halves) (planes (take m v) (take m (drop m v)) (bytes_slice (m + m) 0 m v h (omega arith)) (bytes_slice (m + m) m m v h (omega arith)))
    where
      halves : take m v ++ take m (drop m v) ≡ v
      halves = ap (λ (x : List ℕ). take m v ++ x) (take_all m (drop m v) (rw length-drop (omega (arith, h.size)))) ∙ take-append-drop m v

  -- so it is determined by its trits
  pub vector_ext : (u v : List ℕ) → Bytes (m + m) u → Bytes (m + m) v → ((j : ℕ) → j < 8 * m → trit m u j ≡ trit m v j) → u ≡ v
  vector_ext u v hu hv e = sym (pack-trits u hu) ∙ pack_trits_ext (trit m u) (trit m v) e ∙ pack-trits v hv

  -- ---- fitness

  pub fit_pack : (t : ℕ) (f : ℕ → ℕ) → ((j : ℕ) → f j < 3) → t ≤ 8 * m → T (fit_trits m t (pack_trits m f))
  unfolding fit_trits
  fit_pack t f h r =
      every_of t (fit_trit m (pack_trits m f))
      (λ j l. rw (trit-pack f (λ k. omega (arith, h k)) j (omega arith)) (lt→ltb (f j) 3 (h j)))

  pub fit_trit_lem : (t : ℕ) (v : List ℕ) → T (fit_trits m t v) → (j : ℕ) → j < t → trit m v j < 3
  unfolding fit_trits
  fit_trit_lem t v e j l = ltb→lt (trit m v j) 3 (every-at t (fit_trit m v) e j l)

  -- ---- sums and differences

  pub trit_add : (a b : List ℕ) (j : ℕ) → j < 8 * m → trit m (add_trits m a b) j ≡ (trit m a j + trit m b j) % 3
  unfolding add_trits
  trit_add a b = trit-pack (sum_trit m a b) (λ j. omega arith)

  pub fit_add : (t : ℕ) (a b : List ℕ) → t ≤ 8 * m → T (fit_trits m t (add_trits m a b))
  unfolding add_trits
  fit_add t a b = fit_pack t (sum_trit m a b) (λ j. omega arith)

  pub trit_subtract : (w r : List ℕ) (j : ℕ) → j < 8 * m → trit m (subtract_trits m w r) j ≡ (bit w j + 2 * trit m r j) % 3
  unfolding subtract_trits
  trit_subtract w r = trit-pack (difference_trit m w r) (λ j. omega arith)

  pub bytes_subtract : (w r : List ℕ) → Bytes (m + m) (subtract_trits m w r)
  unfolding subtract_trits
  bytes_subtract w r = bytes_pack_trits (difference_trit m w r) (λ j. omega arith)

  pub fit_subtract : (t : ℕ) (w r : List ℕ) → t ≤ 8 * m → T (fit_trits m t (subtract_trits m w r))
  unfolding subtract_trits
  fit_subtract t w r = fit_pack t (difference_trit m w r) (λ j. omega arith)

  -- w − (w − r) is r
  pub subtract_twice : (w r : List ℕ) → Bytes (m + m) r → T (fit_trits m (8 * m) r) → subtract_trits m w (subtract_trits m w r) ≡ r
  unfolding subtract_trits
  subtract_twice w r h e =
      pack_trits_ext (difference_trit m w (subtract_trits m w r)) (trit m r)
      (λ j l. rw (trit_subtract w r j l) (omega (arith, fit_trit_lem (8 * m) r e j l)))
      ∙ pack-trits r h

  -- r and w − r add to w
  pub subtract_add : (w r : List ℕ) (j : ℕ) → j < 8 * m → (trit m r j + trit m (subtract_trits m w r) j) % 3 ≡ bit w j
  subtract_add w r j l = rw (trit_subtract w r j l, add-mod-mod) (triple (bit w j) (trit m r j) (bit_lt w j))
    where
      triple : (b x : ℕ) → b < 2 → (x + (b + 2 * x)) % 3 ≡ b
      triple b x h = ap {B = ℕ} (λ s. s % 3) {y = b + 3 * x} (omega arith) ∙ add-mul-mod_self_left b 3 x ∙ mod-eq_of_lt {n = b} {m = 3} (omega arith)

  pub trit_bits : (w : List ℕ) (j : ℕ) → j < 8 * m → trit m (bit_trits m w) j ≡ bit w j
  unfolding bit_trits
  trit_bits w = trit-pack (bit w) (λ j. omega (arith, bit_lt w j))

  -- ---- sums modulo 3 as a group: any order, zeros, and differences of sums

  pub add_trits_ext : (a b c d : List ℕ) → ((j : ℕ) → j < 8 * m → (trit m a j + trit m b j) % 3 ≡ (trit m c j + trit m d j) % 3)
      → add_trits m a b ≡ add_trits m c d
  unfolding add_trits
  add_trits_ext a b c d = pack_trits_ext (sum_trit m a b) (sum_trit m c d)

  -- a sum is a fit vector where its trits are
  pub add_trits_is : (a b c : List ℕ) → Bytes (m + m) c → ((j : ℕ) → j < 8 * m → (trit m a j + trit m b j) % 3 ≡ trit m c j) → add_trits m a b ≡ c
  unfolding add_trits
  add_trits_is a b c h e = pack_trits_ext (sum_trit m a b) (trit m c) e ∙ pack-trits c h

  pub add_trits_comm : (a b : List ℕ) → add_trits m a b ≡ add_trits m b a
  add_trits_comm a b = add_trits_ext a b b a (λ j l. ap {B = ℕ} (λ s. s % 3) (omega arith))

  pub add_trits_assoc : (a b c : List ℕ) → add_trits m (add_trits m a b) c ≡ add_trits m a (add_trits m b c)
  add_trits_assoc a b c =
      add_trits_ext (add_trits m a b) c a (add_trits m b c)
      (λ j l. rw (trit_add a b j l, trit_add b c j l, mod-add-mod, add-mod-mod) (ap {B = ℕ} (λ s. s % 3) (omega arith)))

  pub trit-zeros : (j : ℕ) → trit m (zeros (m + m)) j ≡ 0
  unfolding trit
  trit-zeros j = rw (bit-zeros (m + m) j, bit-zeros (m + m) (8 * m + j))

  pub add_trits-zeros : (a : List ℕ) → Bytes (m + m) a → T (fit_trits m (8 * m) a) → add_trits m a (zeros (m + m)) ≡ a
  add_trits-zeros a h f =
      add_trits_is a (zeros (m + m)) a h (λ j l. rw (trit-zeros j) (omega (arith, fit_trit_lem (8 * m) a f j l)))
