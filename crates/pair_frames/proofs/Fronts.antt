-- The front of a room: what is read there, and what a call that was lent it left.
use mathlib.Core.Path.{◌≡◌, refl, sym, ap, ◌∙◌}
use mathlib.Core.List.{List, ◌∷◌, ◌++◌, append-nil}
use Prim.Native.Nat.{ℕ, zero, suc, ◌+◌, ◌-◌, ◌*◌, ◌/◌, ◌≤◌}
use native.Mathlib.Nat.{le_of_suc-le-suc}
use native.Mathlib.Omega.{arith}
use lib.ListN.{length, take, drop, length-append, drop_of_length-le, replicate-append-replicate}
use lib.Seq.{take_at, length-take-le}
use Rattle.linear_model.specs.Bits.{zeros}
use Rattle.linear_model.specs.Trits.{inner_share}
use Rattle.linear_model.proofs.Strings.{length-zeros}
use Rattle.numbers.specs.Number.{at_front}
use Rattle.pair_model.specs.StateSlice.{in_room}

-- the front of a room of zeros
pub zeros-front : (n room : ℕ) → n ≤ room → take n (zeros room) ≡ zeros n
zeros-front zero room h = refl
zeros-front (suc n) zero h = absurd (omega arith)
zeros-front (suc n) (suc room) h = ap (λ (s : List ℕ). 0 ∷ s) (zeros-front n room (le_of_suc-le-suc h))

-- what is behind it
pub zeros_behind : (n room : ℕ) → drop n (zeros room) ≡ zeros (room - n)
zeros_behind zero room = let e : room ≡ room - 0 = omega arith in ap zeros e
zeros_behind (suc n) zero = let e : 0 ≡ 0 - suc n = omega arith in ap zeros e
zeros_behind (suc n) (suc room) = let e : room - n ≡ suc room - suc n = omega arith in zeros_behind n room ∙ ap zeros e

-- and zeros in that room
pub zeros_room : (n room : ℕ) → n ≤ room → zeros room ≡ in_room room (zeros n)
zeros_room n room h =
    let e : n + (room - length (zeros n)) ≡ room = omega (arith, length-zeros n) in
    sym (replicate-append-replicate {A = ℕ} n (room - length (zeros n)) 0 ∙ ap zeros e)

-- the front of a room that was lent, and came back as s
module _ (n : ℕ) (room s : List ℕ) (h : n ≤ length room) (kept : length s ≡ length (take n room)) where
  front_long : length s ≡ n
  front_long = kept ∙ length-take-le n room h

  pub lent_fits : n ≤ length (s ++ drop n room)
  lent_fits = rw length-append (omega (arith, front_long))

  pub lent_front : take n (s ++ drop n room) ≡ s
  lent_front = take_at s (drop n room) n front_long

  pub lent_long : length (take n (s ++ drop n room)) ≡ n
  lent_long = ap length lent_front ∙ front_long

-- the front of an array of a room's length
pub prefix : {n room : ℕ} (s : List ℕ) → length s ≡ room → n ≤ room → n ≤ length s
prefix s e h = omega arith

pub prefix_long : (n : ℕ) {room : ℕ} (s : List ℕ) → length s ≡ room → n ≤ room → n ≡ length (take n s)
prefix_long n s e h = sym (length-take-le n s (omega arith))

-- what fills the part that it was lent
pub filled : {n : ℕ} (d s x : List ℕ) → length d ≡ n → length x ≡ n → s ≡ at_front x d → s ≡ x
filled d s x l k e = e ∙ ap (λ (t : List ℕ). x ++ t) (drop_of_length-le d {i = length x} (omega arith)) ∙ append-nil x

-- both planes of an inner share, in the front of a room
pub lent_share : (m room side : ℕ) (w r s : List ℕ) → 2 * m ≤ room
    → s ≡ inner_share (length (take (2 * m) (zeros room)) / 2) side w r ++ drop (2 * (length (take (2 * m) (zeros room)) / 2)) (take (2 * m) (zeros room))
    → s ≡ inner_share m side w r
lent_share m room side w r s h p =
    let d = take (2 * m) (zeros room) in
    let l : length d ≡ 2 * m = length-take-le (2 * m) (zeros room) (omega (arith, length-zeros room)) in
    let half : length d / 2 ≡ m = omega arith in
    p ∙ (λ i. inner_share (half i) side w r ++ drop (2 * half i) d)
    ∙ ap (λ (t : List ℕ). inner_share m side w r ++ t) (drop_of_length-le d {i = 2 * m} (omega arith)) ∙ append-nil (inner_share m side w r)
