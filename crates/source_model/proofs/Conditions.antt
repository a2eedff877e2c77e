-- The number of a draw, by its conditions.
use mathlib.Core.Path.{◌≡◌, refl, ap}
use mathlib.Core.List.{List}
use mathlib.Core.Bool.{Bool, true, false, cond, not}
use Prim.Native.Nat.{ℕ, ◌+◌, ◌*◌, ◌^◌, ◌<◌, ◌≤◌}
use borrow.Author.Tests.{lt-ltb, le-ltb}
use lib.Dec.{ltb, lit<, ltb→lt}
use lib.ListN.{length}
use Rattle.numbers.specs.Number.{first}
use Rattle.numbers.proofs.Numbers.{at_least, is_at_least, denied, none_holds, first-zero}
use Rattle.source_model.specs.Draw.{drawn, source_conditions, source_number}

-- a choice between the same
either : (b : Bool) (n : ℕ) → cond b n n ≡ n
either true n = refl
either false n = refl

module _ (c w : ℕ) where
  -- what an accepted source has
  pub record Enough (source : List ℕ) (s : ℕ) : Type 0 where
    pub counted : length source < 2 ^ 62
    pub copies : s + 4 * c ≤ 4 * length source
    pub all : w ≤ length (drawn c w source s).trits

  pub enough : (source : List ℕ) (s : ℕ) → source_number c w source s ≡ 0 → Enough source s
  unfolding source_conditions
  enough source s e =
      let h = none_holds (source_conditions c w source s) (lit< tt, (lit< tt, (lit< tt, tt))) e in
      record {
        counted = ltb→lt (length source) (2 ^ 62) (denied (ltb (length source) (2 ^ 62)) h.0);
        copies = is_at_least (4 * length source) (s + 4 * c) h.1.0;
        all = is_at_least (length (drawn c w source s).trits) w h.1.1.0;
      }

  pub is_enough : (source : List ℕ) (s : ℕ) → Enough source s → source_number c w source s ≡ 0
  unfolding source_conditions
  is_enough source s h =
      first-zero (source_conditions c w source s)
      (ap not (lt-ltb (length source) (2 ^ 62) h.counted), (at_least (4 * length source) (s + 4 * c) h.copies, (at_least (length (drawn c w source s).trits) w h.all, tt)))

  -- each condition gives 13, whatever the others say
  module _ (source : List ℕ) (s : ℕ) where
    pub too_long : 2 ^ 62 ≤ length source → source_number c w source s ≡ 13
    unfolding first source_conditions
    too_long h = rw (le-ltb (length source) (2 ^ 62) h)

    pub too_short : 4 * length source < s + 4 * c → source_number c w source s ≡ 13
    unfolding first source_conditions
    too_short h = rw (lt-ltb (4 * length source) (s + 4 * c) h) (either (not (ltb (length source) (2 ^ 62))) 13)

    pub too_few : length (drawn c w source s).trits < w → source_number c w source s ≡ 13
    unfolding first source_conditions
    too_few h =
        rw (lt-ltb (length (drawn c w source s).trits) w h, either (ltb (4 * length source) (s + 4 * c)) 13) (either (not (ltb (length source) (2 ^ 62))) 13)
