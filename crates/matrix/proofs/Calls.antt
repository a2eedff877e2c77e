-- Calls by the set that is named: its layout, the number, the output slice, and what holds of both where reader or writer accept.
use mathlib.Core.Path.{◌≡◌, refl, sym, subst, ◌∙◌}
use mathlib.Core.List.{List}
use mathlib.Core.Bool.{true, false}
use Prim.Native.Nat.{ℕ}
use native.Mathlib.Omega.{arith}
use Rattle.numbers.specs.Number.{Condition, first, output}
use Rattle.numbers.specs.Sets.{is_set, number_in}
use Rattle.numbers.proofs.Sets.{each, number-none, number_of}
use Rattle.matrix_model.specs.Block.{Layout}
use Rattle.matrix_model.specs.File.{layout_of}
use Rattle.matrix_model.specs.Internal.Rows.{Eliminable, CarryingRoom}
use Rattle.matrix_model.proofs.Internal.TiedRows.{first_eliminable, second_eliminable, third_eliminable, first_carrying, second_carrying, third_carrying}

-- the layout l of a set
module _ (set : ℕ) {l : Layout} (s : is_set set ≡ true) (e : l ≡ layout_of set) where
  pub set_eliminable : Eliminable l
  set_eliminable =
      subst Eliminable (sym e) (each (λ set. Eliminable (layout_of set)) first_eliminable second_eliminable third_eliminable set s)

  pub set_carrying : CarryingRoom l
  set_carrying =
      subst CarryingRoom (sym e) (each (λ set. CarryingRoom (layout_of set)) first_carrying second_carrying third_carrying set s)

  -- the number, by the conditions with a layout
  module _ (cs : Layout → List Condition) where
    pub number_of-set : {r : ℕ} → r ≡ first (cs l) → r ≡ number_in set (cs (layout_of set))
    number_of-set = number_of set s e cs

    -- with the bytes that are written, and what holds of those
    pub called_of_set : (bytes : Layout → List ℕ) (holds : Layout → List ℕ → Type 0) (old : List ℕ) {r : ℕ} {new : List ℕ}
        → record { result : r ≡ first (cs l); output : new ≡ output (first (cs l)) (bytes l) old; round_trip : r ≡ 0 → holds l new }
        → record {
          result : r ≡ number_in set (cs (layout_of set));
          output : new ≡ output (number_in set (cs (layout_of set))) (bytes (layout_of set)) old;
          round_trip : r ≡ 0 → holds (layout_of set) new;
        }
    called_of_set bytes holds old {r} {new} h =
        let number = number_of set s e cs refl in
        record {
          result = h.result ∙ number;
          output = h.output ∙ (λ j. output (number j) (bytes (e j)) old);
          round_trip = λ z. subst (λ (l : Layout). holds l new) e (h.round_trip z);
        }

-- where there is no such set
module _ (set : ℕ) (n : is_set set ≡ false) (cs : Layout → List Condition) where
  pub number_of-none : 14 ≡ number_in set (cs (layout_of set))
  number_of-none = sym (number-none set (cs (layout_of set)) n)

  pub called_of_none : (bytes : List ℕ) (P : Type 0) (old : List ℕ)
      → record { result : 14 ≡ number_in set (cs (layout_of set)); output : old ≡ output (number_in set (cs (layout_of set))) bytes old; round_trip : ◌≡◌ {A = ℕ} 14 0 → P }
  unfolding output
  called_of_none bytes P old =
      record { result = number_of-none; output = rw (number-none set (cs (layout_of set)) n); round_trip = λ z. absurd (omega arith) }
