-- A beginning by its number.
use mathlib.Core.Path.{◌≡◌, refl, ap}
use mathlib.Core.List.{List, []}
use mathlib.Core.Bool.{Bool, true, false, cond, not}
use mathlib.Core.Logic.{◌≢◌}
use Prim.Native.Nat.{ℕ, ◌≤◌}
use borrow.Author.Tests.{eq-eqb, ne_eqb}
use lib.Dec.{ltb, eqb, lit<}
use lib.ListN.{length}
use Rattle.pair_model.specs.Scheme.{Scheme}
use Rattle.pair_model.specs.Frame.{Parameters}
use Rattle.numbers.specs.Sets.{is_set}
use Rattle.numbers.proofs.Sets.{number_in_lem, number-none}
use Rattle.pair_model.specs.Base.{scheme_of}
use Rattle.pair_model.specs.Unit.{State, begin_conditions, begin_number, begin, begun, idle, unit_begin}
use Rattle.numbers.proofs.Numbers.{first-none, is_equal, is_at_least}

module _ (S : Scheme) (t : Parameters) (key label : List ℕ) where
  -- what is accepted has halves of the stated length and a side of 0 or 1
  pub record Fits : Type 0 where
    pub key-length : length key ≡ S.key_bytes
    pub label-length : length label ≡ S.key_bytes
    pub side_small : t.side ≤ 1

  pub begin_fits : begin_number S t key label ≡ 0 → Fits
  unfolding begin_conditions
  begin_fits e =
      let k = first-none 1 (not (eqb (length key) S.key_bytes)) _ (lit< tt) e in
      let l = first-none 1 (not (eqb (length label) S.key_bytes)) _ (lit< tt) k.1 in
      let s = first-none 2 (ltb 1 t.side) [] (lit< tt) l.1 in
      record {
        key-length = is_equal (length key) S.key_bytes k.0;
        label-length = is_equal (length label) S.key_bytes l.0;
        side_small = is_at_least 1 t.side s.0;
      }

  pub begin-accepted : begin_number S t key label ≡ 0 → (begin S t key label).next ≡ begun S t key label
  unfolding begin
  begin-accepted e = ap {B = State} (λ (b : Bool). cond b (begun S t key label) idle) (eq-eqb _ _ e)

  pub begin-refused : begin_number S t key label ≢ 0 → (begin S t key label).next ≡ idle
  unfolding begin
  begin-refused h = ap {B = State} (λ (b : Bool). cond b (begun S t key label) idle) (ne_eqb _ _ h)

  pub begin_result : (begin S t key label).result ≡ begin_number S t key label
  unfolding begin
  begin_result = refl

-- of a set that there is, the beginning is its scheme's
pub begin_in : (set : ℕ) → is_set set ≡ true → (t : Parameters) (key label : List ℕ) → unit_begin set t key label ≡ begin (scheme_of set) t key label
unfolding unit_begin begin
begin_in set e t key label =
    ap (λ (n : ℕ). record { result = n; next = cond (eqb n 0) (begun (scheme_of set) t key label) idle }) (number_in_lem set (begin_conditions (scheme_of set) t key label) e)

-- and of none it is refused with 14
pub begin-none : (set : ℕ) → is_set set ≡ false → (t : Parameters) (key label : List ℕ) → unit_begin set t key label ≡ record { result = 14; next = idle }
unfolding unit_begin
begin-none set e t key label =
    ap (λ (n : ℕ). record { result = n; next = cond (eqb n 0) (begun (scheme_of set) t key label) idle }) (number-none set (begin_conditions (scheme_of set) t key label) e)

-- by its number
pub unit-begun : (set : ℕ) (t : Parameters) (key label : List ℕ) → (unit_begin set t key label).result ≡ 0 → (unit_begin set t key label).next ≡ begun (scheme_of set) t key label
unfolding unit_begin
unit-begun set t key label e = ap {B = State} (λ (b : Bool). cond b (begun (scheme_of set) t key label) idle) (eq-eqb _ _ e)

pub unit-refused : (set : ℕ) (t : Parameters) (key label : List ℕ) → (unit_begin set t key label).result ≢ 0 → (unit_begin set t key label).next ≡ idle
unfolding unit_begin
unit-refused set t key label h = ap {B = State} (λ (b : Bool). cond b (begun (scheme_of set) t key label) idle) (ne_eqb _ _ h)
