-- The program's one run: its input by fields, its number, and its six steps, which are those of a run in order.
use mathlib.Core.Path.{◌≡◌, refl, sym, ap, ◌∙◌}
use mathlib.Core.List.{List, [], ◌∷◌}
use mathlib.Core.Bool.{Bool, true, false, cond, ◌||◌}
use Prim.Native.Nat.{ℕ, zero, suc, ◌+◌, ◌<◌, ◌≤◌}
use native.Mathlib.Nat.{zero-add, suc-add}
use native.Mathlib.Omega.{arith}
use borrow.Author.Tests.{eq-eqb, ne_eqb, lt-ltb, le-ltb}
use lib.Dec.{eqb, lit<, lit≤}
use lib.ListN.{length, take, drop, length-drop}
use lib.Seq.{drop-drop, take-take, take-nil, length-take-le}
use Rattle.linear_model.specs.Trits.{fit_trits}
use Rattle.numbers.specs.Number.{first}
use Rattle.numbers.specs.Sets.{number_in}
use Rattle.matrix_model.specs.File.{rows_of, bad_check_of, bad_layout_of, bad_trit_of, tied_rows_of, faults_of, check_number, matrix_b}
use Rattle.numbers.proofs.Numbers.{NoneHolds, none_holds, is_equal, is_at_least, or_left, or_right}
use Rattle.pair_model.specs.Scheme.{side0, side1}
use Rattle.pair_model.specs.Base.{base}
use Rattle.pair_model.specs.Tape.{r0}
use Rattle.pair_model.specs.Internal.Exchange.{RunFits}
use Rattle.pair_model.specs.WholeRun.{input_layout, input_key, input_label, input_tape, input_file, run_conditions, run_number}
use Rattle.pair_model.proofs.Internal.Fields.{field_place, tape-r0}

-- ---- the input's fields

module _ (input : List ℕ) where
  pub key_0 : take 32 input ≡ input_key base input side0
  key_0 = field_place (input_layout base) 0 input (lit< tt)

  pub key_1 : take 32 (drop 32 input) ≡ input_key base input side1
  key_1 = field_place (input_layout base) 1 input (lit< tt)

  pub label_0 : take 32 (drop 64 input) ≡ input_label base input side0
  label_0 = field_place (input_layout base) 2 input (lit< tt)

  pub label_1 : take 32 (drop 96 input) ≡ input_label base input side1
  label_1 = field_place (input_layout base) 3 input (lit< tt)

  pub tape_is : take 256 (drop 128 input) ≡ input_tape base input
  tape_is = field_place (input_layout base) 4 input (lit< tt)

  pub file_is : take 6144 (drop 384 input) ≡ input_file base input
  file_is = field_place (input_layout base) 5 input (lit< tt)

-- ---- the number

-- the faults of its file
abbrev bad_check : List ℕ → Bool
bad_check file = bad_check_of matrix_b file

abbrev bad_layout : List ℕ → Bool
bad_layout file = bad_layout_of matrix_b file

abbrev bad_trit : List ℕ → Bool
bad_trit file = bad_trit_of matrix_b (rows_of matrix_b file)

abbrev tied_rows : List ℕ → Bool
tied_rows file = tied_rows_of matrix_b (rows_of matrix_b file)

-- a tape with an unfit trit: 10 comes after the file's 8 and 9 and before its 12
abbrev lowest : Bool → Bool → Bool → Bool → ℕ
lowest a b c d = cond a 8 (cond b 9 (cond c 10 (cond d 12 0)))

abbrev with_unfit : ℕ → ℕ
with_unfit n = cond (eqb n 8) 8 (cond (eqb n 9) 9 10)

unfit_tape_lem : (a b c d : Bool) (n : ℕ) → n ≡ lowest a b c d → with_unfit n ≡ lowest a b (c || true) d
unfit_tape_lem true b c d n e = ap with_unfit e
unfit_tape_lem false true c d n e = ap with_unfit e
unfit_tape_lem false false true d n e = ap with_unfit e
unfit_tape_lem false false false true n e = ap with_unfit e
unfit_tape_lem false false false false n e = ap with_unfit e

fit_tape : (a b c d : Bool) → lowest a b c d ≡ lowest a b (c || false) d
fit_tape true b c d = refl
fit_tape false true c d = refl
fit_tape false false true d = refl
fit_tape false false false d = refl

module _ (input : List ℕ) (n : ℕ) where
  pub run_length : (length input ≡ 6528 → ⊥) → 1 ≡ run_number input n
  unfolding first run_conditions
  run_length h = simp (ne_eqb (length input) 6528 h)

  pub run_room : length input ≡ 6528 → n < 22 → 1 ≡ run_number input n
  unfolding first run_conditions
  run_room l h = simp (eq-eqb (length input) 6528 l, lt-ltb n 22 h)

  module _ (l : length input ≡ 6528) (r : 22 ≤ n) (long : length (input_file base input) ≡ 6144) where
    pub run_fit : (m : ℕ) → m ≡ check_number 1 (input_file base input) → fit_trits 32 256 (r0 base (input_tape base input)) ≡ true → m ≡ run_number input n
    unfolding first run_conditions check_number number_in faults_of
    run_fit m e f =
        e ∙ rw (eq-eqb (length (input_file base input)) 6144 long, eq-eqb (length input) 6528 l, le-ltb n 22 r, f)
        (fit_tape (bad_check (input_file base input)) (bad_layout (input_file base input)) (bad_trit (input_file base input)) (tied_rows (input_file base input)))

    pub run_unfit : (m : ℕ) → m ≡ check_number 1 (input_file base input) → fit_trits 32 256 (r0 base (input_tape base input)) ≡ false
        → cond (eqb m 8) 8 (cond (eqb m 9) 9 10) ≡ run_number input n
    unfolding first run_conditions check_number number_in faults_of
    run_unfit m e f =
        unfit_tape_lem (bad_check (input_file base input)) (bad_layout (input_file base input)) (bad_trit (input_file base input)) (tied_rows (input_file base input)) m
        (e ∙ rw (eq-eqb (length (input_file base input)) 6144 long))
        ∙ rw (eq-eqb (length input) 6528 l, le-ltb n 22 r, f)

-- ---- r0 of the tape in the input

drop-take : (n m : ℕ) (l : List ℕ) → drop n (take (n + m) l) ≡ take m (drop n l)
drop-take zero m l = ap (λ (k : ℕ). take k l) (zero-add m)
drop-take (suc n) m [] = rw (suc-add, take-nil)
drop-take (suc n) m (x ∷ l) = rw suc-add (drop-take n m l)

pub r0_is : (input : List ℕ) → take 64 (drop 320 input) ≡ r0 base (input_tape base input)
r0_is input =
    ap (take 64) (sym (drop-drop 192 128 input)) ∙ sym (take-take 64 64 (drop 192 (drop 128 input)) (lit≤ tt))
    ∙ ap (take 64) (sym (drop-take 192 64 (drop 128 input)))
    ∙ ap (λ (t : List ℕ). take 64 (drop 192 t)) (tape_is input)
    ∙ tape-r0 base (input_tape base input)

-- ---- an input that is accepted

pub file_length : (input : List ℕ) → length input ≡ 6528 → length (input_file base input) ≡ 6144
file_length input h = ap length (sym (file_is input)) ∙ length-take-le 6144 (drop 384 input) (rw length-drop (omega arith))

none : (input : List ℕ) (n : ℕ) → run_number input n ≡ 0 → NoneHolds (run_conditions input n)
unfolding run_conditions
none input n = none_holds (run_conditions input n) (lit< tt, (lit< tt, (lit< tt, (lit< tt, (lit< tt, (lit< tt, tt))))))

pub run_fits : (input : List ℕ) (n : ℕ) → run_number input n ≡ 0 → RunFits input n
unfolding run_conditions check_number number_in faults_of first
run_fits input n e =
    let f = input_file base input in
    let t = none input n e in
    let trits = t.1.1.1.1.0 in
    let l = is_equal (length input) 6528 t.0 in
    record {
      long = l;
      room_is = is_at_least n 22 t.1.0;
      file = rw (eq-eqb (length f) 6144 (file_length input l), t.1.1.0, t.1.1.1.0, or_left (bad_trit f) _ trits, t.1.1.1.1.1.0);
      tape = or_right (bad_trit f) _ trits;
    }
