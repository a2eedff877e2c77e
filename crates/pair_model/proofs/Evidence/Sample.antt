-- Document 01's sample is a run, its code is the one stated, and it can be compared.
use Prim.Native.Nat.{ℕ, zero, suc, ◌+◌, ◌*◌, ◌%◌, ◌<◌}
use mathlib.Core.Path.{◌≡◌, refl, ap, ap₂, ◌∙◌}
use mathlib.Core.Logic.{◌≢◌}
use mathlib.Core.List.{List, [], ◌∷◌}
use mathlib.Core.Bool.{Bool, true, false, cond, false≢true}
use native.Mathlib.Omega.{arith}
use native.Mathlib.Nat.{le_refl}
use borrow.Author.Tests.{eq-eqb}
use lib.Dec.{T, ltb, eqb, ltb→lt, lit<, lit≤}
use lib.ListN.{get_or, drop}
use Rattle.linear_model.specs.Bits.{Bytes, zeros, from_bits, bit, pack}
use Rattle.linear_model.specs.Tables.{tabulate, every, below}
use Rattle.linear_model.specs.Trits.{trit, pack_trits, bit_trits, fit_trits}
use Rattle.linear_model.specs.Products.{trit_term, row_digit, matrix_product}
use Rattle.linear_model.proofs.Tables.{one_there, one_elsewhere}
use Rattle.linear_model.proofs.Strings.{bytes_zeros, bit_lt, add_zeros}
use Rattle.linear_model.proofs.Sums.{sum_one}
use Rattle.linear_model.proofs.Vectors.{pack_trits_ext, trit_bits}
use Rattle.matrix_model.specs.File.{matrix_b, check_number}
use Rattle.matrix_model.specs.Sample.{diagonal_rows, sample_file}
use Rattle.matrix_model.proofs.Sample.{trit_is, sample_survives}
use Rattle.numbers.specs.Number.{first}
use Rattle.pair_model.specs.Scheme.{Side, side0, side1, other, files, reading_number, field}
use Rattle.pair_model.specs.Tape.{r0, Accepted}
use Rattle.pair_model.specs.Unit.{least_output}
use Rattle.pair_model.specs.Evaluator.{code_of, code}
use Rattle.pair_model.specs.Base.{base}
use Rattle.pair_model.specs.Run.{WellFormed, run_of, protocol, sent_count, start, final, DeliveredAsSent, first_of}
use Rattle.pair_model.specs.Theorem.{SameForFixed, own_code, CorrectRun}
use Rattle.pair_model.specs.Sample.{sample_inputs, changed, sample_run, sample_entry, with_strays, SampleCompared}
use Rattle.pair_model.proofs.Theorem.Main.{set_linear}
use Rattle.pair_model.proofs.Theorem.Correct.{correct}
use Rattle.pair_model.proofs.Evidence.Strays.{with_strays_lem}
use Rattle.pair_model.proofs.Evidence.OtherShare.{first_list}
use Rattle.pair_model.proofs.Evidence.Examples.{keeps, bit0}

-- ---- well formed

-- a byte and 31 zeros
one_byte : (x : ℕ) → x < 256 → Bytes 32 (x ∷ zeros 31)
one_byte x h = record { size = refl; small = λ i. at i }
  where
    at : (i : ℕ) → get_or (x ∷ zeros 31) i 0 < 256
    at zero = h
    at (suc i) = (bytes_zeros 31).small i

well : WellFormed base sample_inputs
unfolding reading_number check_number first
well =
    record {
      key = λ i. elim i as (λ j. Bytes base.key_bytes (sample_inputs.key j)) [ side0 ↦ one_byte 1 (lit< tt) | side1 ↦ bytes_zeros 32 ];
      label = λ i. elim i as (λ j. Bytes base.key_bytes (sample_inputs.label j)) [ side0 ↦ one_byte 5 (lit< tt) | side1 ↦ bytes_zeros 32 ];
      shared = record { session = lit< tt; line = lit< tt };
      product = refl;
      rows = sample_survives.fit;
    }

changed_well : (i : Side) → WellFormed base (changed i)
changed_well side0 =
    record {
      key = λ i. elim i as (λ j. Bytes base.key_bytes ((changed side0).key j)) [ side0 ↦ one_byte 2 (lit< tt) | side1 ↦ bytes_zeros 32 ];
      label = λ i. elim i as (λ j. Bytes base.key_bytes ((changed side0).label j)) [ side0 ↦ one_byte 9 (lit< tt) | side1 ↦ bytes_zeros 32 ];
      shared = well.shared;
      product = well.product;
      rows = well.rows;
    }
changed_well side1 =
    record {
      key = λ i. elim i as (λ j. Bytes base.key_bytes ((changed side1).key j)) [ side0 ↦ one_byte 1 (lit< tt) | side1 ↦ one_byte 2 (lit< tt) ];
      label = λ i. elim i as (λ j. Bytes base.key_bytes ((changed side1).label j)) [ side0 ↦ one_byte 5 (lit< tt) | side1 ↦ one_byte 9 (lit< tt) ];
      shared = well.shared;
      product = well.product;
      rows = well.rows;
    }

accepted-zeros : Accepted base (zeros 256)
unfolding r0 field fit_trits every trit bit
accepted-zeros = record { bytes = bytes_zeros 256; fit = tt }

-- strings that differ in their first byte differ
apart : (x y : ℕ) (s t : List ℕ) → T (cond (eqb x y) false true) → (x ∷ s) ≢ (y ∷ t)
apart x y s t h e = go (eqb x y) (eq-eqb x y (ap (λ (v : List ℕ). get_or v 0 0) e)) h
  where
    go : (b : Bool) → b ≡ true → T (cond b false true) → ⊥
    go true q h = h
    go false q h = absurd (false≢true q)

differs : (i : Side) → ((changed i).key i ≢ sample_inputs.key i) × ((changed i).label i ≢ sample_inputs.label i)
differs side0 = (apart 2 1 _ _ tt, apart 9 5 _ _ tt)
differs side1 = (apart 2 0 _ _ tt, apart 9 0 _ _ tt)

same_for : (fixed : Side) → SameForFixed fixed sample_inputs (changed (other fixed))
same_for side0 = record { key = refl; label = refl; shared = refl; files = refl }
same_for side1 = record { key = refl; label = refl; shared = refl; files = refl }

-- ---- compared

three : (fixed i : Side) → sent_count (first_of fixed (with_strays base (files sample_file) fixed)) i ≡ 3
unfolding sent_count
three side0 side0 = refl
three side0 side1 = refl
three side1 side0 = refl
three side1 side1 = refl

-- what the theorem says of the sample
abbrev run_correct : CorrectRun (protocol base) sample_run
run_correct = correct base (set_linear 1) sample_inputs (zeros 256) well accepted-zeros

available : (i : Side) → DeliveredAsSent (protocol base) sample_run (start (protocol base) sample_run) (sample_entry i)
unfolding sent_count final
available i = run_correct.available [] tt (sample_entry i) (record { not_done = lit< tt; not_ahead = lit≤ tt; files = refl; output = le_refl (least_output base) })

not_ahead_lem : let P = protocol base in ¬ DeliveredAsSent P sample_run (final P sample_run (start P sample_run) (sample_entry side0 ∷ [])) (sample_entry side0)
unfolding sent_count
not_ahead_lem d = omega (arith, (run_correct.only_available (sample_entry side0 ∷ []) (available side0, tt) (sample_entry side0) d).not_ahead)

-- ---- the code

abbrev label : List ℕ
label = 5 ∷ zeros 31

abbrev v : List ℕ
v = bit_trits 32 label

-- row i picks trit i of a vector
digit : (i : ℕ) → i < 81 → row_digit 32 (diagonal_rows matrix_b) v i ≡ bit label i
digit i l =
    ap (λ (s : ℕ). s % 3)
    (sum_one 256 (trit_term 32 row v) i (omega arith) (λ j m n. ap (λ (t : ℕ). t * trit 32 v j) (trit_is i l j m ∙ one_elsewhere i j n) ∙ omega arith))
    ∙ ap (λ (t : ℕ). t * trit 32 v i % 3) (trit_is i l i (omega arith) ∙ one_there i)
    ∙ ap (λ (t : ℕ). 1 * t % 3) (trit_bits 32 label i (omega arith))
    ∙ omega (arith, bit_lt label i)
  where
    row : List ℕ
    row = drop (64 * i) (diagonal_rows matrix_b)

inner : base.product sample_file (1 ∷ zeros 31) label ≡ label
inner = keeps (1 ∷ zeros 31) 0 bit0 refl label (one_byte 5 (lit< tt))

packed : pack_trits 11 (below 81 (bit label)) ≡ 5 ∷ zeros 21
unfolding pack_trits pack tabulate from_bits bit
packed = refl

code_is : own_code (protocol base) sample_run ≡ 5 ∷ zeros 21
unfolding code code_of matrix_product
code_is =
    ap₂ (λ (k x : List ℕ). code base k x (files sample_file)) (add_zeros 32 (1 ∷ zeros 31) (one_byte 1 (lit< tt))) (add_zeros 32 label (one_byte 5 (lit< tt)))
    ∙ ap₂ (λ (rows w : List ℕ). matrix_product 11 32 81 rows (bit_trits 32 w)) sample_survives.same inner
    ∙ pack_trits_ext 11 (below 81 (row_digit 32 (diagonal_rows matrix_b) v)) (below 81 (bit label)) (λ j l. at j (ltb j 81) (ltb→lt j 81))
    ∙ packed
  where
    at : (j : ℕ) (b : Bool) → (T b → j < 81) → cond b (row_digit 32 (diagonal_rows matrix_b) v j) 0 ≡ cond b (bit label j) 0
    at j true h = digit j (h tt)
    at j false h = refl

pub sample_compared : SampleCompared
sample_compared =
    record {
      well_formed = well;
      accepted = accepted-zeros;
      changed_well_formed = changed_well;
      differs = differs;
      same_for_fixed = same_for;
      comparable = λ fixed tape. with_strays_lem base (set_linear 1) sample_inputs (zeros 256) well accepted-zeros fixed (run_of (changed (other fixed)) tape);
      done =
          λ fixed i.
          run_correct.stages (first_of fixed (with_strays base (files sample_file) fixed))
          (first_list (protocol base) fixed sample_run sample_run _ _ (with_strays base (files sample_file) fixed)
          (with_strays_lem base (set_linear 1) sample_inputs (zeros 256) well accepted-zeros fixed sample_run)) i
          ∙ ap (λ (k : ℕ). 1 + k) (three fixed i);
      available = available;
      not_ahead = not_ahead_lem;
      evaluates = run_correct.evaluates;
      code = code_is;
    }
