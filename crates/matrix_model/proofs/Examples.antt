-- Examples 11 and 12 of the paper, over the definitions, and the sizes that it states.
use mathlib.Core.Path.{◌≡◌, refl, sym, ap, ap₂, ◌∙◌}
use mathlib.Core.List.{List, [], ◌∷◌}
use mathlib.Core.Bool.{Bool, true, false, not, false≢true}
use Prim.Native.Nat.{ℕ, zero, suc, ◌+◌, ◌*◌, ◌%◌, ◌<◌}
use native.Mathlib.Omega.{arith}
use Rattle.linear_model.specs.Tables.{every}
use Rattle.linear_model.specs.Bits.{zeros}
use Rattle.linear_model.proofs.Strings.{get_d_zeros, length-zeros}
use Rattle.numbers.specs.Number.{first}
use lib.Dec.{lit<}
use lib.Seq.{take_all}
use Rattle.numbers.specs.Sets.{number_in}
use Rattle.matrix_model.specs.Block.{rows_in, laid_out, first_sum, second_sum, check, check_holds}
use Rattle.matrix_model.specs.File.{block_count, row_place, block, checked_block, laid_out_block, bad_check_of, bad_layout_of, faults_of, layout_of, check_number, matrix_b, file_bytes}
use Rattle.matrix_model.proofs.Tests.{every_true, every_holds}
use Rattle.matrix_model.proofs.Parts.{same_part}

-- 12 blocks, one, and 54
pub blocks : (block_count (layout_of 1) ≡ 12) × (block_count (layout_of 2) ≡ 1) × (block_count (layout_of 3) ≡ 54)
blocks = (refl, refl, refl)

-- the last block has only what remains: four rows, all 21, and three
pub last_rows : (rows_in (layout_of 1) 11 ≡ 4) × (rows_in (layout_of 2) 0 ≡ 21) × (rows_in (layout_of 3) 53 ≡ 3)
last_rows = (refl, refl, refl)

-- row 0 starts at byte 4 of block 0, row 80 at that of the fourth row of block 11
pub places : (row_place matrix_b 0 ≡ 4) × (row_place matrix_b 7 ≡ 516) × (row_place matrix_b 80 ≡ 5828)
places = (refl, refl, refl)

-- ---- 11: first byte 1, then 509 zeros: check 1, 0

one : List ℕ
one = 1 ∷ zeros 509

first_one : (i : ℕ) → first_sum one (suc i) ≡ 1
unfolding first_sum one
first_one zero = refl
first_one (suc i) = rw (first_one i, get_d_zeros 509 i)

second-one : (i : ℕ) → second_sum one i ≡ i % 255
unfolding second_sum
second-one zero = refl
second-one (suc i) = rw (second-one i, first_one i) (omega arith)

pub example_11 : check (1 ∷ zeros 509) ≡ 1 ∷ 0 ∷ []
unfolding check one
example_11 = ap₂ (λ (x y : ℕ). x ∷ y ∷ []) (first_one 509) (second-one 510)

-- ---- 12: a block of zeros: its check holds; a file of such blocks gets 9

first-zeros : (n i : ℕ) → first_sum (zeros n) i ≡ 0
unfolding first_sum
first-zeros n zero = refl
first-zeros n (suc i) = rw (first-zeros n i, get_d_zeros n i)

second-zeros : (n i : ℕ) → second_sum (zeros n) i ≡ 0
unfolding second_sum
second-zeros n zero = refl
second-zeros n (suc i) = rw (second-zeros n i, first-zeros n (suc i))

zeros_checked : check_holds (zeros 512) ≡ true
unfolding check_holds check
zeros_checked = rw (first-zeros 512 510, second-zeros 512 510)

-- each block of a file of zeros is one
zero-block : (b : ℕ) → b < 12 → block (zeros 6144) b ≡ zeros 512
zero-block b l =
    same_part 512 (512 * b) 0 (zeros 6144) (zeros 512) (omega (arith, length-zeros 6144)) (omega (arith, length-zeros 512))
    (λ k q. get_d_zeros 6144 (512 * b + k) ∙ sym (get_d_zeros 512 (0 + k)))
    ∙ take_all 512 (zeros 512) (omega (arith, length-zeros 512))

file_checked : bad_check_of matrix_b (zeros 6144) ≡ false
unfolding bad_check_of
file_checked = ap not (every_true 12 (checked_block (zeros 6144)) (λ b l. ap check_holds (zero-block b l) ∙ zeros_checked))

zeros-laid_out : laid_out matrix_b 0 (zeros 512) ≡ false
unfolding laid_out every
zeros-laid_out = refl

file_laid_out : bad_layout_of matrix_b (zeros 6144) ≡ true
unfolding bad_layout_of
file_laid_out = ap not (go (every 12 (laid_out_block matrix_b (zeros 6144))) refl)
  where
    go : (b : Bool) → every 12 (laid_out_block matrix_b (zeros 6144)) ≡ b → b ≡ false
    go false e = refl
    go true e =
        absurd (false≢true (sym zeros-laid_out ∙ sym (ap (laid_out matrix_b 0) (zero-block 0 (lit< tt)))
        ∙ every_holds 12 (laid_out_block matrix_b (zeros 6144)) e 0 (lit< tt)))

pub example_12 : (check_holds (zeros 512) ≡ true) × (check_number 1 (zeros file_bytes) ≡ 9)
unfolding check_number number_in faults_of first
example_12 = (zeros_checked, rw (file_checked, file_laid_out))
