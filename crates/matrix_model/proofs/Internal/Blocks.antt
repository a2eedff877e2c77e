-- Laws of a block as the code tests it and writes it.
use mathlib.Core.Path.{◌≡◌, refl, sym, ap, ◌∙◌}
use mathlib.Core.List.{List, [], ◌∷◌, ◌++◌, append_assoc}
use Prim.Native.Nat.{ℕ, ◌+◌, ◌-◌, ◌*◌, ◌<◌, ◌≤◌}
use native.Mathlib.Omega.{arith}
use lib.Dec.{eqb}
use lib.ListN.{length, take, drop, length-append, get_or-append}
use Rattle.linear_model.specs.Tables.{every}
use Rattle.linear_model.specs.Bits.{zeros}
use Rattle.linear_model.proofs.Copies.{pasted, Copied, copied-first, copied_more, copied_all}
use Rattle.linear_model.proofs.Strings.{length-zeros}
use Rattle.linear_model.proofs.Tables.{every_ext}
use Rattle.matrix_model.specs.Block.{Layout, check, zero_byte, rows_in, rows_end, front_of, block_of}
use Rattle.matrix_model.specs.File.{Fits, block_count, file_size, rows_size, block}
use Rattle.matrix_model.proofs.Parts.{length_part, get_d_part}
use Rattle.matrix_model.proofs.Layouts.{before_check}
use Rattle.matrix_model.proofs.Blocks.{check_ext, length-check}
use Rattle.matrix_model.specs.Internal.Rows.{rows_for_block}
use Rattle.matrix_model.proofs.Internal.Rows.{long_set}
use Rattle.matrix_model.proofs.Internal.Copies.{copied_kept, zeros_part}

-- the unused bytes as a part of the block
pub unused_part : (block : List ℕ) (end : ℕ) → end ≤ 510 → 510 ≤ length block
    → every (length (take (510 - end) (drop end block))) (zero_byte (take (510 - end) (drop end block))) ≡ every (510 - end) (λ k. zero_byte block (end + k))
unused_part block end h l =
    let e : length (take (510 - end) (drop end block)) ≡ 510 - end = length_part (510 - end) end block (omega arith) in
    ap (λ (n : ℕ). every n (zero_byte (take (510 - end) (drop end block)))) e
    ∙ every_ext (510 - end) (zero_byte (take (510 - end) (drop end block))) (λ k. zero_byte block (end + k))
    (λ k q. ap (λ (x : ℕ). eqb x 0) (get_d_part (510 - end) end block k q))

-- the check of bytes that stand in front of others
check-front : (s t : List ℕ) → length s ≡ 510 → check (s ++ t) ≡ check s
check-front s t e = check_ext (s ++ t) s (λ i l. get_or-append s t 0 i (omega arith))

-- head, part and check, copied one after the other over zeros
block_put : (head part sums : List ℕ) {s t u : List ℕ} → s ≡ pasted 0 head (zeros 512) → t ≡ pasted 4 part s
    → u ≡ pasted 510 sums t → sums ≡ check t → length head ≡ 4 → length part ≤ 506
    → u ≡ (head ++ part ++ zeros (506 - length part)) ++ check (head ++ part ++ zeros (506 - length part))
block_put head part sums {s} {t} {u} e₁ e₂ e₃ e h l =
    let d = zeros 512 in
    let n : length d ≡ 512 = length-zeros 512 in
    let one : Copied head d s = copied-first head s (omega arith) e₁ in
    let two : Copied (head ++ part) d t = copied_more 4 head part s t one (sym h) (omega arith) e₂ in
    let m : length (head ++ part) ≡ 4 + length part = rw (length-append, h) in
    let front = head ++ part ++ zeros (506 - length part) in
    let f : (head ++ part) ++ take (506 - length part) (drop (length (head ++ part)) d) ≡ front =
    rw (zeros_part 512 (length (head ++ part)) (506 - length part) (omega arith), append_assoc) in
    let three : Copied front d t = rw f at (copied_kept two (506 - length part) (omega arith)) in
    let k : length front ≡ 510 = rw (length-append, length-append, h, length-zeros (506 - length part)) (omega arith) in
    let g : sums ≡ check front = e ∙ ap check three.is ∙ check-front front (drop (length front) d) k in
    let c : length (check front) ≡ 2 = length-check front in
    let w : u ≡ pasted 510 (check front) t = rw g at e₃ in
    copied_all (front ++ check front) u (copied_more 510 front (check front) t u three (sym k) (omega arith) w) (rw length-append (omega arith))

-- and that is block b of the file of the rows
pub block_made : (layout : Layout) → Fits layout → (rows : List ℕ) (b n : ℕ) → length rows ≡ rows_size layout → b < block_count layout → n ≡ rows_in layout b
    → (part sums : List ℕ) {s t u : List ℕ} → s ≡ pasted 0 (layout.letter ∷ b ∷ n ∷ layout.set ∷ []) (zeros 512) → part ≡ rows_for_block layout rows b
    → t ≡ pasted 4 part s → u ≡ pasted 510 sums t → sums ≡ check t → u ≡ block_of layout rows b
unfolding block_of front_of
block_made layout fits rows b n h l e part sums e₁ p e₂ e₃ f =
    let g : length part ≡ layout.row_bytes * rows_in layout b = long_set layout fits rows b h l part p in
    let room = before_check layout fits b in
    let i : 506 - length part ≡ 510 - rows_end layout b = omega arith in
    block_put (layout.letter ∷ b ∷ n ∷ layout.set ∷ []) part sums e₁ e₂ e₃ f refl (omega arith) ∙ rw (i, p, e)

-- a block of a file has 512 bytes
pub long_block : (layout : Layout) (file : List ℕ) (b : ℕ) (s : List ℕ) → s ≡ block file b → length file ≡ file_size layout → b < block_count layout → length s ≡ 512
long_block layout file b s e h l = rw e (length_part 512 (512 * b) file (omega arith))
