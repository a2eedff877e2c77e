-- Laws of rows of any size that are loaded one after the other: each carries itself alone, and their tie is that of the rows.
use mathlib.Core.Path.{◌≡◌, ap, ◌∙◌}
use mathlib.Core.List.{List}
use Prim.Native.Nat.{ℕ, ◌+◌, ◌-◌, ◌*◌, ◌/◌, ◌%◌}
use native.Mathlib.Nat.{zero-add}
use native.Mathlib.Omega.{arith}
use lib.ListN.{length}
use Rattle.elimination_model.specs.Independence.{trit_at}
use Rattle.elimination_model.specs.Tie.{tie_bytes}
use Rattle.elimination_model.specs.AnySize.{carrying_words, Room}
use Rattle.elimination_model.specs.Internal.Words.{digit_at, RowsWritten, LoadedWord, rows_after, Carrying}
use Rattle.elimination_model.proofs.Internal.Loading.{diagonal_same, loaded_carrying, loaded_tie}
use Rattle.elimination_model.proofs.Internal.Writing.{rows_map}

module _ (bytes t n : ℕ) (rows words words' : List ℕ) (x : Room bytes t (length rows) (length words) n)
    (y : RowsWritten (carrying_words bytes t) 0 (0 + t) (LoadedWord (bytes / 8) (rows_after 0 bytes rows)) words words') where
  loaded : RowsWritten (carrying_words bytes t) 0 t (LoadedWord (bytes / 8) (trit_at bytes rows)) words words'
  loaded =
      rows_map (carrying_words bytes t) 0 t _ _ words words' (rw zero-add at y)
      (λ i m u z _ _ _ h. (
        λ k l.
            let e : i - 0 ≡ i = omega arith in
            h.0 k l ∙ ap (λ (d : ℕ). d % 3) (diagonal_same (64 * (bytes / 8)) (rows_after 0 bytes rows) (trit_at bytes rows) i (64 * m + k) (λ _. ap (λ (r : ℕ). trit_at bytes rows r (64 * m + k)) e)),
        h.1,
      ))

  pub rows_carrying : Carrying (carrying_words bytes t) (bytes / 8) t words'
  rows_carrying = loaded_carrying (carrying_words bytes t) (bytes / 8) t (trit_at bytes rows) words words' loaded x.in_words (omega arith)

  pub rows_tie : tie_bytes (64 * (bytes / 8)) t (digit_at (carrying_words bytes t) words') ≡ tie_bytes (8 * bytes) t (trit_at bytes rows)
  rows_tie = loaded_tie (carrying_words bytes t) (bytes / 8) t (trit_at bytes rows) words words' loaded (8 * bytes) (omega arith) (omega (arith, x.whole))
