-- The lengths of each set, and what calls answer to sets that are named, as one table over the definitions.
use Rattle.std.specs.Prelude.{ℕ, ◌*◌, ◌≡◌, List, [], ◌∷◌}
use Rattle.linear_model.specs.Bits.{zeros}
use Rattle.matrix_model.specs.Block.{head}
use Rattle.matrix_model.specs.File.{block_count, file_size, rows_size, file_bytes, layout_of, check_number}
use Rattle.pair_model.specs.Base.{scheme_of}
use Rattle.pair_model.specs.Tape.{tape_bytes}
use Rattle.pair_model.specs.Frame.{parameters, deal_kind, open_kind, mask_kind, share_kind, code_bytes, frame_bytes}
use Rattle.pair_model.specs.Sampler.{copied_bytes, wanted_trits}
use Rattle.pair_model.specs.Dealer.{dealt_bytes}
use Rattle.pair_model.specs.Unit.{least_output, unit_begin}
use Rattle.pair_model.specs.StateSlice.{state_bytes}

-- a key, a row, a code; a tape, and of it what is copied
abbrev pub strings : ℕ → List ℕ
strings set = let S = scheme_of set in S.key_bytes ∷ 2 * S.inner_bytes ∷ code_bytes S ∷ tape_bytes S ∷ copied_bytes S ∷ []

-- rows, file, blocks
abbrev pub matrix : ℕ → List ℕ
matrix set = rows_size (layout_of set) ∷ file_size (layout_of set) ∷ block_count (layout_of set) ∷ []

-- deal, open, mask, share; both deals, the least output
abbrev pub frames : ℕ → List ℕ
frames set =
    let S = scheme_of set in
    frame_bytes S deal_kind ∷ frame_bytes S open_kind ∷ frame_bytes S mask_kind ∷ frame_bytes S share_kind ∷ dealt_bytes S ∷ least_output S ∷ []

-- 13: pairs copied, trits wanted
abbrev pub pairs : ℕ → List ℕ
pairs set = 4 * copied_bytes (scheme_of set) ∷ wanted_trits (scheme_of set) ∷ []

pub record SetExamples : Type 0 where
  pub strings1 : strings 1 ≡ 32 ∷ 64 ∷ 22 ∷ 256 ∷ 192 ∷ []
  pub strings2 : strings 2 ≡ 8 ∷ 16 ∷ 6 ∷ 64 ∷ 48 ∷ []
  pub strings3 : strings 3 ≡ 64 ∷ 128 ∷ 42 ∷ 512 ∷ 384 ∷ []
  pub matrix1 : matrix 1 ≡ 5184 ∷ 6144 ∷ 12 ∷ []
  pub matrix2 : matrix 2 ≡ 336 ∷ 512 ∷ 1 ∷ []
  pub matrix3 : matrix 3 ≡ 20736 ∷ 27648 ∷ 54 ∷ []
  pub frames1 : frames 1 ≡ 167 ∷ 71 ∷ 39 ∷ 29 ∷ 334 ∷ 71 ∷ []
  pub frames2 : frames 2 ≡ 47 ∷ 23 ∷ 15 ∷ 13 ∷ 94 ∷ 23 ∷ []
  pub frames3 : frames 3 ≡ 327 ∷ 135 ∷ 71 ∷ 49 ∷ 654 ∷ 135 ∷ []
  pub pairs1 : pairs 1 ≡ 768 ∷ 256 ∷ []
  pub pairs2 : pairs 2 ≡ 192 ∷ 64 ∷ []
  pub pairs3 : pairs 3 ≡ 1536 ∷ 512 ∷ []
  -- the heads of set 2's one block and of set 3's first and last
  pub heads : (head (layout_of 2) 0 ≡ 0x42 ∷ 0 ∷ 0x15 ∷ 2 ∷ []) × (head (layout_of 3) 0 ≡ 0x42 ∷ 0 ∷ 3 ∷ 3 ∷ []) × (head (layout_of 3) 53 ≡ 0x42 ∷ 0x35 ∷ 3 ∷ 3 ∷ [])
  pub state : state_bytes ≡ 520
  -- a file of set 1's length, named as sets 0, 2, 3 and 4
  pub named : (check_number 0 (zeros file_bytes) ≡ 14) × (check_number 2 (zeros file_bytes) ≡ 1) × (check_number 3 (zeros file_bytes) ≡ 1) × (check_number 4 (zeros file_bytes) ≡ 14)
  -- a beginning with side 7 and empty halves: 14 in set 4, and 1 in set 1
  pub begins : ((unit_begin 4 (parameters 7 0 0) [] []).result ≡ 14) × ((unit_begin 1 (parameters 7 0 0) [] []).result ≡ 1)
