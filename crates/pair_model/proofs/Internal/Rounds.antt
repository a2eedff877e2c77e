-- The six steps of the program's run are those of a run in order, the last two by the rows of the file, and end in the code.
use mathlib.Core.Path.{◌≡◌, refl, sym, ap, ◌∙◌}
use mathlib.Core.List.{List, [], ◌++◌, append-nil}
use Prim.Native.Nat.{ℕ, suc, ◌+◌, ◌<◌}
use native.Mathlib.Omega.{arith}
use borrow.Author.Tests.{eq-eqb}
use lib.Dec.{lit<, lit≤}
use lib.ListN.{length, get_or, take, drop, length-append}
use lib.Seq.{take_at, drop_at, take_all}
use Rattle.linear_model.specs.Bits.{Bytes, zeros}
use Rattle.linear_model.specs.Trits.{fit_trits}
use Rattle.linear_model.proofs.Strings.{bytes_slice, bytes_add, bytes_append}
use Rattle.numbers.specs.Number.{first, merge, output}
use Rattle.numbers.specs.Sets.{number_in}
use Rattle.matrix_model.specs.File.{check_number}
use Rattle.numbers.proofs.Numbers.{denied, is_true}
use Rattle.pair_model.specs.Scheme.{files, no_files, reading_number, concat, Side, side0, side1, other, side_byte}
use Rattle.pair_model.specs.Base.{base}
use Rattle.pair_model.specs.Tape.{Accepted, K̃, x̃, z, r0, deal}
use Rattle.pair_model.specs.Frame.{parameters, deal_kind, mask_kind, frame, body_of, header_bytes, frame_bytes}
use Rattle.pair_model.specs.Dealer.{deal_frame, dealt, dealt_bytes, deal_conditions, deal_number}
use Rattle.pair_model.specs.Unit.{State, Stepped, Beginning, begin, least_output, step_number, step, take_mask, advance}
use Rattle.pair_model.specs.Join.{joined}
use Rattle.pair_model.specs.Run.{Inputs, WellFormed}
use Rattle.pair_model.specs.Internal.Exchange.{padded, Sends, RunFits}
use Rattle.pair_model.specs.WholeRun.{program_shared, input_key, input_label, input_tape, input_file, run_code}
use Rattle.pair_model.proofs.Internal.Lengths.{length-frame}
use Rattle.pair_model.proofs.Internal.Deals.{frame_long}
use Rattle.pair_model.proofs.Theorem.Configurations.{begins_as}
use Rattle.pair_model.proofs.Theorem.MaskLaws.{open_key, open_label, mask, bytes_mask}
use Rattle.pair_model.proofs.Theorem.StepLaws.{step-accepted}
use Rattle.pair_model.proofs.Theorem.Stages.{parameters_at, open_body, incoming, outgoing, unit_at, accepts_deal, accepts_open, accepts_mask, accepts}
use Rattle.pair_model.proofs.Theorem.ShareLaws.{share_frame_of, joins_to_code}
use Rattle.pair_model.proofs.Theorem.Main.{set_linear}
use Rattle.pair_model.proofs.Internal.Runs.{key_0, key_1, label_0, label_1, tape_is}

-- the front of what is padded
pub padded-front : (n : ℕ) (w : List ℕ) → length w ≡ n → take n (padded w) ≡ w
padded-front n w e = take_at w (drop (length w) (zeros (least_output base))) n e

-- a frame as long as that slice is all of it
pub padded_whole : (w : List ℕ) → length w ≡ least_output base → padded w ≡ w
padded_whole w e = ap (λ (k : ℕ). w ++ drop k (zeros (least_output base))) e ∙ append-nil w

module _ (input : List ℕ) (n : ℕ) (f : RunFits input n) (small : (i : ℕ) → get_or input i 0 < 256) where
  bytes : Bytes 6528 input
  bytes = record { size = f.long; small = small }

  -- what the run is given
  abbrev given : Inputs
  given = record { key = input_key base input; label = input_label base input; shared = program_shared; files = files (input_file base input) }

  abbrev tape : List ℕ
  tape = input_tape base input

  well : WellFormed base given
  unfolding reading_number check_number number_in first
  well =
      record {
        key = λ i. elim i as (λ j. Bytes base.key_bytes (given.key j)) [ side0 ↦ rw (← key_0 input) (bytes_slice 6528 0 32 input bytes (lit≤ tt)) | side1 ↦ rw (← key_1 input) (bytes_slice 6528 32 32 input bytes (lit≤ tt)) ];
        label = λ i. elim i as (λ j. Bytes base.key_bytes (given.label j)) [ side0 ↦ rw (← label_0 input) (bytes_slice 6528 64 32 input bytes (lit≤ tt)) | side1 ↦ rw (← label_1 input) (bytes_slice 6528 96 32 input bytes (lit≤ tt)) ];
        shared = record { session = lit< tt; line = lit< tt };
        product = refl;
        rows = f.file;
      }

  accepted-tape : Accepted base tape
  accepted-tape =
      record { bytes = rw (← tape_is input) (bytes_slice 6528 128 256 input bytes (lit≤ tt)); fit = denied (fit_trits 32 256 (r0 base tape)) f.tape }

  abbrev unit : Side → ℕ → State
  unit i k = unit_at base given tape i k

  -- a step at the frame that is waited for
  takes : (i : Side) (k : ℕ) → k < 3 → (u : State) (g : List ℕ) → u ≡ unit i k → g ≡ incoming base given tape i k
      → step base u g (files (input_file base input)) (least_output base) ≡ record { result = 0; written = get_or (outgoing base given tape i) k []; next = unit i (suc k) }
  takes i k l u g eu eg =
      (λ j. step base (eu j) (eg j) (files (input_file base input)) (least_output base))
      ∙ accepts base (set_linear 1) given tape well accepted-tape i (files (input_file base input)) (least_output base) (lit≤ tt) k l refl

  -- what side i has sent after k + 1 steps
  pub record Sent (i : Side) (k : ℕ) (sent : List ℕ) (next : State) : Type 0 where
    pub sent_is : sent ≡ padded (get_or (outgoing base given tape i) k [])
    pub next_is : next ≡ unit i (suc k)

  pub sends : (i : Side) (k : ℕ) → k < 3 → {sent : List ℕ} {next : State} (u : State) (g : List ℕ) → u ≡ unit i k → g ≡ incoming base given tape i k
      → Sends (step base u g (files (input_file base input)) (least_output base)) sent next → Sent i k sent next
  sends i k l u g eu eg s =
      record {
        sent_is = s.frame_is ∙ ap (λ (t : Stepped). padded t.written) (takes i k l u g eu eg);
        next_is = s.next_is ∙ ap (λ (t : Stepped). t.next) (takes i k l u g eu eg);
      }

  -- the beginning
  pub begun_is : (i : Side) → (begin base (parameters (side_byte i) 1 0) (input_key base input i) (input_label base input i)).next ≡ unit i 0
  unfolding unit_at
  begun_is i = ap (λ (b : Beginning). b.next) (begins_as base given well i)

  -- the deal, which reads no file
  pub deal_is : (i : Side) → deal_frame base program_shared no_files tape i ≡ incoming base given tape i 0
  unfolding incoming deal_frame deal z
  deal_is side0 = refl
  deal_is side1 = refl

  -- it is accepted
  pub deal-accepted : (i : Side) → let u = (begin base (parameters (side_byte i) 1 0) (input_key base input i) (input_label base input i)).next in
      step_number base u.parameters u.stage (deal_frame base program_shared no_files tape i) (files (input_file base input)) (least_output base) ≡ 0
  unfolding unit_at
  deal-accepted i =
      (λ j. step_number base (begun_is i j).parameters (begun_is i j).stage (deal_is i j) (files (input_file base input)) (least_output base))
      ∙ accepts_deal base (set_linear 1) given tape well accepted-tape i (files (input_file base input)) (least_output base) (lit≤ tt)

  -- and so is the other's open frame
  pub open_accepted : (i : Side) (u : State) (g file : List ℕ) → u ≡ unit i 1 → g ≡ incoming base given tape i 1 → file ≡ input_file base input
      → step_number base u.parameters u.stage g (files file) (least_output base) ≡ 0
  unfolding unit_at
  open_accepted i u g file eu eg ef =
      (λ j. step_number base (eu j).parameters (eu j).stage (eg j) (files (ef j)) (least_output base))
      ∙ accepts_open base (set_linear 1) given tape well accepted-tape i (files (input_file base input)) (least_output base) (lit≤ tt) refl

  -- the frames that a unit takes are the other's
  open_length : (i : Side) → length (open_body base given tape i) ≡ 64
  unfolding concat
  open_length i =
      ap (λ (s : List ℕ). length (open_key base given tape i ++ s)) (append-nil (open_label base given tape i))
      ∙ (bytes_append (bytes_add 32 (input_key base input i) (K̃ base tape i)) (bytes_add 32 (input_label base input i) (x̃ base tape i))).size

  pub open_is : (i : Side) (sent : List ℕ) → sent ≡ padded (get_or (outgoing base given tape (other i)) 0 []) → sent ≡ incoming base given tape i 1
  unfolding outgoing incoming
  open_is i sent e =
      e
      ∙ padded_whole (frame 2 (parameters_at base given tape (other i)) (open_body base given tape (other i)))
      (length-frame 2 (parameters_at base given tape (other i)) (open_body base given tape (other i)) ∙ ap (λ (k : ℕ). header_bytes + k) (open_length (other i)))

  pub mask_is : (i : Side) (sent : List ℕ) → sent ≡ padded (get_or (outgoing base given tape (other i)) 1 []) → take (frame_bytes base mask_kind) sent ≡ incoming base given tape i 2
  unfolding outgoing incoming
  mask_is i sent e =
      ap (take (frame_bytes base mask_kind)) e
      ∙ padded-front (frame_bytes base mask_kind) (frame 3 (parameters_at base given tape (other i)) (mask base given tape (other i)))
      (length-frame 3 (parameters_at base given tape (other i)) (mask base given tape (other i)) ∙ ap (λ (k : ℕ). header_bytes + k) (bytes_mask base given tape (other i)).size)

  -- at the other's mask frame the step of a unit gets no number, so it takes the mask
  takes_mask : (i : Side)
      → take_mask base (unit i 2) (body_of (incoming base given tape i 2)) (files (input_file base input)) ≡ step base (unit i 2) (incoming base given tape i 2) (files (input_file base input)) (least_output base)
  unfolding unit_at advance
  takes_mask i =
      sym (step-accepted base (unit i 2) (incoming base given tape i 2) (files (input_file base input)) (least_output base)
      (accepts_mask base (set_linear 1) given tape well accepted-tape i (files (input_file base input)) (least_output base) (lit≤ tt) refl))

  -- and what it writes is made of the rows alone
  pub share_is : (i : Side) (u : State) (g file sent : List ℕ) → u ≡ unit i 2 → g ≡ incoming base given tape i 2 → file ≡ input_file base input
      → sent ≡ (take_mask base u (body_of g) (files file)).written → sent ≡ share_frame_of base given tape i
  unfolding outgoing
  share_is i u g file sent eu eg ef e =
      e
      ∙ (λ j. (take_mask base (eu j) (body_of (eg j)) (files (ef j))).written)
      ∙ ap (λ (t : Stepped). t.written) (takes_mask i ∙ takes i 2 (lit< tt) (unit i 2) (incoming base given tape i 2) refl refl)

  -- and their join is the code
  pub join_is : (a b : List ℕ) → a ≡ share_frame_of base given tape side0 → b ≡ share_frame_of base given tape side1 → joined base a b ≡ run_code base input
  unfolding run_code
  join_is a b ea eb = (λ j. joined base (ea j) (eb j)) ∙ joins_to_code base given tape (set_linear 1)

-- both frames of a deal, in a slice that has just their length
module _ (t : List ℕ) (h : Accepted base t) (r : ℕ) (o : List ℕ) (e : r ≡ deal_number base no_files t (dealt_bytes base)) (w : o ≡ output r (dealt base program_shared no_files t) (zeros (dealt_bytes base))) where
  number_0 : r ≡ 0
  unfolding first merge deal_conditions
  number_0 = e ∙ rw (eq-eqb (length t) 256 h.bytes.size, is_true (fit_trits 32 256 (r0 base t)) h.fit)

  deal_long : (i : Side) → length (deal_frame base program_shared no_files t i) ≡ frame_bytes base deal_kind
  deal_long = frame_long base no_files t h.bytes.size program_shared

  whole : o ≡ deal_frame base program_shared no_files t side0 ++ deal_frame base program_shared no_files t side1
  unfolding output dealt
  whole =
      let l : length (deal_frame base program_shared no_files t side0 ++ deal_frame base program_shared no_files t side1) ≡ dealt_bytes base =
      length-append (deal_frame base program_shared no_files t side0) (deal_frame base program_shared no_files t side1) ∙ (λ i. deal_long side0 i + deal_long side1 i) in
      w ∙ ap (λ (k : ℕ). output k (dealt base program_shared no_files t) (zeros (dealt_bytes base))) number_0
      ∙ ap (λ (k : ℕ). (deal_frame base program_shared no_files t side0 ++ deal_frame base program_shared no_files t side1) ++ drop k (zeros (dealt_bytes base))) l
      ∙ append-nil (deal_frame base program_shared no_files t side0 ++ deal_frame base program_shared no_files t side1)

  deal_0 : take (frame_bytes base deal_kind) o ≡ deal_frame base program_shared no_files t side0
  deal_0 = ap (take (frame_bytes base deal_kind)) whole ∙ take_at (deal_frame base program_shared no_files t side0) (deal_frame base program_shared no_files t side1) (frame_bytes base deal_kind) (deal_long side0)

  deal_1 : take (frame_bytes base deal_kind) (drop (frame_bytes base deal_kind) o) ≡ deal_frame base program_shared no_files t side1
  deal_1 =
      ap (λ (x : List ℕ). take (frame_bytes base deal_kind) (drop (frame_bytes base deal_kind) x)) whole
      ∙ ap (take (frame_bytes base deal_kind)) (drop_at (deal_frame base program_shared no_files t side0) (deal_frame base program_shared no_files t side1) (frame_bytes base deal_kind) (deal_long side0))
      ∙ take_all (frame_bytes base deal_kind) (deal_frame base program_shared no_files t side1) (omega (arith, deal_long side1))

-- and of the tape in the program's input
module _ (input : List ℕ) (n : ℕ) (f : RunFits input n) (small : (i : ℕ) → get_or input i 0 < 256) (r : ℕ) (o : List ℕ)
    (e : r ≡ deal_number base no_files (take 256 (drop 128 input)) (dealt_bytes base)) (w : o ≡ output r (dealt base program_shared no_files (take 256 (drop 128 input))) (zeros (dealt_bytes base))) where
  abbrev number_is : r ≡ deal_number base no_files (input_tape base input) (dealt_bytes base)
  number_is = e ∙ ap (λ (t : List ℕ). deal_number base no_files t (dealt_bytes base)) (tape_is input)

  abbrev output_is : o ≡ output r (dealt base program_shared no_files (input_tape base input)) (zeros (dealt_bytes base))
  output_is = w ∙ ap (λ (t : List ℕ). output r (dealt base program_shared no_files t) (zeros (dealt_bytes base))) (tape_is input)

  pub input_deal_0 : take (frame_bytes base deal_kind) o ≡ deal_frame base program_shared no_files (input_tape base input) side0
  input_deal_0 = deal_0 (input_tape base input) (accepted-tape input n f small) r o number_is output_is

  pub input_deal_1 : take (frame_bytes base deal_kind) (drop (frame_bytes base deal_kind) o) ≡ deal_frame base program_shared no_files (input_tape base input) side1
  input_deal_1 = deal_1 (input_tape base input) (accepted-tape input n f small) r o number_is output_is
