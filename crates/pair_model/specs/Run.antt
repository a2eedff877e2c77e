-- Runs: two units, the dealer's frames and a list of steps; and two runs over one list.
use Rattle.std.specs.Prelude.{ℕ, suc, ◌-◌, ◌≤◌, ◌≡◌, ◌≢◌, List, [], ◌∷◌, ◌++◌, cond, eqb, length, get_or, take}
use Rattle.linear_model.specs.Bits.{Bytes}
use Rattle.pair_model.specs.Scheme.{Files, reading_number, Scheme, Side, side0, side1, other}
use Rattle.pair_model.specs.Frame.{SharedParameters, parameters_of, FitsHeader, kind_of}
use Rattle.pair_model.specs.Unit.{State, Beginning, Stepped, begin, step, step_reading, least_output}
use Rattle.pair_model.specs.Dealer.{deal_frame}

-- a key half and a label half for each side, what both units are begun with alike, and the public files
pub record Inputs : Type 0 where
  pub key : Side → List ℕ
  pub label : Side → List ℕ
  pub shared : SharedParameters
  pub files : Files

-- what runs are made of: a scheme, the dealer's frame for each side, the beginning of each side's unit, and the step of the units
pub record Protocol : Type 0 where
  pub scheme : Scheme
  -- of what both units are begun with, the files and a tape
  pub deal : SharedParameters → Files → List ℕ → Side → List ℕ
  -- what the protocol's dealer and beginning must not see is within reach here, so that one that shows it can be named
  pub beginning : Inputs → Side → Beginning
  pub step : State → List ℕ → Files → ℕ → Stepped

-- the protocol of document 01 over a scheme: a unit is begun with its own halves alone
abbrev pub protocol : Scheme → Protocol
protocol S =
    record {
      scheme = S;
      deal = deal_frame S;
      beginning = λ a i. begin S (parameters_of i a.shared) (a.key i) (a.label i);
      step = step S;
    }

pub record WellFormed (S : Scheme) (a : Inputs) : Type 0 where
  pub key : (i : Side) → Bytes S.key_bytes (a.key i)
  pub label : (i : Side) → Bytes S.key_bytes (a.label i)
  pub shared : FitsHeader a.shared
  -- all that is read of its files is fit
  pub product : reading_number S.product_reading a.files ≡ 0
  pub rows : reading_number S.rows_reading a.files ≡ 0

pub record Run : Type 0 where
  pub inputs : Inputs
  pub tape : List ℕ

abbrev pub run_of : Inputs → List ℕ → Run
run_of a tape = record { inputs = a; tape = tape }

-- both units, and the frames that each has written
pub record Configuration : Type 0 where
  pub unit : Side → State
  pub sent : Side → List (List ℕ)

-- the frame of an entry: the one that the unit waits for, as sent, or any bytes
pub data Delivery : Type 0 where
  as_sent : Delivery
  stray : List ℕ → Delivery

-- an entry names a unit and what its step is lent
pub record Entry : Type 0 where
  pub side : Side
  pub delivery : Delivery
  pub files : Files
  pub output_length : ℕ

abbrev pub entry : Side → Delivery → Files → ℕ → Entry
entry i d lent output_length = record { side = i; delivery = d; files = lent; output_length = output_length }

-- side i's value replaced
abbrev pub update {ℓ} : {A : Type ℓ} → Side → A → (Side → A) → Side → A
update side0 a f side0 = a
update side0 a f side1 = f side1
update side1 a f side0 = f side0
update side1 a f side1 = a

-- how many entries as sent a list has for each side
abbrev pub count_if_sent : Delivery → Side → (Side → ℕ) → Side → ℕ
count_if_sent as_sent i counts = update i (suc (counts i)) counts
count_if_sent (stray f) i counts = counts

unfoldable pub sent_count : List Entry → Side → ℕ
sent_count [] i = 0
sent_count (e ∷ es) i = count_if_sent e.delivery e.side (sent_count es) i

module _ (P : Protocol) where
  -- the units as an accepted beginning returned them
  abbrev pub begun_unit : Inputs → Side → State
  begun_unit a i = (P.beginning a i).next

  abbrev pub start : Run → Configuration
  start run = record { unit = begun_unit run.inputs; sent = λ i. [] }

  -- what a unit waits for, in turn: the dealer's frame for it, the other unit's open frame, its mask frame, once written
  abbrev pub frames_for : Run → Configuration → Side → List (List ℕ)
  frames_for run c i =
      P.deal run.inputs.shared run.inputs.files run.tape i ∷ take 2 (c.sent (other i))

  -- the frame handed in; a unit at stage s waits for frame s − 1 of these
  abbrev pub frame_of : Run → Configuration → Side → Delivery → List ℕ
  frame_of run c i as_sent = get_or (frames_for run c i) ((c.unit i).stage - 1) []
  frame_of run c i (stray f) = f

  -- one entry played: the step gets the state that this unit's last step, or its beginning, gave back
  abbrev pub step_of : Run → Configuration → Entry → Stepped
  step_of run c e = P.step (c.unit e.side) (frame_of run c e.side e.delivery) e.files e.output_length

  unfoldable pub next : Run → Configuration → Entry → Configuration
  next run c e =
      let s = step_of run c e in
      let old = c.sent e.side in
      record {
        unit = update e.side s.next c.unit;
        sent = update e.side (cond (eqb s.result 0) (old ++ (s.written ∷ [])) old) c.sent;
      }

  -- the configuration after a list
  unfoldable pub final : Run → Configuration → List Entry → Configuration
  final run c [] = c
  final run c (e ∷ es) = final run (next run c e) es

  -- as sent: the frame was written earlier in this run, what the step reads of its files is the run's, the output slice is long enough
  pub record DeliveredAsSent (run : Run) (c : Configuration) (e : Entry) : Type 0 where
    pub waiting : 1 ≤ (c.unit e.side).stage
    pub written : (c.unit e.side).stage ≤ length (frames_for run c e.side)
    pub files : let read = step_reading P.scheme (kind_of (frame_of run c e.side as_sent)) in read.content e.files ≡ read.content run.inputs.files
    pub output : least_output P.scheme ≤ e.output_length

  -- stray: refused
  abbrev pub Valid : Run → Configuration → Entry → Delivery → Type 0
  Valid run c e as_sent = DeliveredAsSent run c e
  Valid run c e (stray f) = (step_of run c e).result ≢ 0

  -- a list of a run
  abbrev pub ListOf : Run → Configuration → List Entry → Type 0
  ListOf run c [] = Unit {0}
  ListOf run c (e ∷ es) = Valid run c e e.delivery × ListOf run (next run c e) es

-- ---- two runs over one list

-- what a stray step is lent
pub record Lent : Type 0 where
  pub frame : List ℕ
  pub files : Files
  pub output_length : ℕ

-- an entry that both runs share, or a stray one of the unit that is not fixed, each run's own
pub data SharedEntry : Type 0 where
  same : Entry → SharedEntry
  differ : Lent → Lent → SharedEntry

abbrev pub stray_of : Side → Lent → Entry
stray_of i l = entry i (stray l.frame) l.files l.output_length

-- a shared list, as the first and as the second run has it
abbrev pub first_of : Side → List SharedEntry → List Entry
first_of fixed [] = []
first_of fixed (same e ∷ cs) = e ∷ first_of fixed cs
first_of fixed (differ l₁ l₂ ∷ cs) = stray_of (other fixed) l₁ ∷ first_of fixed cs

abbrev pub second_of : Side → List SharedEntry → List Entry
second_of fixed [] = []
second_of fixed (same e ∷ cs) = e ∷ second_of fixed cs
second_of fixed (differ l₁ l₂ ∷ cs) = stray_of (other fixed) l₂ ∷ second_of fixed cs

module _ (P : Protocol) (fixed : Side) (run₁ run₂ : Run) where
  -- shared entries are the first run's; of two that differ each run refuses its own
  abbrev pub Comparable : Configuration → Configuration → List SharedEntry → Type 0
  Comparable c₁ c₂ [] = Unit {0}
  Comparable c₁ c₂ (same e ∷ cs) = Valid P run₁ c₁ e e.delivery × Comparable (next P run₁ c₁ e) (next P run₂ c₂ e) cs
  Comparable c₁ c₂ (differ l₁ l₂ ∷ cs) =
      ((step_of P run₁ c₁ (stray_of (other fixed) l₁)).result ≢ 0)
      × ((step_of P run₂ c₂ (stray_of (other fixed) l₂)).result ≢ 0)
      × Comparable (next P run₁ c₁ (stray_of (other fixed) l₁)) (next P run₂ c₂ (stray_of (other fixed) l₂)) cs

  -- a shared entry gets the same number in both runs, from either unit
  abbrev pub SameNumbers : Configuration → Configuration → List SharedEntry → Type 0
  SameNumbers c₁ c₂ [] = Unit {0}
  SameNumbers c₁ c₂ (same e ∷ cs) =
      ((step_of P run₁ c₁ e).result ≡ (step_of P run₂ c₂ e).result) × SameNumbers (next P run₁ c₁ e) (next P run₂ c₂ e) cs
  SameNumbers c₁ c₂ (differ l₁ l₂ ∷ cs) =
      SameNumbers (next P run₁ c₁ (stray_of (other fixed) l₁)) (next P run₂ c₂ (stray_of (other fixed) l₂)) cs
