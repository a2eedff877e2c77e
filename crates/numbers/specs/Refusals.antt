-- The table: the number of each refusal, and of an answer, 0 where there is none.
use Rattle.std.specs.Prelude.{ℕ, Result, Ok, Err}
use Rattle.numbers.specs.declared.refusal.Refusal.{Refusal}
use Rattle.numbers.specs.declared.refusal.Refusal.TheVariants.{WrongLength, NoSide, NoKind, FrameLength, OtherSession, OtherSide, NotWaitedFor, BlockCheck, BlockLayout, UnfitTrit, UnusedBit, TiedRows, ShortSource, NoSet, OtherLine, NotTied}

-- the number of a refusal
abbrev pub number_of : Refusal → ℕ
number_of WrongLength = 1
number_of NoSide = 2
number_of NoKind = 3
number_of FrameLength = 4
number_of OtherSession = 5
number_of OtherSide = 6
number_of NotWaitedFor = 7
number_of BlockCheck = 8
number_of BlockLayout = 9
number_of UnfitTrit = 10
number_of UnusedBit = 11
number_of TiedRows = 12
number_of ShortSource = 13
number_of NoSet = 14
number_of OtherLine = 15
number_of NotTied = 16

-- the number of an answer: its refusal's, and 0 of a call that is done
abbrev pub answer_number : {A : Type 0} → Result A Refusal → ℕ
answer_number (Ok _) = 0
answer_number (Err refusal) = number_of refusal
