-- Refusals and their numbers: what `?` passes on, and that a call is done exactly if its number is 0.
use mathlib.Core.Path.{◌≡◌, ap, ◌∙◌}
use Prim.Native.Nat.{ℕ, ◌<◌}
use native.Mathlib.Omega.{arith}
use lib.Dec.{lit<}
use Rattle.std.specs.Prelude.{Result}
use Rattle.std.specs.Result.{IsErr, IsErrAnd}
use Rattle.std.proofs.lemmas.Result.{err_from_is_err_and}
use Rattle.numbers.specs.Refusals.{number_of, answer_number}
use Rattle.numbers.specs.declared.refusal.Refusal.{Refusal}
use Rattle.numbers.specs.declared.refusal.Refusal.TheVariants.{WrongLength, NoSide, NoKind, FrameLength, OtherSession, OtherSide, NotWaitedFor, BlockCheck, BlockLayout, UnfitTrit, UnusedBit, TiedRows, ShortSource, NoSet, OtherLine, NotTied}

-- each is above 0
pub above_none : (e : Refusal) → 0 < number_of e
above_none WrongLength = lit< tt
above_none NoSide = lit< tt
above_none NoKind = lit< tt
above_none FrameLength = lit< tt
above_none OtherSession = lit< tt
above_none OtherSide = lit< tt
above_none NotWaitedFor = lit< tt
above_none BlockCheck = lit< tt
above_none BlockLayout = lit< tt
above_none UnfitTrit = lit< tt
above_none UnusedBit = lit< tt
above_none TiedRows = lit< tt
above_none ShortSource = lit< tt
above_none NoSet = lit< tt
above_none OtherLine = lit< tt
above_none NotTied = lit< tt

-- so what was refused has not the number of what is done
pub refused : (e : Refusal) {n : ℕ} → number_of e ≡ n → n ≡ 0 → ⊥
refused e h z = omega (arith, above_none e, h, z)

-- `?` passes the refusal on
pub passed_on : {A : Type 0} (r : Result A Refusal) (e : Refusal) → IsErr r × IsErrAnd r (λ d. d ≡ e) → answer_number r ≡ number_of e
passed_on r e h = let p = err_from_is_err_and r h.1 in ap answer_number p.1 ∙ ap number_of p.2
