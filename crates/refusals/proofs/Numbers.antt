-- A refusal is told from its number.
use Rattle.std.proofs.Common.{◌≡◌, ℕ, ◌-◌, List, [], ◌∷◌, Some, Option, sym, refl, ap, ◌∙◌}
use Rattle.std.specs.Prelude.{slice_get}
use Rattle.std.proofs.lemmas.Option.{same_Some}
use Rattle.refusals.specs.declared.refusal.Refusal.{Refusal}
use Rattle.refusals.specs.declared.refusal.Refusal.TheVariants.{AddressTooHigh, NotSelected, UnlawfulWord, AcknowledgeDisabled, WrongFamily, InterruptLow, AlreadyBegun, NoneBegun, SpanTooLong, ClockPastEnd, NoSuchPin, OutputPin, ScriptLine, PlaceTooShort, NoSuchRegister}
use Rattle.refusals.specs.Refusals.{number_of, NumbersTellRefusals}

-- The refusals in the order of their numbers, from 1 on.
abbrev in_order : List Refusal
in_order = AddressTooHigh ∷ NotSelected ∷ UnlawfulWord ∷ AcknowledgeDisabled ∷ WrongFamily ∷ InterruptLow ∷ AlreadyBegun ∷ NoneBegun ∷ SpanTooLong ∷ ClockPastEnd ∷ NoSuchPin ∷ OutputPin ∷ ScriptLine ∷ PlaceTooShort ∷ NoSuchRegister ∷ []

-- The refusal of a number from 1 on, if there is one.
abbrev refusal_of : ℕ → Option Refusal
refusal_of n = slice_get in_order (n - 1)

told : (r : Refusal) → refusal_of (number_of r) ≡ Some r
told AddressTooHigh = refl
told NotSelected = refl
told UnlawfulWord = refl
told AcknowledgeDisabled = refl
told WrongFamily = refl
told InterruptLow = refl
told AlreadyBegun = refl
told NoneBegun = refl
told SpanTooLong = refl
told ClockPastEnd = refl
told NoSuchPin = refl
told OutputPin = refl
told ScriptLine = refl
told PlaceTooShort = refl
told NoSuchRegister = refl

pub numbers_tell_refusals : NumbersTellRefusals
numbers_tell_refusals a b e = same_Some a b (sym (told a) ∙ ap refusal_of e ∙ told b)
