-- The number of each refusal.
use Rattle.std.specs.Prelude.{◌≡◌, ℕ}
use Rattle.refusals.specs.declared.refusal.Refusal.{Refusal}
use Rattle.refusals.specs.declared.refusal.Refusal.TheVariants.{AddressTooHigh, NotSelected, UnlawfulWord, AcknowledgeDisabled, WrongFamily, InterruptLow, AlreadyBegun, NoneBegun, SpanTooLong, ClockPastEnd, NoSuchPin, OutputPin, ScriptLine, PlaceTooShort, NoSuchRegister}

abbrev pub number_of : Refusal → ℕ
number_of AddressTooHigh = 1
number_of NotSelected = 2
number_of UnlawfulWord = 3
number_of AcknowledgeDisabled = 4
number_of WrongFamily = 5
number_of InterruptLow = 6
number_of AlreadyBegun = 7
number_of NoneBegun = 8
number_of SpanTooLong = 9
number_of ClockPastEnd = 10
number_of NoSuchPin = 11
number_of OutputPin = 12
number_of ScriptLine = 13
number_of PlaceTooShort = 14
number_of NoSuchRegister = 15

-- Two refusals with the same number are the same refusal.
abbrev pub NumbersTellRefusals : Type 0
NumbersTellRefusals = (a b : Refusal) → number_of a ≡ number_of b → a ≡ b
