-- Acknowledge pulses.
use Rattle.std.specs.Prelude.{ℕ, ◌+◌, ◌*◌, false, cond, Some, None, Ok, Err, Option, Result}
use Rattle.refusals.specs.declared.refusal.Refusal.{Refusal}
use Rattle.refusals.specs.declared.refusal.Refusal.TheVariants.{AcknowledgeDisabled, WrongFamily, InterruptLow, AlreadyBegun, NoneBegun}
use Rattle.registers.specs.declared.words.Family.{Family}
use Rattle.muart.specs.declared.state.StandIn.{StandIn}
use Rattle.muart.specs.declared.pulse.Begun.{Begun}
use Rattle.muart.specs.declared.pulse.Acknowledged.{Acknowledged}
use Rattle.registers.specs.Words.{family_of, same_family}
use Rattle.muart.specs.Reading.{ready_level, took}
use Rattle.muart.specs.State.{with_begun, with_sensitive}

-- INT must be high, and no acknowledge may be begun
abbrev pub free_to_take : Option ℕ → Option ℕ → Result ℕ Refusal
free_to_take None begun = Err InterruptLow
free_to_take (Some l) None = Ok l
free_to_take (Some l) (Some k) = Err AlreadyBegun

-- the tests of a pulse that takes, for a host of the family f, and then the level that it takes
abbrev pub pulse_level : Family → StandIn → Result ℕ Refusal
pulse_level f s =
    cond s.rest.registers.control.iae
    (cond (same_family f (family_of s.rest.registers.command1))
    (free_to_take (ready_level s.rest s.sensitive) s.rest.begun)
    (Err WrongFamily))
    (Err AcknowledgeDisabled)

-- an accepted pulse takes
abbrev pub pulsed : Result ℕ Refusal → StandIn → StandIn
pulsed (Ok l) s = with_sensitive (took s.rest s.sensitive) s
pulsed (Err e) s = s

-- the single pulse of the 8085 family answers 199 + 8 × level
abbrev pub single_answer : Result ℕ Refusal → Result Acknowledged Refusal
single_answer (Ok l) = Ok (record { byte = 199 + 8 * l; level = l })
single_answer (Err e) = Err e

-- the level that a single pulse took, by what it answered
abbrev pub single_level : Result Acknowledged Refusal → Result ℕ Refusal
single_level (Ok a) = Ok a.level
single_level (Err e) = Err e

-- the first pulse of the 8086 family leaves the host a half
abbrev pub first_answer : Result ℕ Refusal → Result Begun Refusal
first_answer (Ok l) = Ok (record { half = record { spent = false }; level = l })
first_answer (Err e) = Err e

-- the level that a first pulse took
abbrev pub first_level : Result Begun Refusal → Result ℕ Refusal
first_level (Ok b) = Ok b.level
first_level (Err e) = Err e

-- and begins an acknowledge of the level that it took
abbrev pub begins : Result ℕ Refusal → StandIn → StandIn
begins (Ok l) s = with_begun (Some l) (pulsed (Ok l) s)
begins (Err e) s = s

-- the second pulse answers 64 + the begun level
abbrev pub second_answer : Option ℕ → Result ℕ Refusal
second_answer None = Err NoneBegun
second_answer (Some l) = Ok (64 + l)

-- and no acknowledge is begun after it
abbrev pub second_leaves : StandIn → StandIn
second_leaves s = with_begun None s
