-- What the operations of a script do to a board, and what is listed of them.
use Rattle.std.specs.Prelude.{ℕ, true, List, [], ◌∷◌, Ok, Err, Result, slice_index}
use Rattle.script.specs.declared.items.Operation.{Operation}
use Rattle.script.specs.declared.items.Operation.TheVariants.{Read, Write, Clocks, Pin, Acknowledge, AcknowledgeBoth, Reset, Look}
use Rattle.listing.specs.declared.lines.Line.{Line}
use Rattle.refusals.specs.declared.refusal.Refusal.{Refusal}
use Rattle.registers.specs.declared.latch.Latched.{Latched}
use Rattle.refusals.specs.declared.refusal.Refusal.TheVariants.{ScriptLine}
use Rattle.refusals.specs.Refusals.{number_of}
use Rattle.board.specs.Perform.{Call, read, write, pulse, first_pulse, second_pulse, pin, span, look, reset, Answer, done, byte, counts, refused, looked, answered, State, after}

-- the bench selects the chip in every bus cycle
abbrev pub at_address : ℕ → Latched
at_address a = record { address = a; selected = true }

-- both pulses: the second follows where the first was accepted
abbrev pub both_calls : Answer → List Call
both_calls done = first_pulse ∷ second_pulse ∷ []
both_calls (byte b) = first_pulse ∷ []
both_calls (counts cs) = first_pulse ∷ []
both_calls (refused e) = first_pulse ∷ []
both_calls (looked r place) = first_pulse ∷ []

-- the calls that an operation makes
abbrev pub calls_of : Operation → State → List Call
calls_of (Read a) s = read (at_address a) ∷ []
calls_of (Write a b) s = write (at_address a) b ∷ []
calls_of (Clocks n) s = span n ∷ []
calls_of (Pin code level) s = pin code level ∷ []
calls_of Acknowledge s = pulse ∷ []
calls_of AcknowledgeBoth s = both_calls (answered first_pulse s.board)
calls_of Reset s = reset ∷ []
calls_of (Look r) s = look (r ∷ []) (0 ∷ []) ∷ []

-- what is listed of an answer: its byte, or 0 if it has none, or the refusal
abbrev pub listed : Answer → Result ℕ Refusal
listed done = Ok 0
listed (byte b) = Ok b
listed (counts cs) = Ok 0
listed (refused e) = Err e
listed (looked (Ok t) place) = Ok (slice_index place 0)
listed (looked (Err e) place) = Err e

-- of several calls the last one's answer is listed
abbrev pub last_listed : List Call → State → Result ℕ Refusal
last_listed [] s = Ok 0
last_listed (c ∷ []) s = listed (answered c s.board)
last_listed (c ∷ d ∷ cs) s = last_listed (d ∷ cs) (after c s)

-- of several answers the last one is listed
abbrev pub last_answer : List Answer → Result ℕ Refusal
last_answer [] = Ok 0
last_answer (a ∷ []) = listed a
last_answer (a ∷ b ∷ more) = last_answer (b ∷ more)

-- an answer, or the number of its refusal
abbrev pub numbered : Result ℕ Refusal → Result ℕ ℕ
numbered (Ok b) = Ok b
numbered (Err e) = Err (number_of e)

-- the listing line of an operation, with the clock number after it
abbrev pub line_of : ℕ → Result ℕ Refusal → ℕ → Line
line_of number answer clock = record { number = number; answer = numbered answer; last = clock }

-- the listing line of a script line that cannot stand: refusal 13, and the first column that cannot stand
abbrev pub fault_line : ℕ → ℕ → Line
fault_line number column = record { number = number; answer = Err (number_of ScriptLine); last = column }
