-- The form of a character, and what follows from it alone.
use Rattle.std.specs.Prelude.{ℕ, ◌+◌, ◌-◌, ◌*◌, ◌/◌, ◌%◌, ◌^◌, ◌≤◌, Bool, false, cond, not, Some, None, Option, is_some, ◌==◌, count_ones}
use Rattle.serial.specs.Rates.{ticks_of}
use Rattle.serial.specs.declared.form.Form.{Form}
use Rattle.serial.specs.declared.form.Parity.{Parity}
use Rattle.serial.specs.declared.form.Parity.TheVariants.{Even, Odd}
use Rattle.serial.specs.declared.form.Stops.{Stops}
use Rattle.serial.specs.declared.form.Stops.TheVariants.{One, OneAndHalf, Two}

-- Bit 7 of command 2 turns parity on, and bit 6 is 1 for even.
abbrev pub parity_of : ℕ → Option Parity
parity_of command2 = cond (command2 / 128 % 2 == 1) (Some (cond (command2 / 64 % 2 == 1) Even Odd)) None

-- Bits 5 and 4 of command 1 give 1, 1.5 or 2 stop bits.
abbrev pub stops_of : ℕ → Stops
stops_of command1 = cond (command1 / 16 % 4 == 0) One (cond (command1 / 16 % 4 == 1) OneAndHalf Two)

-- Bits 7 and 6 of command 1 give 8, 7, 6 or 5 data bits.
abbrev pub form_of : ℕ → ℕ → Form
form_of command1 command2 = record { length = 8 - command1 / 64; parity = parity_of command2; stops = stops_of command1; ticks = ticks_of command2 }

-- A form has 5 to 8 data bits, each of 32 to 64 ticks.
abbrev pub SoundForm : Form → Type 0
SoundForm f = (5 ≤ f.length) × (f.length ≤ 8) × (32 ≤ f.ticks) × (f.ticks ≤ 64)

-- A character is shortened to its length.
abbrev pub masked : Form → ℕ → ℕ
masked f c = c % 2 ^ f.length

-- The level of the parity bit, where the data have an odd number of ones or not: it makes the number even or odd, as the parity says.
-- Without parity it is low.
abbrev pub sense : Option Parity → Bool → Bool
sense None odd = false
sense (Some Even) odd = odd
sense (Some Odd) odd = not odd

-- The parity bit counts the ones of the shortened character; without parity it counts as low.
abbrev pub parity_bit : Form → ℕ → Bool
parity_bit f c = sense f.parity (count_ones (masked f c) % 2 == 1)

-- Whether a frame has a parity bit.
abbrev pub has_parity : Option Parity → Bool
has_parity parity = is_some parity

-- The stops last 1, 1.5 or 2 bits.
abbrev pub stops_ticks : Stops → ℕ → ℕ
stops_ticks One s = s
stops_ticks OneAndHalf s = s + s / 2
stops_ticks Two s = 2 * s

-- How long the stops of a frame last.
abbrev pub stop_ticks : Form → ℕ
stop_ticks f = stops_ticks f.stops f.ticks
