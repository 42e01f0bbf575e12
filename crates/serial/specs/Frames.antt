-- The levels of a frame on the line, and how long it lasts: one definition for the sender and the receiver.
use Rattle.std.specs.Prelude.{ℕ, zero, suc, ◌+◌, ◌*◌, ◌/◌, ◌%◌, ◌^◌, Bool, true, false, cond, List, [], ◌∷◌, ◌++◌, ◌==◌}
use Rattle.serial.specs.Forms.{has_parity, masked, parity_bit, stop_ticks}
use Rattle.serial.specs.declared.form.Form.{Form}
use Rattle.serial.specs.declared.form.Stops.{Stops}
use Rattle.serial.specs.declared.form.Stops.TheVariants.{One, OneAndHalf, Two}

-- The bit of a character at a place, the lowest at 0.
abbrev pub bit : ℕ → ℕ → Bool
bit c place = c / 2 ^ place % 2 == 1

-- So many bits of a character, from a place on, low bit first.
abbrev pub bits_from : ℕ → ℕ → ℕ → List Bool
bits_from zero place c = []
bits_from (suc n) place c = bit c place ∷ bits_from n (place + 1) c

-- The parity bit, if on.
abbrev pub parity_levels : Form → ℕ → List Bool
parity_levels f c = cond (has_parity f.parity) (parity_bit f c ∷ []) []

-- One high level for one stop bit, and two for more.
abbrev pub stop_levels : Stops → List Bool
stop_levels One = true ∷ []
stop_levels OneAndHalf = true ∷ true ∷ []
stop_levels Two = true ∷ true ∷ []

-- A frame is a low start bit, the data low bit first, the parity if on, and high stops.
abbrev pub frame : Form → ℕ → List Bool
frame f c = false ∷ (bits_from f.length 0 (masked f c) ++ (parity_levels f c ++ stop_levels f.stops))

-- The first stop follows the start bit, the data and the parity, if on.
abbrev pub stop_place : Form → ℕ
stop_place f = f.length + cond (has_parity f.parity) 1 0 + 1

-- A frame lasts the bits before its stops, and its stops.
abbrev pub frame_ticks : Form → ℕ
frame_ticks f = stop_place f * f.ticks + stop_ticks f
