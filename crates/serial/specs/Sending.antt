-- What the transmitter does.
use Rattle.std.specs.Prelude.{ℕ, ◌+◌, ◌-◌, ◌<◌, ◌≤◌, Bool, true, false, cond, not, Some, None, Option, nat_lt}
use Rattle.serial.specs.Forms.{SoundForm, masked, parity_bit, has_parity, stop_ticks}
use Rattle.serial.specs.Frames.{bit}
use Rattle.serial.specs.Stages.{lessened_in, quiet_in}
use Rattle.serial.specs.declared.form.Form.{Form}
use Rattle.serial.specs.declared.transmitter.Sending.{Sending}
use Rattle.serial.specs.declared.stage.Stage.{Stage}
use Rattle.serial.specs.declared.stage.Stage.TheVariants.{Idle, Start, Data, Parity, Stop}
use Rattle.serial.specs.declared.transmitter.Transmitter.{Transmitter}

-- The stage of the frame on the line.
abbrev pub Phase : Type 0
Phase = Stage Sending

-- A phase lasts at least one tick and at most two bits.
abbrev pub SoundSending : Sending → Type 0
SoundSending s = SoundForm s.form × (1 ≤ s.left) × (s.left ≤ 128)

-- A phase sends within its bounds, and a data phase is at one of the character's bits.
abbrev pub SoundPhase : Phase → Type 0
SoundPhase Idle = Unit {0}
SoundPhase (Start s) = SoundSending s
SoundPhase (Data s place) = SoundSending s × (place < s.form.length)
SoundPhase (Parity s) = SoundSending s
SoundPhase (Stop s) = SoundSending s

-- Any buffer is sound.
abbrev pub SoundTransmitter : Transmitter → Type 0
SoundTransmitter t = SoundPhase t.phase

-- Whether nothing is being sent.
abbrev pub idle : Phase → Bool
idle Idle = true
idle (Start s) = false
idle (Data s place) = false
idle (Parity s) = false
idle (Stop s) = false

-- The level of TxD: high when idle, low in the start bit, then the data, the parity and high stops.
abbrev pub level : Phase → Bool
level Idle = true
level (Start s) = false
level (Data s place) = bit s.character place
level (Parity s) = parity_bit s.form s.character
level (Stop s) = true

-- The same frame with another number of ticks left in its phase.
abbrev pub lasting : ℕ → Sending → Sending
lasting n s = record { form = s.form; character = s.character; left = n }

-- The next phase lasts a bit.
abbrev pub bit_long : Sending → Sending
bit_long s = lasting s.form.ticks s

-- The frame ends in its stops.
abbrev pub stopping : Sending → Phase
stopping s = Stop (lasting (stop_ticks s.form) s)

-- The data are followed by the parity bit, if on, and then by the stops.
abbrev pub past_data : Sending → Phase
past_data s = cond (has_parity s.form.parity) (Parity (bit_long s)) (stopping s)

-- A bit is followed by the next one, to the character's length.
abbrev pub past_bit : Sending → ℕ → Phase
past_bit s place = cond (nat_lt (place + 1) s.form.length) (Data (bit_long s) (place + 1)) (past_data s)

-- A tick takes one off what is left of a phase, and the last one leads to the next phase.
abbrev pub counting : Sending → (Sending → Phase) → Phase → Phase
counting s same next = cond (nat_lt 1 s.left) (same (lasting (s.left - 1) s)) next

-- One tick of a phase, which is not a frame's last.
abbrev pub passed : Phase → Phase
passed Idle = Idle
passed (Start s) = counting s Start (Data (bit_long s) 0)
passed (Data s place) = counting s (λ x. Data x place) (past_bit s place)
passed (Parity s) = counting s Parity (stopping s)
passed (Stop s) = counting s Stop Idle

-- Whether the next tick is the frame's last.
abbrev pub ending : Phase → Bool
ending Idle = false
ending (Start s) = false
ending (Data s place) = false
ending (Parity s) = false
ending (Stop s) = not (nat_lt 1 s.left)

-- A transmitter begins idle, with an empty buffer.
abbrev pub fresh : Transmitter
fresh = record { buffer = None; phase = Idle }

-- A frame begins with its start bit, and keeps its form and the character's low bits.
abbrev pub begun : Form → ℕ → Phase
begun form c = Start (record { form = form; character = masked form c; left = form.ticks })

-- A transmitter with nothing on the line, or at a frame's last tick, loads what its buffer holds if CTS is low. Else it is idle.
abbrev pub offered : Form → Bool → Option ℕ → Transmitter
offered form cts None = fresh
offered form true (Some c) = record { buffer = Some c; phase = Idle }
offered form false (Some c) = record { buffer = None; phase = begun form c }

-- One rate tick: at the frame's last the next character loads, or the transmitter is idle.
abbrev pub ticked : Form → Bool → Transmitter → Transmitter
ticked form cts t = cond (ending t.phase) (offered form cts t.buffer) (record { buffer = t.buffer; phase = passed t.phase })

-- A write fills the buffer, and an idle transmitter takes it up.
abbrev pub written : ℕ → Form → Bool → Transmitter → Transmitter
written c form cts t = cond (idle t.phase) (offered form cts (Some c)) (record { buffer = Some c; phase = t.phase })

-- Where CTS falls, an idle transmitter takes up what its buffer holds.
abbrev pub released : Form → Transmitter → Transmitter
released form t = cond (idle t.phase) (offered form false t.buffer) t

-- How many ticks only count: all of a phase's but its last, and as many as any skip takes where nothing is being sent.
abbrev pub quiet_ticks : Phase → ℕ
quiet_ticks p = quiet_in (λ s. s.left) p

-- The phase with n ticks fewer left.
abbrev pub lessened : ℕ → Phase → Phase
lessened n p = lessened_in (λ s. s.left) lasting n p
