-- What the receiver does.
use Rattle.std.specs.Prelude.{ℕ, ◌+◌, ◌-◌, ◌/◌, ◌^◌, ◌<◌, ◌≤◌, Bool, true, false, cond, not, ◌||◌, Some, None, Option, ◌==◌, nat_lt}
use Rattle.serial.specs.Forms.{SoundForm, parity_bit, has_parity}
use Rattle.serial.specs.Stages.{lessened_in, quiet_in}
use Rattle.serial.specs.declared.form.Form.{Form}
use Rattle.serial.specs.declared.receiver.Receiving.{Receiving}
use Rattle.serial.specs.declared.receiver.Receiver.{Receiver}
use Rattle.serial.specs.declared.stage.Stage.TheVariants.{Idle, Start, Data, Parity, Stop}
use Rattle.serial.specs.declared.receiver.Event.{Event}
use Rattle.serial.specs.declared.receiver.Event.TheVariants.{Fall, Tick}
use Rattle.serial.specs.declared.receiver.Reception.{Reception}
use Rattle.serial.specs.declared.receiver.Reception.TheVariants.{Break, Character}

-- A sample is at least one tick and at most a bit away, and n bits are gathered.
abbrev pub SoundReceiving : Receiving → ℕ → Type 0
SoundReceiving r n = SoundForm r.form × (1 ≤ r.left) × (r.left ≤ 64) × (r.character < 2 ^ n)

-- A receiver receives within its bounds. A data stage waits for the bit at its place, which is one of the character's; in the later
-- stages all of them are gathered.
abbrev pub SoundReceiver : Receiver → Type 0
SoundReceiver Idle = Unit {0}
SoundReceiver (Start r) = SoundReceiving r 0
SoundReceiver (Data r place) = SoundReceiving r place × (place < r.form.length)
SoundReceiver (Parity r) = SoundReceiving r r.form.length
SoundReceiver (Stop r) = SoundReceiving r r.form.length

-- The same reception with another number of ticks to its next sample.
abbrev pub lasting : ℕ → Receiving → Receiving
lasting n r = record { form = r.form; character = r.character; parity = r.parity; left = n }

-- The next sample is a bit away.
abbrev pub bit_long : Receiving → Receiving
bit_long r = lasting r.form.ticks r

-- A fall begins a reception, and its first sample is half a bit away.
abbrev pub begun : Form → Receiving
begun form = record { form = form; character = 0; parity = false; left = form.ticks / 2 }

-- What a level is worth at a place, the lowest at 0.
abbrev pub worth : ℕ → Bool → ℕ
worth place rxd = cond rxd (2 ^ place) 0

-- A sampled data bit is added at its place.
abbrev pub with_bit : ℕ → Bool → Receiving → Receiving
with_bit place rxd r = record { form = r.form; character = r.character + worth place rxd; parity = r.parity; left = r.form.ticks }

-- A sampled parity bit is kept.
abbrev pub with_parity : Bool → Receiving → Receiving
with_parity rxd r = record { form = r.form; character = r.character; parity = rxd; left = r.form.ticks }

-- The data are followed by the parity bit, if on, and then by the stop.
abbrev pub past_data : Receiving → Receiver
past_data r = cond (has_parity r.form.parity) (Parity r) (Stop r)

-- A bit is followed by the next one, to the character's length.
abbrev pub past_bit : Receiving → ℕ → Receiver
past_bit r place = cond (nat_lt (place + 1) r.form.length) (Data r (place + 1)) (past_data r)

-- A high sample in the start bit ends the reception.
abbrev pub past_start : Receiving → Bool → Receiver
past_start r rxd = cond rxd Idle (Data (bit_long r) 0)

-- A tick takes one off the ticks to the next sample, and the last one samples.
abbrev pub counting : Receiving → (Receiving → Receiver) → Receiver → Receiver
counting r same next = cond (nat_lt 1 r.left) (same (lasting (r.left - 1) r)) next

-- One tick with RxD at this level.
abbrev pub passed : Bool → Receiver → Receiver
passed rxd Idle = Idle
passed rxd (Start r) = counting r Start (past_start r rxd)
passed rxd (Data r place) = counting r (λ x. Data x place) (past_bit (with_bit place rxd r) place)
passed rxd (Parity r) = counting r Parity (Stop (with_parity rxd r))
passed rxd (Stop r) = counting r Stop Idle

-- A fall of RxD starts an idle receiver, and does nothing to any other.
abbrev pub fallen : Form → Receiver → Receiver
fallen form Idle = Start (begun form)
fallen form (Start r) = Start r
fallen form (Data r place) = Data r place
fallen form (Parity r) = Parity r
fallen form (Stop r) = Stop r

-- What an edge or a tick makes of the receiver.
abbrev pub heard : Event → Receiver → Receiver
heard (Fall form) r = fallen form r
heard (Tick rxd) r = passed rxd r

-- Whether two levels differ.
abbrev pub differ : Bool → Bool → Bool
differ true b = not b
differ false b = b

-- What samples come to: a break where all were low, else the character, with an error for a wrong parity and for a low stop.
abbrev pub outcome : Form → ℕ → Bool → Bool → Reception
outcome form c parity stop = cond ((not (c == 0) || parity) || stop) (Character c (differ parity (parity_bit form c)) (not stop)) Break

-- The sample of the stop tells the reception.
abbrev pub told : Bool → Receiver → Option Reception
told rxd Idle = None
told rxd (Start r) = None
told rxd (Data r place) = None
told rxd (Parity r) = None
told rxd (Stop r) = cond (nat_lt 1 r.left) None (Some (outcome r.form r.character r.parity rxd))

-- What an edge or a tick tells.
abbrev pub received : Event → Receiver → Option Reception
received (Fall form) r = None
received (Tick rxd) r = told rxd r

-- How many ticks only count: all before the next sample, and as many as any skip takes where the receiver is idle.
abbrev pub quiet_ticks : Receiver → ℕ
quiet_ticks p = quiet_in (λ r. r.left) p

-- The receiver with n ticks fewer to its next sample.
abbrev pub lessened : ℕ → Receiver → Receiver
lessened n p = lessened_in (λ r. r.left) lasting n p
