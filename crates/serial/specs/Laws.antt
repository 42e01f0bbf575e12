-- What holds of whole frames.
use Rattle.std.specs.Prelude.{◌≡◌, ℕ, ◌/◌, ◌<◌, ◌≤◌, Bool, true, false, get_or, Some, None, Option, slice_index_or}
use Rattle.serial.specs.Forms.{masked}
use Rattle.serial.specs.Frames.{frame, frame_ticks, stop_place}
use Rattle.serial.specs.Lines.{after, tells}
use Rattle.serial.specs.Receiving.{heard}
use Rattle.timing.specs.Run.{times}
use Rattle.serial.specs.Samples.{sample_tick, reception}
use Rattle.serial.specs.Sending.{begun, level, offered, ticked}
use Rattle.serial.specs.declared.form.Form.{Form}
use Rattle.serial.specs.declared.transmitter.Transmitter.{Transmitter}
use Rattle.serial.specs.declared.receiver.Receiver.{Receiver}
use Rattle.serial.specs.declared.stage.Stage.TheVariants.{Idle}
use Rattle.serial.specs.declared.receiver.Event.TheVariants.{Fall}
use Rattle.serial.specs.declared.receiver.Reception.TheVariants.{Character}

-- A transmitter that loaded c with the form f, t ticks later, under the form g and the level of CTS that hold then.
abbrev pub sent : Form → ℕ → Form → Bool → Option ℕ → ℕ → Transmitter
sent f c g cts b t = times t (ticked g cts) (record { buffer = b; phase = begun f c })

-- TxD at the tick t of a frame is the frame's level at t / f.ticks; with its last tick the next character loads, or the transmitter is idle.
unfoldable pub Sends : Form → ℕ → Type 0
Sends f c = (g : Form) (cts : Bool) (b : Option ℕ) → ((t : ℕ) → t < frame_ticks f → level (sent f c g cts b t).phase ≡ slice_index_or (frame f c) (t / f.ticks) true) × (sent f c g cts b (frame_ticks f) ≡ offered g cts b)

-- A receiver that a fall started.
abbrev pub listening : Form → Receiver
listening f = heard (Fall f) Idle

-- A high sample in the start bit ends the reception. After a low one the stop's sample tells what the samples come to, no tick before it
-- tells anything, and the receiver is then idle.
unfoldable pub Receives : Form → (ℕ → Bool) → Type 0
Receives f w =
    (w (f.ticks / 2) ≡ true → (after w (f.ticks / 2) (listening f) ≡ Idle) × ((k : ℕ) → k ≤ f.ticks / 2 → tells w k (listening f) ≡ None))
    × (w (f.ticks / 2) ≡ false → (tells w (sample_tick f (stop_place f)) (listening f) ≡ Some (reception f (λ k. w (sample_tick f k))))
    × ((k : ℕ) → k < sample_tick f (stop_place f) → tells w k (listening f) ≡ None)
    × (after w (sample_tick f (stop_place f)) (listening f) ≡ Idle))

-- The levels of a frame give its character back, shortened to its length, with no error.
abbrev pub Returns : Form → ℕ → Type 0
Returns f c = reception f (λ k. get_or (frame f c) k true) ≡ Character (masked f c) false false

-- A receiver that hears TxD from the fall of a frame's start bit on tells the frame's character, shortened to its length, with no error.
unfoldable pub Carries : Form → ℕ → Type 0
Carries f c = (g : Form) (cts : Bool) (b : Option ℕ) (w : ℕ → Bool) → ((t : ℕ) → t < frame_ticks f → w t ≡ level (sent f c g cts b t).phase)
    → tells w (sample_tick f (stop_place f)) (listening f) ≡ Some (Character (masked f c) false false)
