-- What a receiver makes of its samples: v k is the level at the place k of the frame, the start bit at 0.
use Rattle.std.specs.Prelude.{ℕ, zero, suc, ◌+◌, ◌*◌, ◌/◌, Bool, ◌&&◌}
use Rattle.serial.specs.Forms.{has_parity}
use Rattle.serial.specs.Frames.{stop_place}
use Rattle.serial.specs.Receiving.{outcome, worth}
use Rattle.serial.specs.declared.form.Form.{Form}
use Rattle.serial.specs.declared.receiver.Reception.{Reception}

-- The samples fall half a bit after the start's fall, and every bit from there on.
abbrev pub sample_tick : Form → ℕ → ℕ
sample_tick f k = f.ticks / 2 + k * f.ticks

-- The first n data bits, low bit first.
abbrev pub gathered : ℕ → (ℕ → Bool) → ℕ
gathered zero v = 0
gathered (suc n) v = gathered n v + worth n (v (suc n))

-- What the samples of a frame come to.
abbrev pub reception : Form → (ℕ → Bool) → Reception
reception f v = outcome f (gathered f.length v) (has_parity f.parity && v (f.length + 1)) (v (stop_place f))
