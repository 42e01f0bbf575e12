-- What a transmitter is to callers.
use Rattle.std.specs.Prelude.{ℕ, Option}
use Rattle.serial.specs.declared.stage.Stage.{Stage}
use Rattle.serial.specs.declared.transmitter.Sending.{Sending}

-- The character that waits, and the phase of the frame on the line.
pub record TransmitterView : Type 0 where
  pub buffer : Option ℕ
  pub phase : Stage Sending
