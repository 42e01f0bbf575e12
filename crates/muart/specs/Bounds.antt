-- What holds of every stand-in that runs.
use Rattle.std.specs.Prelude.{ℕ, ◌<◌, Some, None, Option}
use Rattle.serial.specs.Sending.{SoundTransmitter}
use Rattle.serial.specs.Receiving.{SoundReceiver}
use Rattle.muart.specs.Parts.{Parts}
use Rattle.registers.specs.Words.{prescale_of, divide_of}

-- the level of a begun acknowledge
abbrev pub begun_level : Option ℕ → ℕ
begun_level None = 0
begun_level (Some l) = l

-- the dividers and the remainder stand below what they wrap at: what a stand-in keeps itself, beside what its parts keep
pub record SoundDividers (s : Parts) : Type 0 where
  pub prescaler : s.rest.dividers.prescaler.at < prescale_of s.rest.registers.command2
  pub steps : s.rest.dividers.steps.at < divide_of s.rest.registers.command1
  pub remainder : s.rest.dividers.remainder.at < 1024000

-- the dividers and the remainder stand below what they wrap at, a begun acknowledge is of one of the eight levels, and
-- the transmitter and the receiver are within a frame
pub record Sound (s : Parts) : Type 0 where
  pub prescaler : s.rest.dividers.prescaler.at < prescale_of s.rest.registers.command2
  pub steps : s.rest.dividers.steps.at < divide_of s.rest.registers.command1
  pub remainder : s.rest.dividers.remainder.at < 1024000
  pub begun : begun_level s.rest.begun < 8
  pub transmitter : SoundTransmitter s.rest.serial.transmitter
  pub receiver : SoundReceiver s.rest.serial.receiver
