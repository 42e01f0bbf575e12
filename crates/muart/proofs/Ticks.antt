-- The rate ticks in many internal clocks.
use Rattle.std.proofs.Common.{◌≡◌, ℕ, ◌+◌, ◌*◌, ◌/◌, arith}
use Rattle.timing.proofs.Turns.{turns_div}
use Rattle.serial.proofs.SoundForms.{rate_bound}
use Rattle.muart.specs.declared.state.StandIn.{StandIn}
use Rattle.muart.specs.Bounds.{SoundDividers}
use Rattle.muart.specs.Serial.{rate_in}
use Rattle.muart.specs.Clock.{rate_modulus, ticks_in}

pub tick_quotient : (n : ℕ) (s : StandIn) → SoundDividers s → ticks_in n s ≡ (s.rest.dividers.remainder.at + n * rate_in s) / 1024000
tick_quotient n s sound =
    turns_div (rate_in s) rate_modulus n s.rest.dividers.remainder.at sound.remainder (omega (arith, rate_bound s.rest.registers.command2))
