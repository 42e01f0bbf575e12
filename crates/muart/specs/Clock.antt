-- One system clock of the stand-in.
use Rattle.std.specs.Prelude.{ℕ, ◌<◌, ◌≤◌, min, cond, ◌==◌}
use Rattle.timing.specs.Run.{times, when}
use Rattle.timing.specs.Accumulator.{wraps, next, turns, reached}
use Rattle.timers.specs.declared.timers.Timers.{Timers}
use Rattle.timers.specs.declared.modes.Fired.{Fired}
use Rattle.timers.specs.Stepping.{stepped, firing, quiet_for, Quiet}
use Rattle.timers.specs.Counts.{far}
use Rattle.muart.specs.declared.state.StandIn.{StandIn}
use Rattle.registers.specs.Words.{prescale_of, divide_of}
use Rattle.muart.specs.Firing.{modes_of, recorded, watched}
use Rattle.muart.specs.Serial.{rate_in, serial_tick}
use Rattle.muart.specs.State.{with_timers, with_prescaler, with_steps, with_remainder}
use Rattle.serial.specs.Sending.{quiet_ticks as sending_ticks}
use Rattle.serial.specs.Receiving.{quiet_ticks as receiving_ticks}

-- the timers moved, and those that fired request and disable
abbrev pub timers_moved : Timers → Fired → StandIn → StandIn
timers_moved t f s = recorded f (with_timers t s)

-- one timer step
unfoldable pub timer_step : StandIn → StandIn
timer_step s = timers_moved (stepped (modes_of s.rest.registers) s.rest.timers) (firing (modes_of s.rest.registers) s.rest.timers) s

-- internal clocks to a timer step
abbrev pub divide_in : StandIn → ℕ
divide_in s = divide_of s.rest.registers.command1

-- an internal clock at the timers: every 64th, or 1024th, is a timer step
abbrev pub timed : StandIn → StandIn
timed s = when (wraps 1 (divide_in s) s.rest.dividers.steps.at) timer_step (with_steps (next 1 (divide_in s) s.rest.dividers.steps.at) s)

-- the remainder wraps here, and each wrap is a rate tick
abbrev pub rate_modulus : ℕ
rate_modulus = 1024000

-- an internal clock at the serial side
abbrev pub rated : StandIn → StandIn
rated s = when (wraps (rate_in s) rate_modulus s.rest.dividers.remainder.at) serial_tick (with_remainder (next (rate_in s) rate_modulus s.rest.dividers.remainder.at) s)

-- one internal clock: the timers move first, then the transmitter and the receiver
unfoldable pub internal_clock : StandIn → StandIn
internal_clock s = rated (timed s)

-- system clocks to an internal clock
abbrev pub prescale_in : StandIn → ℕ
prescale_in s = prescale_of s.rest.registers.command2

-- one system clock: every p-th ends an internal clock
unfoldable pub clocked : StandIn → StandIn
clocked s = when (wraps 1 (prescale_in s) s.rest.dividers.prescaler.at) internal_clock (with_prescaler (next 1 (prescale_in s) s.rest.dividers.prescaler.at) s)

-- the timer steps before one whose firing changes the requests or the mask; more than a span holds are not asked for
abbrev pub quiet_steps : StandIn → ℕ
quiet_steps s = min far (quiet_for (modes_of s.rest.registers) (watched s.rest.registers s.rest.mask s.sensitive.levels.requests) s.rest.timers)

-- the rate ticks before one that ends a bit or samples, likewise
abbrev pub quiet_rate_ticks : StandIn → ℕ
quiet_rate_ticks s = min far (min (sending_ticks s.rest.serial.transmitter.phase) (receiving_ticks s.rest.serial.receiver))

-- the internal clocks that hold no more rate ticks than those; a rate that never ticks holds none
abbrev pub quiet_at_rate : ℕ → StandIn → ℕ
quiet_at_rate step s = cond (step == 0) far (reached step rate_modulus (quiet_rate_ticks s) s.rest.dividers.remainder.at)

-- the internal clocks that hold no more timer steps and rate ticks than those, likewise
abbrev pub quiet_internals : StandIn → ℕ
quiet_internals s = min far (min (reached 1 (divide_in s) (quiet_steps s) s.rest.dividers.steps.at) (quiet_at_rate (rate_in s) s))

-- the system clocks that hold no more internal clocks than those
abbrev pub quiet_clocks : StandIn → ℕ
quiet_clocks s = reached 1 (prescale_in s) (quiet_internals s) s.rest.dividers.prescaler.at

-- the internal clocks that end in n system clocks, and the timer steps in n internal clocks
abbrev pub internals_in : ℕ → StandIn → ℕ
internals_in n s = turns 1 (prescale_in s) n s.rest.dividers.prescaler.at

abbrev pub steps_in : ℕ → StandIn → ℕ
steps_in n s = turns 1 (divide_in s) n s.rest.dividers.steps.at

-- and the rate ticks in n internal clocks
abbrev pub ticks_in : ℕ → StandIn → ℕ
ticks_in n s = turns (rate_in s) rate_modulus n s.rest.dividers.remainder.at

-- the first n timer steps change neither the requests nor the mask
abbrev pub QuietSteps : ℕ → StandIn → Type 0
QuietSteps n s =
    (k : ℕ) → k < n
    → Quiet (firing (modes_of s.rest.registers) (times k (stepped (modes_of s.rest.registers)) s.rest.timers)) (watched s.rest.registers s.rest.mask s.sensitive.levels.requests)

-- n clocks are still if only counts, dividers and ticks within a bit move in them
pub record Still (n : ℕ) (s : StandIn) : Type 0 where
  pub steps : QuietSteps (steps_in (internals_in n s) s) s
  pub sending : ticks_in (internals_in n s) s ≤ sending_ticks s.rest.serial.transmitter.phase
  pub receiving : ticks_in (internals_in n s) s ≤ receiving_ticks s.rest.serial.receiver
