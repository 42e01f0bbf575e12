-- Setting the outside level of a pin.
use Rattle.std.specs.Prelude.{ℕ, Bool, true, false, cond, Some, None, Ok, Err, Option, Result, ◌==◌}
use Rattle.timers.specs.Stepping.{edge_counted, edge_firing}
use Rattle.timers.specs.declared.modes.Side.{Side}
use Rattle.timers.specs.declared.modes.Side.TheVariants.{Even, Odd}
use Rattle.timers.specs.Access.{triggered}
use Rattle.refusals.specs.declared.refusal.Refusal.{Refusal}
use Rattle.refusals.specs.declared.refusal.Refusal.TheVariants.{NoSuchPin, OutputPin}
use Rattle.registers.specs.declared.pins.Pin.{Pin}
use Rattle.registers.specs.declared.pins.Pin.TheVariants.{Port1, Port2, Cts, Extint}
use Rattle.muart.specs.declared.state.StandIn.{StandIn}
use Rattle.registers.specs.Ports.{pin_of, is_output, outside, set_outside}
use Rattle.muart.specs.Firing.{modes_of, biti_of, asks}
use Rattle.muart.specs.State.{with_pins, with_timers}
use Rattle.muart.specs.Serial.{cts_fell}
use Rattle.muart.specs.Clock.{timers_moved}

-- a counted edge of timer 2 or 3, or of its pair
abbrev pub counts : Side → StandIn → StandIn
counts side s =
    timers_moved (edge_counted side (modes_of s.rest.registers) s.rest.timers) (edge_firing side (modes_of s.rest.registers) s.rest.timers) s

-- with CT2 a rise of P12 steps timer 2, or its pair
abbrev pub counts_two : StandIn → StandIn
counts_two = counts Even

-- with CT3 a rise of P13 steps timer 3, or its pair
abbrev pub counts_three : StandIn → StandIn
counts_three = counts Odd

-- with T5C a fall of P15 loads timer 5
abbrev pub triggers : StandIn → StandIn
triggers s = with_timers (triggered (modes_of s.rest.registers) s.rest.timers) s

-- with BITI a rise of P17 requests level 1
abbrev pub calls_one : StandIn → StandIn
calls_one s = asks (biti_of s.rest.registers) 1 s

-- what a rise of a pin does
abbrev pub rise : Pin → StandIn → StandIn
rise (Port1 n) s = cond (n == 2) (counts_two s) (cond (n == 3) (counts_three s) (cond (n == 7) (calls_one s) s))
rise (Port2 n) s = s
rise Cts s = s
rise Extint s = s

-- what a fall of a pin does
abbrev pub fall : Pin → StandIn → StandIn
fall (Port1 n) s = cond (n == 5) (triggers s) s
fall (Port2 n) s = s
fall Cts s = cts_fell s
fall Extint s = s

-- the level set from outside: only a change makes an edge
abbrev pub pin_set : Pin → Bool → StandIn → StandIn
pin_set pin true s = cond (outside s.rest.pins pin) s (rise pin (with_pins (set_outside pin true s.rest.pins) s))
pin_set pin false s = cond (outside s.rest.pins pin) (fall pin (with_pins (set_outside pin false s.rest.pins) s)) s

-- an output cannot be set from outside
abbrev pub pin_allowed : Option Pin → StandIn → Result Pin Refusal
pin_allowed None s = Err NoSuchPin
pin_allowed (Some pin) s = cond (is_output s.rest.registers pin) (Err OutputPin) (Ok pin)

abbrev pub pin_tested : ℕ → StandIn → Result Pin Refusal
pin_tested code s = pin_allowed (pin_of code) s
