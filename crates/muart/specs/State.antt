-- The stand-in with one part replaced.
use Rattle.std.specs.Prelude.{ℕ, Bool, List, Option}
use Rattle.timers.specs.declared.timers.Timers.{Timers}
use Rattle.registers.specs.declared.held.Registers.{Registers}
use Rattle.registers.specs.declared.held.Pins.{Pins}
use Rattle.muart.specs.declared.state.Dividers.{Dividers}
use Rattle.muart.specs.declared.state.Serial.{Serial}
use Rattle.serial.specs.declared.transmitter.Transmitter.{Transmitter}
use Rattle.serial.specs.declared.receiver.Receiver.{Receiver}
use Rattle.muart.specs.declared.state.Flags.{Flags}
use Rattle.muart.specs.declared.state.Sensitive.{Sensitive}
use Rattle.muart.specs.declared.state.Rest.{Rest}
use Rattle.muart.specs.declared.state.StandIn.{StandIn}

abbrev pub with_rest : Rest → StandIn → StandIn
with_rest r s = record s { rest = r }

abbrev pub with_sensitive : Sensitive → StandIn → StandIn
with_sensitive v s = record s { sensitive = v }

abbrev pub with_registers : Registers → StandIn → StandIn
with_registers g s = with_rest (record s.rest { registers = g }) s

abbrev pub with_pins : Pins → StandIn → StandIn
with_pins p s = with_rest (record s.rest { pins = p }) s

abbrev pub with_mask : List Bool → StandIn → StandIn
with_mask m s = with_rest (record s.rest { mask = m }) s

abbrev pub with_begun : Option ℕ → StandIn → StandIn
with_begun b s = with_rest (record s.rest { begun = b }) s

abbrev pub with_timers : Timers → StandIn → StandIn
with_timers t s = with_rest (record s.rest { timers = t }) s

abbrev pub with_dividers : Dividers → StandIn → StandIn
with_dividers d s = with_rest (record s.rest { dividers = d }) s

abbrev pub with_prescaler : ℕ → StandIn → StandIn
with_prescaler n s = with_dividers (record s.rest.dividers { prescaler = record { at = n } }) s

abbrev pub with_steps : ℕ → StandIn → StandIn
with_steps n s = with_dividers (record s.rest.dividers { steps = record { at = n } }) s

abbrev pub with_remainder : ℕ → StandIn → StandIn
with_remainder n s = with_dividers (record s.rest.dividers { remainder = record { at = n } }) s

abbrev pub with_serial : Serial → StandIn → StandIn
with_serial x s = with_rest (record s.rest { serial = x }) s

abbrev pub with_transmitter : Transmitter → StandIn → StandIn
with_transmitter t s = with_serial (record s.rest.serial { transmitter = t }) s

abbrev pub with_receiver : Receiver → StandIn → StandIn
with_receiver r s = with_serial (record s.rest.serial { receiver = r }) s

abbrev pub with_received : ℕ → StandIn → StandIn
with_received c s = with_serial (record s.rest.serial { received = c }) s

abbrev pub with_rxd : Bool → StandIn → StandIn
with_rxd v s = with_serial (record s.rest.serial { rxd = v }) s

abbrev pub with_flags : Flags → StandIn → StandIn
with_flags f s = with_sensitive (record s.sensitive { flags = f }) s

abbrev pub with_requests : List Bool → StandIn → StandIn
with_requests q s = with_sensitive (record s.sensitive { levels = record s.sensitive.levels { requests = q } }) s

abbrev pub with_service : List Bool → StandIn → StandIn
with_service v s = with_sensitive (record s.sensitive { levels = record s.sensitive.levels { service = v } }) s
