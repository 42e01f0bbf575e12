-- What writing a register does.
use Rattle.std.specs.Prelude.{ℕ, Bool, true, false, cond, not, ◌&&◌, List, replicate, None, Ok, Err, Result, ◌==◌}
use Rattle.levels.specs.Sets.{union, minus, ended}
use Rattle.bits.specs.Bytes.{flags}
use Rattle.timers.specs.Access.{cleared_timers, written as timer_written, selected}
use Rattle.refusals.specs.declared.refusal.Refusal.{Refusal}
use Rattle.refusals.specs.declared.refusal.Refusal.TheVariants.{UnlawfulWord}
use Rattle.registers.specs.declared.pins.Port.{Port}
use Rattle.registers.specs.declared.pins.Port.TheVariants.{One, Two}
use Rattle.registers.specs.declared.register.Register.{Register}
use Rattle.registers.specs.declared.register.Register.TheVariants.{Command1, Command2, Command3, Mode, Port1Control, Mask, InterruptAddress, Buffer, Pins, Timer, Status}
use Rattle.registers.specs.declared.held.Control.{Control}
use Rattle.registers.specs.declared.held.Registers.{Registers}
use Rattle.muart.specs.declared.state.Dividers.{Dividers}
use Rattle.muart.specs.declared.state.StandIn.{StandIn}
use Rattle.registers.specs.declared.held.Pins as pins
use Rattle.registers.specs.Words.{bit_of, lawful1, lawful2, lawful3, lawful_mode}
use Rattle.muart.specs.State.{with_registers, with_mask, with_timers, with_dividers, with_requests, with_service, with_receiver}
use Rattle.muart.specs.Serial.{sent}
use Rattle.muart.specs.declared.state.Serial.{Serial}
use Rattle.serial.specs.Sending.{fresh}
use Rattle.serial.specs.declared.receiver.Receiver.{Receiver}
use Rattle.serial.specs.declared.stage.Stage.TheVariants.{Idle}

-- no level
abbrev pub no_level : List Bool
no_level = replicate 8 false

-- every register zero
abbrev pub no_words : Registers
no_words = record { command1 = 0; command2 = 0; control = record { rxe = false; iae = false; nie = false }; mode = 0; direction1 = 0; latch1 = 0; latch2 = 0 }

-- every divider zero
abbrev pub no_phase : Dividers
no_phase = record { prescaler = record { at = 0 }; steps = record { at = 0 }; remainder = record { at = 0 } }

-- the serial side with nothing sent and nothing received
abbrev pub no_characters : Bool → Serial
no_characters v = record { transmitter = fresh; receiver = Idle; received = 0; rxd = v }

-- what a reset leaves: all zero but the outside levels of the pins and the level of RxD
abbrev pub reset_to : pins.Pins → Bool → StandIn
reset_to p v = record {
  rest = record { registers = no_words; pins = p; mask = no_level; begun = None; timers = cleared_timers; dividers = no_phase; serial = no_characters v };
  sensitive = record { levels = record { requests = no_level; service = no_level }; flags = record { rbf = false; bd = false; pe = false; oe = false; fe = false } };
}

-- a reset
abbrev pub was_reset : StandIn → StandIn
was_reset s = reset_to s.rest.pins s.rest.serial.rxd

-- at power-up the outside levels are 0 too, and RxD has the level that the line has
abbrev pub powered_up : Bool → StandIn
powered_up v = reset_to (record { port1 = no_level; port2 = no_level; cts = false; extint = false }) v

-- which words a register refuses
abbrev pub lawful : Register → ℕ → Bool
lawful Command1 w = lawful1 w
lawful Command2 w = lawful2 w
lawful Command3 w = lawful3 w
lawful Mode w = lawful_mode w
lawful Port1Control w = true
lawful Mask w = true
lawful InterruptAddress w = true
lawful Buffer w = true
lawful (Pins port) w = true
lawful (Timer n) w = true
lawful Status w = w == 0

-- bit 7 of command 3 says set or clear for a bit that is 1; a bit that is 0 is left
abbrev pub chosen : ℕ → ℕ → Bool → Bool
chosen k w old = cond (bit_of k w) (bit_of 7 w) old

abbrev pub controlled : ℕ → Control → Control
controlled w c = record { rxe = chosen 6 w c.rxe; iae = chosen 5 w c.iae; nie = chosen 4 w c.nie }

abbrev pub with_control : Control → StandIn → StandIn
with_control c s = with_registers (record s.rest.registers { control = c }) s

-- a word that clears NIE
abbrev pub clears_nie : ℕ → Bool
clears_nie w = bit_of 4 w && not (bit_of 7 w)

-- END closes the lowest level in service, clearing NIE closes all
abbrev pub left_in_service : ℕ → List Bool → List Bool
left_in_service w service = cond (clears_nie w) no_level (cond (bit_of 3 w) (ended service) service)

-- clearing RxE idles the receiver
abbrev pub left_receiving : ℕ → Receiver → Receiver
left_receiving w r = cond (bit_of 6 w && not (bit_of 7 w)) Idle r

-- a word with bits 7 and 0 resets, and nothing else in it counts
abbrev pub resets : ℕ → Bool
resets w = bit_of 7 w && bit_of 0 w

abbrev pub commanded3 : ℕ → StandIn → StandIn
commanded3 w s =
    cond (resets w) (was_reset s)
    (with_control (controlled w s.rest.registers.control) (with_service (left_in_service w s.sensitive.levels.service) (with_receiver (left_receiving w s.rest.serial.receiver) s)))

-- a command 1 or 2 zeroes the dividers
abbrev pub commanded1 : ℕ → StandIn → StandIn
commanded1 w s = with_dividers no_phase (with_registers (record s.rest.registers { command1 = w }) s)

abbrev pub commanded2 : ℕ → StandIn → StandIn
commanded2 w s = with_dividers no_phase (with_registers (record s.rest.registers { command2 = w }) s)

-- a mode word that turns T5C on makes timer 5 rest
abbrev pub mode_set : ℕ → StandIn → StandIn
mode_set w s =
    with_timers (selected (bit_of 5 s.rest.registers.mode) (bit_of 5 w) s.rest.timers)
    (with_registers (record s.rest.registers { mode = w }) s)

abbrev pub direction_set : ℕ → StandIn → StandIn
direction_set w s = with_registers (record s.rest.registers { direction1 = w }) s

abbrev pub latch_set : Port → ℕ → StandIn → StandIn
latch_set One w s = with_registers (record s.rest.registers { latch1 = w }) s
latch_set Two w s = with_registers (record s.rest.registers { latch2 = w }) s

-- a disable word clears its bits in the mask and drops their requests
abbrev pub disabled : ℕ → StandIn → StandIn
disabled w s = with_mask (minus s.rest.mask (flags w)) (with_requests (minus s.sensitive.levels.requests (flags w)) s)

-- what a lawful word does
abbrev pub stored : Register → ℕ → StandIn → StandIn
stored Command1 w s = commanded1 w s
stored Command2 w s = commanded2 w s
stored Command3 w s = commanded3 w s
stored Mode w s = mode_set w s
stored Port1Control w s = direction_set w s
stored Mask w s = with_mask (union s.rest.mask (flags w)) s
stored InterruptAddress w s = disabled w s
stored Buffer w s = sent w s
stored (Pins port) w s = latch_set port w s
stored (Timer n) w s = with_timers (timer_written n w (bit_of 5 s.rest.registers.mode) s.rest.timers) s
stored Status w s = s

-- the levels that were in service and are no more
abbrev pub closed_by : StandIn → StandIn → List Bool
closed_by before after = minus before.sensitive.levels.service after.sensitive.levels.service

-- a write is refused or stores its word; it tells the levels that it closed
abbrev pub write_answer : Register → ℕ → StandIn → Result (List Bool) Refusal
write_answer g w s = cond (lawful g w) (Ok (closed_by s (stored g w s))) (Err UnlawfulWord)

abbrev pub write_leaves : Result (List Bool) Refusal → Register → ℕ → StandIn → StandIn
write_leaves (Ok closed) g w s = stored g w s
write_leaves (Err e) g w s = s
