-- The serial side within the stand-in.
use Rattle.std.specs.Prelude.{ℕ, Bool, true, not, ◌&&◌, ◌||◌, is_some, Some, None, Option}
use Rattle.timing.specs.Run.{when}
use Rattle.serial.specs.declared.form.Form.{Form}
use Rattle.serial.specs.declared.receiver.Reception.{Reception}
use Rattle.serial.specs.declared.receiver.Reception.TheVariants.{Break, Character}
use Rattle.serial.specs.Forms.{form_of}
use Rattle.serial.specs.Rates.{rate_step}
use Rattle.serial.specs.Sending.{level, ending, ticked, written, released, idle}
use Rattle.serial.specs.Receiving.{passed, fallen, told}
use Rattle.muart.specs.declared.state.Flags.{Flags}
use Rattle.muart.specs.declared.state.StandIn.{StandIn}
use Rattle.muart.specs.Firing.{asks}
use Rattle.muart.specs.State.{with_flags, with_transmitter, with_receiver, with_received, with_rxd}

-- the form that commands 1 and 2 give now
abbrev pub form_in : StandIn → Form
form_in s = form_of s.rest.registers.command1 s.rest.registers.command2

-- what each internal clock adds to the remainder
abbrev pub rate_in : StandIn → ℕ
rate_in s = rate_step s.rest.registers.command2

-- the level of TxD
abbrev pub txd_level : StandIn → Bool
txd_level s = level s.rest.serial.transmitter.phase

-- the transmitter's tick: a frame's end requests level 5
abbrev pub transmitter_tick : StandIn → StandIn
transmitter_tick s = asks (ending s.rest.serial.transmitter.phase) 5 (with_transmitter (ticked (form_in s) s.rest.pins.cts s.rest.serial.transmitter) s)

-- a break sets BD alone; a character sets RBF, OE if RBF was set, PE on wrong parity and FE on a low stop
abbrev pub flags_after : Reception → Flags → Flags
flags_after Break f = record f { bd = true }
flags_after (Character c wrong low) f = record f { rbf = true; pe = f.pe || wrong; oe = f.oe || f.rbf; fe = f.fe || low }

-- a break loads nothing
abbrev pub loaded : Reception → ℕ → ℕ
loaded Break old = old
loaded (Character c wrong low) old = c

-- what was received sets flags, loads and requests level 4
abbrev pub reception_kept : Option Reception → StandIn → StandIn
reception_kept None s = s
reception_kept (Some r) s = asks true 4 (with_received (loaded r s.rest.serial.received) (with_flags (flags_after r s.sensitive.flags) s))

-- the receiver's tick
abbrev pub receiver_tick : StandIn → StandIn
receiver_tick s = reception_kept (told s.rest.serial.rxd s.rest.serial.receiver) (with_receiver (passed s.rest.serial.rxd s.rest.serial.receiver) s)

-- one rate tick: the transmitter moves first, then the receiver
unfoldable pub serial_tick : StandIn → StandIn
serial_tick s = receiver_tick (transmitter_tick s)

-- a fall of RxD with RxE set starts an idle receiver
abbrev pub rxd_set : Bool → StandIn → StandIn
rxd_set v s = with_rxd v (when ((s.rest.serial.rxd && not v) && s.rest.registers.control.rxe) (λ x. with_receiver (fallen (form_in x) x.rest.serial.receiver) x) s)

-- a character written to the transmit buffer; a load requests level 5
abbrev pub sent : ℕ → StandIn → StandIn
sent w s = asks (idle s.rest.serial.transmitter.phase && not s.rest.pins.cts) 5 (with_transmitter (written w (form_in s) s.rest.pins.cts s.rest.serial.transmitter) s)

-- a fall of CTS lets a waiting character load
abbrev pub cts_fell : StandIn → StandIn
cts_fell s = asks (idle s.rest.serial.transmitter.phase && is_some s.rest.serial.transmitter.buffer) 5 (with_transmitter (released (form_in s) s.rest.serial.transmitter) s)
