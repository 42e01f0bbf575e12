-- What the registers read, and what reading them disturbs.
use Rattle.std.specs.Prelude.{ℕ, ◌+◌, ◌*◌, Bool, false, cond, not, is_some, Some, None, Option}
use Rattle.levels.specs.Levels.{due, taken}
use Rattle.bits.specs.Bytes.{byte}
use Rattle.timers.specs.Access.{count_of}
use Rattle.serial.specs.declared.transmitter.Transmitter.{Transmitter}
use Rattle.serial.specs.Sending.{idle}
use Rattle.registers.specs.declared.held.Control.{Control}
use Rattle.muart.specs.declared.state.Flags.{Flags}
use Rattle.muart.specs.declared.state.Rest.{Rest}
use Rattle.muart.specs.declared.state.Sensitive.{Sensitive}
use Rattle.muart.specs.declared.read.Reading.{Reading}
use Rattle.registers.specs.declared.register.Register.{Register}
use Rattle.registers.specs.declared.register.Register.TheVariants.{Command1, Command2, Command3, Mode, Port1Control, Mask, InterruptAddress, Buffer, Pins, Timer, Status}
use Rattle.registers.specs.Ports.{port_byte}

-- the level that taking would pick
abbrev pub ready_level : Rest → Sensitive → Option ℕ
ready_level r s = due s.levels r.mask r.pins.extint r.registers.control.nie

-- INT is high exactly when a level is ready
abbrev pub int_high : Rest → Sensitive → Bool
int_high r s = is_some (ready_level r s)

-- a bit of the given weight
abbrev pub weighs : Bool → ℕ → ℕ
weighs b w = cond b w 0

-- only RxE, IAE and NIE of command 3 read back
abbrev pub control_byte : Control → ℕ
control_byte c = weighs c.rxe 64 + weighs c.iae 32 + weighs c.nie 16

-- TBE is 1 while the transmit buffer is empty, TRE while nothing is sent
abbrev pub sending_bits : Transmitter → ℕ
sending_bits t = weighs (not (is_some t.buffer)) 32 + weighs (idle t.phase) 16

-- BD, PE, OE and FE
abbrev pub error_bits : Flags → ℕ
error_bits f = weighs f.bd 8 + weighs f.pe 4 + weighs f.oe 2 + weighs f.fe 1

-- status bits 7 to 0 are INT, RBF, TBE, TRE, BD, PE, OE, FE
abbrev pub status_byte : Bool → Transmitter → Flags → ℕ
status_byte int t f = weighs int 128 + weighs f.rbf 64 + sending_bits t + error_bits f

-- the interrupt address is 4 × level, or 255 if INT is low
abbrev pub address_byte : Option ℕ → ℕ
address_byte None = 255
address_byte (Some l) = 4 * l

-- what each register reads
abbrev pub read_byte : Register → Rest → Sensitive → ℕ
read_byte Command1 r s = r.registers.command1
read_byte Command2 r s = r.registers.command2
read_byte Command3 r s = control_byte r.registers.control
read_byte Mode r s = r.registers.mode
read_byte Port1Control r s = r.registers.direction1
read_byte Mask r s = byte r.mask
read_byte InterruptAddress r s = address_byte (ready_level r s)
read_byte Buffer r s = r.serial.received
read_byte (Pins port) r s = port_byte r.registers r.pins port
read_byte (Timer n) r s = count_of n r.timers
read_byte Status r s = status_byte (int_high r s) r.serial.transmitter s.flags

-- the level that a read takes
abbrev pub read_takes : Register → Rest → Sensitive → Option ℕ
read_takes Command1 r s = None
read_takes Command2 r s = None
read_takes Command3 r s = None
read_takes Mode r s = None
read_takes Port1Control r s = None
read_takes Mask r s = None
read_takes InterruptAddress r s = ready_level r s
read_takes Buffer r s = None
read_takes (Pins port) r s = None
read_takes (Timer n) r s = None
read_takes Status r s = None

abbrev pub reading : Register → Rest → Sensitive → Reading
reading g r s = record { byte = read_byte g r s; taken = read_takes g r s }

-- taking the ready level
abbrev pub took : Rest → Sensitive → Sensitive
took r s = record s { levels = taken (ready_level r s) s.levels r.registers.control.nie }

-- reading the interrupt address takes, reading the buffer clears RBF, reading the status clears BD, PE, OE and FE
abbrev pub read_leaves : Register → Rest → Sensitive → Sensitive
read_leaves Command1 r s = s
read_leaves Command2 r s = s
read_leaves Command3 r s = s
read_leaves Mode r s = s
read_leaves Port1Control r s = s
read_leaves Mask r s = s
read_leaves InterruptAddress r s = took r s
read_leaves Buffer r s = record s { flags = record s.flags { rbf = false } }
read_leaves (Pins port) r s = s
read_leaves (Timer n) r s = s
read_leaves Status r s = record s { flags = record s.flags { bd = false; pe = false; oe = false; fe = false } }
