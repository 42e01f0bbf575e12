-- Directions and levels of the pins.
use Rattle.std.specs.Prelude.{ℕ, zero, suc, ◌+◌, ◌-◌, ◌^◌, Bool, false, cond, not, ◌&&◌, Some, None, Option, ◌==◌, nat_lt, slice_index_or, slice_set}
use Rattle.registers.specs.declared.held.Registers.{Registers}
use Rattle.registers.specs.declared.held.Pins.{Pins}
use Rattle.registers.specs.declared.pins.Pin.{Pin}
use Rattle.registers.specs.declared.pins.Pin.TheVariants.{Port1, Port2, Cts, Extint}
use Rattle.registers.specs.declared.pins.Port.{Port}
use Rattle.registers.specs.declared.pins.Port.TheVariants.{One, Two}
use Rattle.registers.specs.Words.{bit_of}

-- codes 0-7 are P10-P17, 8-15 P20-P27, 16 CTS, 17 EXTINT
abbrev pub pin_of : ℕ → Option Pin
pin_of code = cond (nat_lt code 8) (Some (Port1 code)) (cond (nat_lt code 16) (Some (Port2 (code - 8))) (cond (code == 16) (Some Cts) (cond (code == 17) (Some Extint) None)))

-- P12, P13, P15, P17 are inputs while CT2, CT3, T5C, BITI is set
abbrev pub used_as_input : Registers → ℕ → Bool
used_as_input r n = cond (n == 2) (bit_of 3 r.mode) (cond (n == 3) (bit_of 4 r.mode) (cond (n == 5) (bit_of 5 r.mode) (cond (n == 7) (bit_of 2 r.command1) false)))

-- a 1 in port 1 control makes an output; mode bits 1 and 0 make the upper and lower nibble of port 2 outputs
abbrev pub is_output : Registers → Pin → Bool
is_output r (Port1 n) = bit_of n r.direction1 && not (used_as_input r n)
is_output r (Port2 n) = cond (nat_lt n 4) (bit_of 0 r.mode) (bit_of 1 r.mode)
is_output r Cts = false
is_output r Extint = false

-- the level that stands outside at a pin
abbrev pub outside : Pins → Pin → Bool
outside p (Port1 n) = slice_index_or p.port1 n false
outside p (Port2 n) = slice_index_or p.port2 n false
outside p Cts = p.cts
outside p Extint = p.extint

-- the outside levels with one pin's set
abbrev pub set_outside : Pin → Bool → Pins → Pins
set_outside (Port1 n) v p = record p { port1 = slice_set p.port1 n v }
set_outside (Port2 n) v p = record p { port2 = slice_set p.port2 n v }
set_outside Cts v p = record p { cts = v }
set_outside Extint v p = record p { extint = v }

-- the latch behind a pin
abbrev pub latch_at : Registers → Pin → Bool
latch_at r (Port1 n) = bit_of n r.latch1
latch_at r (Port2 n) = bit_of n r.latch2
latch_at r Cts = false
latch_at r Extint = false

-- outputs read their latch, inputs the outside level
abbrev pub level_at : Registers → Pins → Pin → Bool
level_at r p pin = cond (is_output r pin) (latch_at r pin) (outside p pin)

-- the byte whose first n bits are the levels that f gives
abbrev pub byte_below : (ℕ → Bool) → ℕ → ℕ
byte_below f zero = 0
byte_below f (suc n) = byte_below f n + cond (f n) (2 ^ n) 0

-- the pin at place n of a port
abbrev pub pin_at : Port → ℕ → Pin
pin_at One n = Port1 n
pin_at Two n = Port2 n

-- what registers 8 and 9 read: bit n is the level of the port's pin n
abbrev pub port_byte : Registers → Pins → Port → ℕ
port_byte r p port = byte_below (λ n. level_at r p (pin_at port n)) 8
