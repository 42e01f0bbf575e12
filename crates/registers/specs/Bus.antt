-- How a bus cycle finds its register.
use Rattle.std.specs.Prelude.{ℕ, zero, suc, ◌/◌, ◌%◌, cond, List, [], ◌∷◌, Some, None, Ok, Err, Option, Result, nat_lt}
use Rattle.std.specs.Option.{ok_or}
use Rattle.refusals.specs.declared.refusal.Refusal.{Refusal}
use Rattle.refusals.specs.declared.refusal.Refusal.TheVariants.{AddressTooHigh, NotSelected}
use Rattle.registers.specs.declared.register.Register.{Register}
use Rattle.registers.specs.declared.register.Register.TheVariants.{Command1, Command2, Command3, Mode, Port1Control, Mask, InterruptAddress, Buffer, Pins, Timer, Status}
use Rattle.registers.specs.declared.pins.Port.TheVariants as port
use Rattle.timers.specs.declared.modes.Number.TheVariants as number
use Rattle.registers.specs.declared.latch.Latched.{Latched}
use Rattle.registers.specs.declared.words.Family.{Family}
use Rattle.registers.specs.declared.words.Family.TheVariants.{I8085, I8086}
use Rattle.registers.specs.Words.{bit_of}

-- place n of a list
abbrev pub place : {X : Type 0} → List X → ℕ → Option X
place [] n = None
place (x ∷ xs) zero = Some x
place (x ∷ xs) (suc n) = place xs n

-- the registers in the order of their numbers
abbrev pub registers : List Register
registers = Command1 ∷ Command2 ∷ Command3 ∷ Mode ∷ Port1Control ∷ Mask ∷ InterruptAddress ∷ Buffer ∷ Pins port.One ∷ Pins port.Two ∷ Timer number.One ∷ Timer number.Two ∷ Timer number.Three ∷ Timer number.Four ∷ Timer number.Five ∷ Status ∷ []

-- a register by its number; none above 15
abbrev pub register_of : ℕ → Option Register
register_of n = place registers n

-- in the 8085 family address bits 3-0 are the register number; in the 8086 family bits 4-1 are, and a 1 in bit 0 is refused
abbrev pub numbered_by : Family → ℕ → Result ℕ Refusal
numbered_by I8085 a = Ok (a % 16)
numbered_by I8086 a = cond (bit_of 0 a) (Err NotSelected) (Ok (a / 2))

-- the register of a number that an address gave
abbrev pub found_at : Result ℕ Refusal → Result Register Refusal
found_at (Ok n) = ok_or (register_of n) AddressTooHigh
found_at (Err e) = Err e

-- the tests of every strobe, and then its register
abbrev pub strobed : Latched → Family → Result Register Refusal
strobed l f = cond (nat_lt 31 l.address) (Err AddressTooHigh) (cond l.selected (found_at (numbered_by f l.address)) (Err NotSelected))
