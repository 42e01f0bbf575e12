-- The bits of the command and mode words.
use Rattle.std.specs.Prelude.{ℕ, ◌/◌, ◌%◌, ◌^◌, Bool, true, false, cond, not, ◌&&◌, ◌==◌, nat_le}
use Rattle.registers.specs.declared.words.Family.{Family}
use Rattle.registers.specs.declared.words.Family.TheVariants.{I8085, I8086}

-- bit k of a byte
abbrev pub bit_of : ℕ → ℕ → Bool
bit_of k b = b / 2 ^ k % 2 == 1

-- command 1, bit 1: 1 is the 8086 family
abbrev pub family_of : ℕ → Family
family_of command1 = cond (bit_of 1 command1) I8086 I8085

-- whether two families are one
abbrev pub same_family : Family → Family → Bool
same_family I8085 I8085 = true
same_family I8085 I8086 = false
same_family I8086 I8085 = false
same_family I8086 I8086 = true

-- the prescaler for the two-bit code
abbrev pub prescale_code : ℕ → ℕ
prescale_code k = cond (k == 0) 5 (cond (k == 1) 3 (cond (k == 2) 2 1))

-- command 2, bits 5-4: every p-th system clock ends an internal clock
abbrev pub prescale_of : ℕ → ℕ
prescale_of command2 = prescale_code (command2 / 16 % 4)

-- command 1, bit 0 (FRQ): every 64th internal clock is a timer step, every 1024th with FRQ 1
abbrev pub divide_of : ℕ → ℕ
divide_of command1 = cond (bit_of 0 command1) 1024 64

-- command 1: stop code 3 and break-in (bit 3) are unlawful
abbrev pub lawful1 : ℕ → Bool
lawful1 w = not (w / 16 % 4 == 3) && not (bit_of 3 w)

-- command 2: rates 0 to 2 are unlawful
abbrev pub lawful2 : ℕ → Bool
lawful2 w = nat_le 3 (w % 16)

-- command 3: bits 1 and 2 are unlawful, in a reset word too
abbrev pub lawful3 : ℕ → Bool
lawful3 w = not (bit_of 1 w) && not (bit_of 2 w)

-- mode: bit 2 is unlawful
abbrev pub lawful_mode : ℕ → Bool
lawful_mode w = not (bit_of 2 w)
