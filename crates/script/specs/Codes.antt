-- The operations: their codes, their fields' limits, and what they mean.
use Rattle.std.specs.Prelude.{ℕ, Bool, true, false, cond, ◌&&◌, List, [], ◌∷◌, Some, None, codes, Option, ◌==◌}
use Rattle.script.specs.declared.codes.Code.{Code}
use Rattle.script.specs.declared.codes.Code.TheVariants.{Rd, Wr, Ck, Pn, Ak, Ab, Rs, Lk}
use Rattle.script.specs.declared.items.Operation.{Operation}
use Rattle.script.specs.declared.items.Operation.TheVariants.{Read, Write, Clocks, Pin, Acknowledge, AcknowledgeBoth, Reset, Look}

-- whether a line starts with a text
abbrev pub starts : List ℕ → List ℕ → Bool
starts [] line = true
starts (letter ∷ text) [] = false
starts (letter ∷ text) (byte ∷ line) = byte == letter && starts text line

-- a line's first two bytes name its operation
abbrev pub code_of : List ℕ → Option Code
code_of line =
    cond (starts (codes "RD") line) (Some Rd)
    (cond (starts (codes "WR") line) (Some Wr)
    (cond (starts (codes "CK") line) (Some Ck)
    (cond (starts (codes "PN") line) (Some Pn)
    (cond (starts (codes "AK") line) (Some Ak)
    (cond (starts (codes "AB") line) (Some Ab)
    (cond (starts (codes "RS") line) (Some Rs)
    (cond (starts (codes "LK") line) (Some Lk)
    None)))))))

-- the largest number of the first field: an address, a pin's code or a register is a byte, clocks have ten digits
abbrev pub first_limit : Code → ℕ
first_limit Rd = 255
first_limit Wr = 255
first_limit Ck = 9999999999
first_limit Pn = 255
first_limit Ak = 0
first_limit Ab = 0
first_limit Rs = 0
first_limit Lk = 255

-- the largest number of the second field: the byte that is written, or a level; the others leave it 0
abbrev pub second_limit : Code → ℕ
second_limit Rd = 0
second_limit Wr = 255
second_limit Ck = 0
second_limit Pn = 1
second_limit Ak = 0
second_limit Ab = 0
second_limit Rs = 0
second_limit Lk = 0

-- what a code says with the numbers of its two fields
abbrev pub operation_of : Code → ℕ → ℕ → Operation
operation_of Rd first second = Read first
operation_of Wr first second = Write first second
operation_of Ck first second = Clocks first
operation_of Pn first second = Pin first (second == 1)
operation_of Ak first second = Acknowledge
operation_of Ab first second = AcknowledgeBoth
operation_of Rs first second = Reset
operation_of Lk first second = Look first
