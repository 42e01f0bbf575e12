-- A field of a line: its number, or the first column that cannot stand.
use Rattle.std.specs.Prelude.{ℕ, zero, suc, ◌+◌, ◌-◌, ◌*◌, Bool, true, false, cond, not, ◌&&◌, List, [], ◌∷◌, drop, Ok, Err, Result, ◌==◌, nat_le, nat_lt}
use Rattle.std.specs.Char.{is_ascii_digit}
use Rattle.script.specs.declared.items.Fault.{Fault}

-- the refusal at a column
abbrev pub at : {X : Type 0} → ℕ → Result X Fault
at column = Err (record { column = column })

-- a blank may stand before the first digit, and not in the last column
abbrev pub is_padding : ℕ → Bool → ℕ → Bool
is_padding byte seen left = byte == 32 && not seen && nat_lt 0 left

-- the bytes from a column on, with so many columns of the field left, are read on: whether a digit was seen, and the number so far
abbrev pub read_on : ℕ → ℕ → Bool → ℕ → List ℕ → Result ℕ Fault
read_on zero column seen number bytes = Ok number
read_on (suc left) column seen number [] = at column
read_on (suc left) column seen number (byte ∷ bytes) =
    cond (is_ascii_digit byte) (read_on left (column + 1) true (number * 10 + (byte - 48)) bytes)
    (cond (is_padding byte seen left) (read_on left (column + 1) false number bytes)
    (at column))

-- the field from its first to its last column
abbrev pub field_of : ℕ → ℕ → List ℕ → Result ℕ Fault
field_of first last line = read_on (last + 1 - first) first false 0 (drop (first - 1) line)

-- what follows a step that may refuse
abbrev pub and_then : {X Y : Type 0} → Result X Fault → (X → Result Y Fault) → Result Y Fault
and_then (Ok x) next = next x
and_then (Err fault) next = Err fault

-- a number past the limit is refused at the field's first column
abbrev pub bounded_of : ℕ → ℕ → ℕ → List ℕ → Result ℕ Fault
bounded_of first last limit line = and_then (field_of first last line) (λ number. cond (nat_le number limit) (Ok number) (at first))
