-- What a line says, or the first column that cannot stand.
use Rattle.std.specs.Prelude.{◌≡◌, ℕ, cond, List, length, take, Some, None, Ok, Err, codes, Option, Result, nat_le}
use Rattle.script.specs.Codes.{starts, code_of, first_limit, second_limit, operation_of}
use Rattle.script.specs.Fields.{at, and_then, bounded_of}
use Rattle.script.specs.declared.codes.Code.{Code}
use Rattle.script.specs.declared.items.Fault.{Fault}
use Rattle.script.specs.declared.items.Item.{Item}
use Rattle.script.specs.declared.items.Item.TheVariants.{Step, Note}
use Rattle.script.specs.declared.items.Operation.{Operation}

-- an operation, or a note with its bytes
pub data Content : Type 0 where
  step : Operation → Content
  note : List ℕ → Content

-- a code's two fields, in columns 3 to 12 and 13 to 16, where the line ends
abbrev pub fielded : Option Code → List ℕ → Result Operation Fault
fielded None line = at 1
fielded (Some code) line =
    and_then (bounded_of 3 12 (first_limit code) line) (λ first.
    and_then (bounded_of 13 16 (second_limit code) line) (λ second.
    cond (nat_le (length line) 16) (Ok (operation_of code first second)) (at 17)))

-- the operation of a line
abbrev pub operated : List ℕ → Result Operation Fault
operated line = fielded (code_of line) line

-- a note has at most 80 bytes
abbrev pub noted : List ℕ → Result Content Fault
noted line = cond (nat_le (length line) 80) (Ok (note line)) (at 81)

-- a line that starts with a star is a note, any other has an operation
abbrev pub parsed : List ℕ → Result Content Fault
parsed line = cond (starts (codes "*") line) (noted line) (and_then (operated line) (λ operation. Ok (step operation)))

-- an item with a note's bytes in place of their reference
abbrev pub item_content : Item → Content
item_content (Step operation) = step operation
item_content (Note bytes) = note bytes.now

-- what `parse` answers, with a note's bytes in place of their reference
abbrev pub content : Result Item Fault → Result Content Fault
content (Ok item) = Ok (item_content item)
content (Err fault) = Err fault

-- the bytes of a line that can matter: one more than the longest note has
abbrev pub kept_bytes : ℕ
kept_bytes = 81

-- what a line says is decided by its first n bytes
abbrev pub DecidedBy : ℕ → Type 0
DecidedBy n = (line : List ℕ) → parsed (take n line) ≡ parsed line

-- what a line says is decided by the bytes that can matter
abbrev pub StartDecides : Type 0
StartDecides = DecidedBy kept_bytes
