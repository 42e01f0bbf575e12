-- What one line of the listing holds.
use Rattle.std.specs.Prelude.{ℕ, List, ◌++◌, codes, decimal, Result, Ok, Err}
use Rattle.listing.specs.Columns.{justified, padded}
use Rattle.listing.specs.declared.lines.Line.{Line}

-- OK for what was done, NO for what was refused
abbrev pub word_of : Result ℕ ℕ → List ℕ
word_of (Ok answer) = codes "OK"
word_of (Err number) = codes "NO"

-- the answer, or the refusal's number
abbrev pub shown_of : Result ℕ ℕ → ℕ
shown_of (Ok answer) = answer
shown_of (Err number) = number

-- columns 1 to 5 the line's number, 6 blank, 7 and 8 the word, 9 to 12 the answer, 13 to 28 the last number; a line feed
abbrev pub layout : Line → List ℕ
layout line =
    justified 5 line.number ++ codes " " ++ word_of line.answer ++ justified 4 (shown_of line.answer) ++ justified 16 line.last ++ codes "\n"

-- the same line by what `{n}` writes of its numbers
abbrev pub printed : Line → List ℕ
printed line =
    padded 5 (decimal line.number) ++ codes " " ++ word_of line.answer ++ padded 4 (decimal (shown_of line.answer)) ++ padded 16 (decimal line.last) ++ codes "\n"
