-- An input as lines, each ended by a line feed. A last line without one counts if it has a byte.
use Rattle.std.specs.Prelude.{ℕ, cond, List, [], ◌∷◌, take, None, Some, Option, ◌==◌}

-- the first line: the bytes before the first line feed
abbrev pub first_of : List ℕ → List ℕ
first_of [] = []
first_of (b ∷ bytes) = cond (b == 10) [] (b ∷ first_of bytes)

-- what follows the first line and its line feed
abbrev pub after_first : List ℕ → List ℕ
after_first [] = []
after_first (b ∷ bytes) = cond (b == 10) bytes (after_first bytes)

-- the first line as a buffer keeps it, if there is one
abbrev pub first_kept : ℕ → List ℕ → Option (List ℕ)
first_kept kept [] = None
first_kept kept (b ∷ bytes) = Some (take kept (first_of (b ∷ bytes)))

-- a byte at the front of the first line
abbrev pub onto_first : ℕ → List (List ℕ) → List (List ℕ)
onto_first b [] = (b ∷ []) ∷ []
onto_first b (line ∷ lines) = (b ∷ line) ∷ lines

-- all lines
abbrev pub lines_of : List ℕ → List (List ℕ)
lines_of [] = []
lines_of (b ∷ bytes) = cond (b == 10) ([] ∷ lines_of bytes) (onto_first b (lines_of bytes))
