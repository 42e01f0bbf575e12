-- The listing of a whole script.
use Rattle.std.specs.Prelude.{◌≡◌, ℕ, suc, List, [], ◌∷◌, ◌++◌, None, Some, Option}
use Rattle.script.specs.Inputs.{lines_of}
use Rattle.board.specs.Perform.{Call, State}
use Rattle.board.specs.Histories.{ran}
use Rattle.bench.specs.Scripts.{line_calls, line_prints}

-- what a line adds to the listing
abbrev pub printed : Option (List ℕ) → List ℕ
printed None = []
printed (Some bytes) = bytes

-- the listing of lines that are numbered from n on
abbrev pub listing_from : ℕ → List (List ℕ) → State → List ℕ
listing_from n [] s = []
listing_from n (line ∷ lines) s = printed (line_prints n line s) ++ listing_from (suc n) lines (ran (line_calls n line s) s)

-- the listing of a script, given by its bytes
abbrev pub listing_of : List ℕ → State → List ℕ
listing_of bytes s = listing_from 1 (lines_of bytes) s

-- some history of calls leads from one state to the other
abbrev pub LedTo : State → State → Type 0
LedTo s t = (h : List Call) × (t ≡ ran h s)
