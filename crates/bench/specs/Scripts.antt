-- Script lines run one after the other.
use Rattle.std.specs.Prelude.{◌≡◌, ℕ, suc, cond, List, [], ◌∷◌, ◌++◌, take, Some, None, Ok, Err, Option, Result, nat_lt}
use Rattle.script.specs.declared.items.Fault.{Fault}
use Rattle.script.specs.Lines.{Content, step, note, parsed, kept_bytes}
use Rattle.listing.specs.Layout.{layout}
use Rattle.board.specs.Perform.{Call, Answer, State}
use Rattle.board.specs.Histories.{ran, answers}
use Rattle.bench.specs.Operations.{calls_of, last_listed, last_answer, line_of, fault_line}

-- the calls that a script line makes: those of its operation; a note, or a line that cannot stand, makes none
abbrev pub item_calls : Result Content Fault → State → List Call
item_calls (Ok (step operation)) s = calls_of operation s
item_calls (Ok (note bytes)) s = []
item_calls (Err fault) s = []

-- what a line prints: a note nothing, an operation its answer and the clock number after it, a line that cannot stand its first such column
abbrev pub item_prints : ℕ → Result Content Fault → State → Option (List ℕ)
item_prints number (Ok (step operation)) s = Some (layout (line_of number (last_listed (calls_of operation s) s) (ran (calls_of operation s) s).board.clock))
item_prints number (Ok (note bytes)) s = None
item_prints number (Err fault) s = Some (layout (fault_line number fault.column))

-- the last line that is run
abbrev pub last_line : ℕ
last_line = 99999

-- a line past the last one is not run, whatever it says
abbrev pub said_calls : ℕ → Result Content Fault → State → List Call
said_calls number said s = cond (nat_lt last_line number) [] (item_calls said s)

abbrev pub said_prints : ℕ → Result Content Fault → State → Option (List ℕ)
said_prints number said s = cond (nat_lt last_line number) None (item_prints number said s)

-- the calls that a line makes, and what it prints
abbrev pub line_calls : ℕ → List ℕ → State → List Call
line_calls number line s = said_calls number (parsed line) s

abbrev pub line_prints : ℕ → List ℕ → State → Option (List ℕ)
line_prints number line s = said_prints number (parsed line) s

-- a line runs and prints as the bytes kept of it do
pub record RunsAlike (number : ℕ) (line kept : List ℕ) (s : State) : Type 0 where
  pub calls : line_calls number kept s ≡ line_calls number line s
  pub prints : line_prints number kept s ≡ line_prints number line s

abbrev pub StartRuns : Type 0
StartRuns = (number : ℕ) (line : List ℕ) (s : State) → RunsAlike number line (take kept_bytes line) s

-- where the lines of a script, numbered from n on, leave a board
abbrev pub script_leaves : ℕ → List (List ℕ) → State → State
script_leaves n [] s = s
script_leaves n (line ∷ lines) s = script_leaves (suc n) lines (ran (line_calls n line s) s)

-- the calls that they make
abbrev pub script_calls : ℕ → List (List ℕ) → State → List Call
script_calls n [] s = []
script_calls n (line ∷ lines) s = line_calls n line s ++ script_calls (suc n) lines (ran (line_calls n line s) s)

-- a board after a script is the board after the history of the script's calls
abbrev pub ScriptIsAHistory : Type 0
ScriptIsAHistory = (n : ℕ) (lines : List (List ℕ)) (s : State) → script_leaves n lines s ≡ ran (script_calls n lines s) s

-- what a script's lines answer, line by line
abbrev pub script_answers : ℕ → List (List ℕ) → State → List Answer
script_answers n [] s = []
script_answers n (line ∷ lines) s = answers (line_calls n line s) s ++ script_answers (suc n) lines (ran (line_calls n line s) s)

-- the history of a script's calls answers what the lines answer, and an operation lists the last answer of its calls
pub record ScriptAnswers : Type 0 where
  pub answered : (n : ℕ) (lines : List (List ℕ)) (s : State) → script_answers n lines s ≡ answers (script_calls n lines s) s
  pub listed : (cs : List Call) (s : State) → last_listed cs s ≡ last_answer (answers cs s)
