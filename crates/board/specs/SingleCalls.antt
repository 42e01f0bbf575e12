-- What holds of single calls.
use Rattle.std.specs.Prelude.{◌≡◌, ℕ, ◌+◌, true, false}
use Rattle.board.specs.Perform.{Call, span, answered, State, after}
use Rattle.board.specs.Cuts.{accepted}

-- a refused call leaves the board and its recorders as they were
abbrev pub RefusedCallChangesNothing : Type 0
RefusedCallChangesNothing = (c : Call) (s : State) → accepted (answered c s.board) ≡ false → after c s ≡ s

-- n clocks and then m are n + m, where so many can be run
abbrev pub SpansAdd : Type 0
SpansAdd = (n m : ℕ) (s : State) → accepted (answered (span (n + m)) s.board) ≡ true → after (span m) (after (span n) s) ≡ after (span (n + m)) s
