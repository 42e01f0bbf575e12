-- A bench as the rules see it.
use Rattle.line.specs.LastHeard.{plug}
use Rattle.board.specs.Perform.{State, state}
use Rattle.bench.specs.declared.bench.Bench.{Bench}

abbrev pub state_of : Bench → State
state_of b = state plug b.board b.recorders
