use Rattle.std.proofs.Common.{◌≡◌, ◌+◌, ◌≤◌}
use Rattle.timing.specs.Run.{times}
use Rattle.recorder.specs.Recording.{Extended, recording, all_marked}
use Rattle.board.specs.Views.{view, clock_once, span_marks, last_clock}
use Rattle.board.proofs.board.Board.run.Given as goal

abbrev pub invariant-loop-left : goal.invariant-loop-left
invariant-loop-left g l =
    (times l.left clock_once (view g.P.Partner.meaning l.self) ≡ times l.clocks clock_once (view g.P.Partner.meaning l.initial.self))
    × (all_marked (span_marks l.left (view g.P.Partner.meaning l.self)) (recording l.wires) ≡ all_marked (span_marks l.clocks (view g.P.Partner.meaning l.initial.self)) (recording l.initial.wires))
    × (l.left ≤ 16777216)
    × (l.self.clock + l.left ≤ last_clock)
    × Extended l.initial.wires l.wires

abbrev pub decreases-loop-left : goal.decreases-loop-left
decreases-loop-left g l = l.left
