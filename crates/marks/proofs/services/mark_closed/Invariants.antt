use Rattle.std.proofs.Common.{◌≡◌, drop}
use Rattle.recorder.specs.Recording.{Extended, recording, all_marked}
use Rattle.marks.specs.Marks.{closed_from, closed_marks}
use Rattle.marks.proofs.services.mark_closed.Given as goal

-- the levels from this one on are still to be marked
abbrev pub invariant-loop-level : goal.invariant-loop-level
invariant-loop-level l =
    (all_marked (closed_from l.clock l.level (drop l.level l.closed)) (recording l.services) ≡ all_marked (closed_marks l.clock l.closed) (recording l.initial.services))
    × Extended l.initial.services l.services
