use Rattle.std.proofs.Common.{◌≡◌, length}
use Rattle.line.specs.Meaning.{elapsed}
use Rattle.line.specs.Plays.{tape, to_come}
use Rattle.line.proofs.recorded.playing.RecordedPartner.advance.Given as goal

abbrev pub invariant-loop-self : goal.invariant-loop-self
invariant-loop-self l = elapsed l.clocks (tape l.self) ≡ elapsed l.initial.clocks (tape l.initial.self)

abbrev pub decreases-loop-self : goal.decreases-loop-self
decreases-loop-self l = length (to_come l.self)
