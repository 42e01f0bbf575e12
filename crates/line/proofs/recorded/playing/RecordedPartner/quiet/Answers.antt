use Rattle.std.proofs.Common.{rules}
use Rattle.line.specs.Plays.{to_come}
use Rattle.line.proofs.Playing.{quiet_steady}
use Rattle.line.proofs.recorded.playing.RecordedPartner.quiet.Goals as goal

pub returns : goal.returns
returns c = let steady = quiet_steady c.args.self.now.level (to_come c.args.self.now) in search rules
