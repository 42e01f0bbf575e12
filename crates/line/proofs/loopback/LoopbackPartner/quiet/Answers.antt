use Rattle.line.proofs.Elapsing.{last_heard_steady}
use Rattle.line.proofs.loopback.LoopbackPartner.quiet.Goals as goal

pub returns-clause-steady : goal.returns-clause-steady
returns-clause-steady c = last_heard_steady c.args.self.now.heard
