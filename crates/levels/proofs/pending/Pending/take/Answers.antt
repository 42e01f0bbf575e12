use Rattle.std.proofs.Common.{Some}
use Rattle.levels.proofs.Stack.{ready_opens}
use Rattle.levels.specs.Levels.{requesting}
use Rattle.levels.proofs.pending.Pending.take.Goals as goal

pub returns-clause-opens : goal.returns-clause-opens
returns-clause-opens c = ready_opens (Some c.in_ok-level.level)
    (requesting c.args.self.now.requests c.args.mask.now c.args.extint) c.args.self.now.service
    c.args.nesting c.in_ok-level.ensures
