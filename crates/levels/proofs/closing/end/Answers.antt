use Rattle.std.proofs.Common.{Some, None, rules}
use Rattle.levels.proofs.Stack.{ending}
use Rattle.levels.proofs.closing.end.Goals as goal

pub returns-in_err-level : goal.returns-in_err-level
returns-in_err-level c =
    let e = ending None c.args.service.now c.in_err-level.ensures in
    rw c.from_residual.ensures (record { closes = c.in_err-level.ensures; after = e.0; stack = e.1 })

pub returns : goal.returns
returns c =
    let e = ending (Some c.in_ok-level.level) c.args.service.now c.in_ok-level.ensures in
    record { closes = search (rules, c.in_ok-level.ensures); after = search (rules, e.0); stack = search (rules, e.0, e.1) }
