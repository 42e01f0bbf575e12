use Rattle.std.proofs.Common.{rules, not, ◌&&◌}
use Rattle.levels.proofs.Meeting.{meets}
use Rattle.levels.proofs.masks.difference.Goals as goal

pub returns : goal.returns
returns c =
    meets (λ a b. a && not b) _ _ c.args.set.now c.args.other.now c.from_fn.result 8 (λ i y q k. search rules)
    c.from_fn.ensures.items c.told-set c.told-other
