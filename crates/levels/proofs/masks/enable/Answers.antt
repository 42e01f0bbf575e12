use Rattle.std.proofs.Common.{rules, ◌||◌, ap, ◌∙◌}
use Rattle.levels.specs.Sets.{union}
use Rattle.levels.proofs.Meeting.{meets}
use Rattle.levels.proofs.masks.enable.Goals as goal

pub returns : goal.returns
returns c =
    meets ◌||◌ _ _ c.args.mask.now c.flags_of-chosen.result c.from_fn.result 8 (λ i y q k. search rules)
    c.from_fn.ensures.items c.told-mask (search rules)
    ∙ ap (union c.args.mask.now) c.flags_of-chosen.ensures.bits
