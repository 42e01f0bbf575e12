use Rattle.std.proofs.Common.{◌≡◌, rules, tests, ◌∙◌}
use Rattle.std.proofs.lemmas.Iterator.{YieldsList-from_slice}
use Rattle.std.proofs.lemmas.Iterator.Search.{position_from_yields_List}
use Rattle.levels.specs.Sets.{lowest}
use Rattle.levels.proofs.Lowest.{lowest_position}
use Rattle.levels.proofs.priority.lowest_of.Goals as goal

pub returns : goal.returns
returns c =
    let found : c.position.result ≡ lowest c.args.set.now =
    position_from_yields_List (λ b. b) _ _ c.position.result c.position.ensures.ran
    (YieldsList-from_slice c.args.set.now c.iter.ensures.rest) (λ x b q k. search (rules, tests))
    ∙ lowest_position c.args.set.now in
    rw (← found) (search rules)
