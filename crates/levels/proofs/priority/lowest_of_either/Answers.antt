use Rattle.std.proofs.Common.{◌≡◌, ◌||◌, rules, tests, ◌∙◌, arith}
use Rattle.std.proofs.lemmas.Iterator.{YieldsList-from_slice, YieldsList-from_zip}
use Rattle.std.proofs.lemmas.Iterator.Search.{position_from_yields_List}
use Rattle.levels.specs.Sets.{lowest, union}
use Rattle.levels.proofs.Lowest.{either_lowest}
use Rattle.levels.proofs.priority.lowest_of_either.Goals as goal

pub returns : goal.returns
returns c =
    let found : c.position.result ≡ lowest (union c.args.requests.now c.args.service.now) =
    position_from_yields_List (λ p. p.0 || p.1) c.position.new.self _ c.position.result c.position.ensures.ran
    (YieldsList-from_zip (YieldsList-from_slice c.args.requests.now (search rules)) (YieldsList-from_slice c.args.service.now (search rules)))
    (λ x b q k. search (rules, tests))
    ∙ either_lowest c.args.requests.now c.args.service.now (omega (arith, c.told-requests, c.told-service)) in
    rw (← found) (search rules)
