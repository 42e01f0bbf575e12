use Rattle.std.proofs.Common.{ℕ, ◌<◌, subst, rules}
use Rattle.std.specs.List.{AllByRecursion as All}
use Rattle.levels.specs.Sets.{levels}
use Rattle.levels.proofs.Lowest.{levels_within}
use Rattle.levels.proofs.closing.close_all.Goals as goal

pub returns-clause-within : goal.returns-clause-within
returns-clause-within c = subst (λ (n : ℕ). All (λ l. l < n) (levels c.replace.result)) (search rules) (levels_within c.replace.result)
