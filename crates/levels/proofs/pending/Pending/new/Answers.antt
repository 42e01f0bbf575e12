use Rattle.std.proofs.Common.{ℕ, Bool, false}
use Rattle.std.proofs.lemmas.List.FromFn.{fill_by_all}
use Rattle.levels.proofs.pending.Pending.new.Goals as goal

pub returns : goal.returns
returns c =
    let none : ℕ → Bool = λ k. false in
    λ i. record {
      requests = fill_by_all none (c.default.result.requests) 8 false c.default.ensures.0.long (λ k l. c.default.ensures.0.at k false l) i;
      service = fill_by_all none c.default.result.service 8 false c.default.ensures.1.long (λ k l. c.default.ensures.1.at k false l) i;
    }
