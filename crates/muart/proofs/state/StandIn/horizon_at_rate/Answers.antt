use Rattle.std.proofs.Common.{sym, ap, ◌∙◌}
use Rattle.muart.specs.Clock.{quiet_at_rate}
use Rattle.muart.specs.contracts.state.StandIn.{the_view}
use Rattle.muart.proofs.Jumping.{no_tick}
use Rattle.muart.proofs.state.StandIn.horizon_at_rate.Goals as goal

pub returns-then-rate_step-eq0 : goal.returns-then-rate_step-eq0
returns-then-rate_step-eq0 c =
    let idle = sym c.rate_step.ensures.value ∙ c.if-rate_step-eq0.true in
    rw (← c.self.view_is) (record {
      value = sym (ap (λ r. quiet_at_rate r (the_view c.self.inside)) idle);
      within = λ n h. no_tick _ n _ _ idle c.self.invariant.remainder;
    })
