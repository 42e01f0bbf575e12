use Rattle.std.proofs.Common.{◌≡◌, ◌≤◌, sym, refl, subst}
use Rattle.muart.specs.declared.state.StandIn.{StandIn}
use Rattle.registers.specs.Words.{prescale_of, divide_of}
use Rattle.muart.specs.Firing.{modes_of, watched}
use Rattle.muart.specs.Clock.{ticks_in, quiet_rate_ticks, quiet_at_rate}
use Rattle.muart.specs.Serial.{rate_in}
use Rattle.muart.specs.contracts.state.StandIn.{the_view}
use Rattle.muart.proofs.Jumping.{Horizon, horizon_value, horizon_still}
use Rattle.muart.proofs.state.StandIn.horizon.Goals as goal
use Rattle.muart.proofs.state.StandIn.horizon.Goals.{After-reach}

-- what the methods called tell of the stand-in, said of its fields
known : (c : After-reach) (P : StandIn → Type 0) → P c.args.self.now → P (the_view c.self.inside)
known c P = subst P (sym c.self.view_is)

-- the steps of the code, by name
way : (c : After-reach) → Horizon (the_view c.self.inside) c.reach.result
way c = record {
  m = c.timer_modes.result;
  w = c.watched.result;
  p = prescale_of c.self.inside.rest.registers.command2;
  d = divide_of c.self.inside.rest.registers.command1;
  fires = c.horizon-fires.result;
  steps = c.min-steps.result;
  most = c.reach-most.result;
  rate = c.horizon_at_rate.result;
  least = c.min.result;
  internals = c.min-internals.result;
  modes_are = known c (λ s. c.timer_modes.result ≡ modes_of s.rest.registers) c.timer_modes.ensures;
  watched_are = known c (λ s. c.watched.result ≡ watched s.rest.registers s.rest.mask s.sensitive.levels.requests) c.watched.ensures;
  prescale_is = refl;
  divide_is = refl;
  fires_is = c.horizon-fires.ensures.value;
  quiet = c.horizon-fires.ensures.quiet;
  steps_are = c.min-steps.ensures;
  most_is = rw c.step_ratio.ensures at c.reach-most.ensures.value;
  most_holds = rw c.step_ratio.ensures at c.reach-most.ensures.within;
  rate_is = known c (λ s. c.horizon_at_rate.result ≡ quiet_at_rate (rate_in s) s) c.horizon_at_rate.ensures.value;
  rate_holds = λ n h. known c (λ s. ticks_in n s ≤ quiet_rate_ticks s) (c.horizon_at_rate.ensures.within n h);
  least_is = c.min.ensures;
  internals_are = c.min-internals.ensures;
  r_is = rw c.clock_ratio.ensures at c.reach.ensures.value;
  r_holds = rw c.clock_ratio.ensures at c.reach.ensures.within;
}

pub returns : goal.returns
returns c = rw (← c.self.view_is) (record { value = horizon_value _ _ (way c); sound = c.self.invariant; still = horizon_still _ _ (way c) })
