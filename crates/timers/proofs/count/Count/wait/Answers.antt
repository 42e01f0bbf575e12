use Rattle.std.proofs.Common.{◌≡◌, ◌&&◌, arith}
use Rattle.timers.specs.Counts.{wait}
use Rattle.timers.proofs.Waits.{count_quiet, count_ends}
use Rattle.timers.proofs.count.Count.wait.Goals as goal

pub returns : goal.returns
returns g c =
    let m = g.Self.Count.MODULUS in
    let count = g.Self.Count.number c.args.self in
    let b : c.if-on.quiet_steps ≡ (c.args.on && c.args.watched) = grind arith in
    let e : c.quiet_steps.result ≡ wait (c.args.on && c.args.watched) g.Self.Count.MODULUS (g.Self.Count.number c.args.self) = grind arith in
    record {
      value = e;
      quiet = rw e (count_quiet m count g.met.Self.Count.wide c.number.ensures.below c.args.on c.args.watched);
      ends = rw e (count_ends m count g.met.Self.Count.wide c.number.ensures.below c.args.on c.args.watched);
    }
